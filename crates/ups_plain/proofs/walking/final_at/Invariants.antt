use Rattle.std.proofs.Common.{◌≡◌, take}
use Rattle.ups_life.specs.Steps.{past, state, final_at}
use Rattle.ups_plain.proofs.walking.final_at.Given as goal

abbrev pub invariant-loop-entry : goal.invariant-loop-entry
invariant-loop-entry g l = record {
  found : l.found ≡ final_at (past (take l.entry-index l.entries)) l.step;
  state : l.state ≡ state (past (take l.entry-index l.entries)) l.step;
}
