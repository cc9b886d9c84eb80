use Rattle.std.proofs.Common.{◌≡◌, take}
use Rattle.ups_life.specs.Steps.{past}
use Rattle.ups_life.specs.Watching.{cover}
use Rattle.ups_plain.proofs.walking.cover.Given as goal

abbrev pub invariant-loop-entry : goal.invariant-loop-entry
invariant-loop-entry g l = l.found ≡ cover l.peers (past (take l.entry-index l.entries)) l.ae l.attributes
