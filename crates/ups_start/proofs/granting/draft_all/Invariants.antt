use Rattle.std.proofs.Common.{◌≡◌, map, take}
use Rattle.ups_start.specs.Granted.{as_granted}
use Rattle.ups_start.specs.Shelved.{kept_in, drafts_of, IsSound}
use Rattle.ups_start.proofs.granting.draft_all.Given as goal

abbrev pub invariant-loop : goal.invariant-loop
invariant-loop g l = record {
  put : IsSound l.shelf → drafts_of l.shelf ≡ map (as_granted l.was l.peers) (take l.done (kept_in l.initial.shelf));
  same : IsSound l.shelf → kept_in l.shelf ≡ kept_in l.initial.shelf;
  sound : IsSound l.shelf → IsSound l.initial.shelf;
}
