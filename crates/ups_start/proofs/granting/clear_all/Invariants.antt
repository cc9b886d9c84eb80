use Rattle.std.proofs.Common.{◌≡◌}
use Rattle.ups_start.specs.Shelved.{kept_in, IsSound}
use Rattle.ups_start.proofs.granting.clear_all.Given as goal

abbrev pub invariant-loop : goal.invariant-loop
invariant-loop g l = record {
  same : IsSound l.shelf → kept_in l.shelf ≡ kept_in l.initial.shelf;
  sound : IsSound l.shelf → IsSound l.initial.shelf;
}
