use Rattle.std.proofs.Common.{◌≡◌, drop}
use Rattle.ups_life.specs.Values.{first_given_fault}
use Rattle.ups_rules.proofs.checks.first_given_fault.Given as goal

abbrev pub invariant-loop-checked : goal.invariant-loop-checked
invariant-loop-checked g l = first_given_fault l.table l.set ≡ first_given_fault (drop l.checked-index l.table) l.set
