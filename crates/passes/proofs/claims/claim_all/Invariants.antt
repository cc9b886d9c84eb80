use Rattle.std.proofs.Common.{◌≡◌}
use Rattle.passes.proofs.claims.claim_all.Given as goal

abbrev pub invariant-loop-number : goal.invariant-loop-number
invariant-loop-number g l = l.pass.table ≡ l.initial.pass.table
