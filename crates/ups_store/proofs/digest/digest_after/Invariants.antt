use Rattle.std.proofs.Common.{◌≡◌, take}
use Rattle.ups_store.specs.Digest.{digest_after}
use Rattle.ups_store.proofs.digest.digest_after.Given as goal

abbrev pub invariant-loop-at : goal.invariant-loop-at
invariant-loop-at l = l.digest ≡ digest_after l.before (take l.at l.records)
