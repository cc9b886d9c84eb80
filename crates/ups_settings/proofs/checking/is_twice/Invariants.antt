use Rattle.std.proofs.Common.{◌≡◌, drop}
use Rattle.ups_settings.specs.Refusal.{is_twice}
use Rattle.ups_settings.proofs.checking.is_twice.Given as goal

abbrev pub invariant-loop-place : goal.invariant-loop-place
invariant-loop-place l = is_twice l.peers ≡ is_twice (drop l.place l.peers)
