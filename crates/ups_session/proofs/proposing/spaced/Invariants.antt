use Rattle.std.proofs.Common.{◌≡◌, ◌++◌, ◌-◌, take, replicate}
use Rattle.ups_session.proofs.proposing.spaced.Given as goal

abbrev pub invariant-loop-i : goal.invariant-loop-i
invariant-loop-i l = l.bytes ≡ take l.i l.text ++ replicate (16 - l.i) 32
