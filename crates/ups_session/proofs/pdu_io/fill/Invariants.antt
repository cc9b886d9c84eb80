use Rattle.std.proofs.Common.{◌≡◌, ◌≤◌, ◌-◌, ℕ, List, ◌++◌, length, take}
use Rattle.std.specs.Io.KnownBytes.{Consumes}
use Rattle.ups_session.proofs.pdu_io.fill.Given as goal

abbrev pub invariant-loop-at : goal.invariant-loop-at
invariant-loop-at g l = (length l.buf ≡ length l.initial.buf) × (l.from ≤ l.at) × (l.at ≤ length l.buf)
    × (input : List ℕ) × Consumes l.initial.reader.left l.reader.left input × (take l.at l.buf ≡ take l.from l.initial.buf ++ input)

abbrev pub decreases-loop-at : goal.decreases-loop-at
decreases-loop-at g l = length l.buf - l.at
