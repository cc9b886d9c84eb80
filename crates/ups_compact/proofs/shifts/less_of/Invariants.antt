use Rattle.std.proofs.Common.{◌≡◌, drop}
use Rattle.ups_compact.specs.Shifts.{less_by}
use Rattle.ups_compact.proofs.shifts.less_of.Given as goal

abbrev pub invariant-loop-shift : goal.invariant-loop-shift
invariant-loop-shift l = less_by l.shifts l.title ≡ less_by (drop l.shift-index l.shifts) l.title
