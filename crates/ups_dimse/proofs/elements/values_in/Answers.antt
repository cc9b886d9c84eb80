use Rattle.std.proofs.Common.{rules}
use Rattle.ups_dimse.proofs.Sorting.{passed_next}
use Rattle.ups_dimse.proofs.Walk.{not_here, too_low}
use Rattle.ups_dimse.proofs.elements.values_in.Goals as goal

pub returns-in_default : goal.returns-in_default
returns-in_default c = not_here _ c.loop-rest.from c.loop-rest.rest.now c.loop-rest.invariant.on (search rules) c.in_default.ensures

pub returns-then-from : goal.returns-then-from
returns-then-from c = too_low _ c.loop-rest.from c.loop-rest.rest.now _ _ c.loop-rest.invariant.on c.in-Some.ensures (search rules)

pub loop-rest-preserved : goal.loop-rest-preserved
loop-rest-preserved c = rw c.from-from.ensures (passed_next _ c.loop-rest.from c.loop-rest.rest.now _ _ _ _ c.loop-rest.invariant c.in-Some.ensures (search rules) c.keep.ensures)
