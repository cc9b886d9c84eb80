use Rattle.ups_pdu.proofs.Collecting.{collects_next, collects_some, collects_end}
use Rattle.ups_pdu.proofs.item.all_of.Goals as goal

pub loop-content-preserved-in_ok-push : goal.loop-content-preserved-in_ok-push
loop-content-preserved-in_ok-push g c = λ found h xs s.
    rw c.in_ok-push.ensures.items (collects_next g.T.Spelled.spells _ _ _ _ found _ c.in-Some.ensures.next _ c.in-Some-spelled_by.ensures (c.loop-content.invariant found h xs s))

pub loop-content-preserved : goal.loop-content-preserved
loop-content-preserved g c = λ found h xs s.
    let some = collects_some g.T.Spelled.spells _ _ _ _ found _ c.in-Some.ensures.next (c.loop-content.invariant found h xs s) in
    absurd (c.in_default-spelled_by.ensures some.0 some.1)

pub returns : goal.returns
returns g c = λ found h xs s. collects_end g.T.Spelled.spells _ _ found _ c.in_default.ensures.next (c.loop-content.invariant found h xs s)
