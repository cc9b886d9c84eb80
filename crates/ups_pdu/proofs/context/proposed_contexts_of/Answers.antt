use Rattle.ups_pdu.specs.Context.{SpellsProposedContext}
use Rattle.ups_pdu.proofs.Collecting.{collects_next, collects_some, collects_end}
use Rattle.ups_pdu.proofs.context.proposed_contexts_of.Goals as goal

pub loop-content-preserved-in_ok-push : goal.loop-content-preserved-in_ok-push
loop-content-preserved-in_ok-push g c = λ found h xs s.
    rw c.in_ok-push.ensures.items
    (collects_next (SpellsProposedContext {A = g.row.A.Denot}) _ _ _ _ found _ c.in-Some.ensures.next _ (rw c.in-Some-2.is at c.in_ok-context.ensures) (c.loop-content.invariant found h xs s))

pub loop-content-preserved : goal.loop-content-preserved
loop-content-preserved g c = λ found h xs s.
    let some = collects_some (SpellsProposedContext {A = g.row.A.Denot}) _ _ _ _ found _ c.in-Some.ensures.next (c.loop-content.invariant found h xs s) in
    absurd ((rw c.in_default-2.is at c.in_ok-context.ensures) some.0 some.1)

pub returns : goal.returns
returns g c = λ found h xs s. rw c.from_vec.ensures (collects_end (SpellsProposedContext {A = g.row.A.Denot}) _ _ found _ c.in_default.ensures.next (c.loop-content.invariant found h xs s))
