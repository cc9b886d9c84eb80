use Rattle.std.proofs.Common.{List, subst, refl, sym, ap, ◌∙◌}
use Rattle.std.specs.List.{AllByRecursion}
use Rattle.std.proofs.lemmas.Result.{err_from_is_err_and}
use Rattle.ups_pdu.specs.declared.pdu.Pdu.{Pdu}
use Rattle.ups_pdu.specs.Fits.{Fits}
use Rattle.ups_session.specs.declared.delivery.DeliveryCall.{DeliveryCall}
use Rattle.ups_session.specs.declared.effect.Effect.{Effect}
use Rattle.ups_session.specs.declared.delivery.DeliveryCall.TheVariants.{Pendings, Acknowledgement}
use Rattle.ups_session.specs.Deliveries.{delivery_view, delivery_reaction_of, IsSendableDelivery}
use Rattle.ups_session.specs.Requestor.{DeliveryReaction, requestor, saying, awaiting, on_acknowledged}
use Rattle.ups_session.specs.World.{SendsAlone}
use Rattle.ups_session.proofs.Delivered.{acknowledged_calls}
use Rattle.ups_session.proofs.Settling.{settled_asked, settled_said, settled_lost, on_ok}
use Rattle.ups_session.proofs.requestor.acknowledge.Goals as goal

pub returns-in_err-said-clause-settled : goal.returns-in_err-said-clause-settled
returns-in_err-said-clause-settled g c = λ config.
    let p = err_from_is_err_and c.from_residual.result c.from_residual.ensures.1 in
    let next = on_acknowledged (delivery_view c.args.delivery.now) c.call-reply.result in
    rw (p.1, p.2, c.in_err-said.ensures.memory)
    (settled_asked (requestor config c.args.ae) (delivery_view c.args.delivery.now) (delivery_view c.on_acknowledged.new.self) (Acknowledgement c.args.number) c.call-reply.result next _ _ _ _ c.call-reply.ensures.answered refl
    (settled_lost (requestor config c.args.ae) next (delivery_view c.on_acknowledged.new.self) _ c.in_err-said.ensures.lost))

pub send_pdus-requires : goal.send_pdus-requires
send_pdus-requires g c = record {
  fits = subst (λ (l : List (Pdu g.row.A.Denot)). AllByRecursion (λ p. Fits p) l) (sym c.as_slice.ensures.value) (subst (λ (m : Effect g.row.A.Denot DeliveryCall). IsSendableDelivery m) c.in-Send.is c.in_ok-said.ensures.writable);
}

pub returns-in-Send-clause-settled : goal.returns-in-Send-clause-settled
returns-in-Send-clause-settled g c = λ config.
    let v = delivery_view c.on_acknowledged.new.self in
    let next = saying v c.in-Send.said.items in
    let said = subst (λ (l : List (Pdu g.row.A.Denot)). SendsAlone l (g.E.Environment.world c.call-reply.new.self) (g.E.Environment.world c.send_pdus.new.self) c.send_pdus.result) c.as_slice.ensures.value c.send_pdus.ensures.sent in
    settled_asked (requestor config c.args.ae) (delivery_view c.args.delivery.now) v (Acknowledgement c.args.number) c.call-reply.result next _ _ _ _ c.call-reply.ensures.answered (sym (ap (delivery_reaction_of v) c.in-Send.is) ∙ c.in_ok-said.ensures.reaction)
    (settled_said (requestor config c.args.ae) next v _ _ c.send_pdus.result refl (on_ok v c.send_pdus.result) said)

pub unreachable-requires : goal.unreachable-requires
unreachable-requires g c = subst (λ (m : Effect g.row.A.Denot DeliveryCall). IsSendableDelivery m) c.in-Respond.is c.in_ok-said.ensures.writable

pub returns-clause-settled : goal.returns-clause-settled
returns-clause-settled g c = λ config.
    let v = delivery_view c.on_acknowledged.new.self in
    let replied = sym (ap (delivery_reaction_of v) c.in-Call.is) ∙ c.in_ok-said.ensures.reaction in
    let pendings = acknowledged_calls (delivery_view c.args.delivery.now) c.call-reply.result c.in-Call.field-0 (sym (ap (λ (x : DeliveryReaction g.row.A.Denot). x.waiting) replied)) in
    settled_asked (requestor config c.args.ae) (delivery_view c.args.delivery.now) (delivery_view c.ask_pendings.new.delivery) (Acknowledgement c.args.number) c.call-reply.result (awaiting v Pendings) _ _ _ _ c.call-reply.ensures.answered (ap (awaiting v) (sym pendings) ∙ replied) (c.ask_pendings.ensures.settled config)
