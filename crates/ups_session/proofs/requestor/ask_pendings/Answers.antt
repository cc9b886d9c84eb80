use Rattle.std.proofs.Common.{List, subst, refl}
use Rattle.std.proofs.lemmas.Result.{err_from_is_err_and}
use Rattle.ups_pdu.specs.declared.pdu.Pdu.{Pdu}
use Rattle.ups_session.specs.declared.delivery.DeliveryCall.TheVariants.{Pendings}
use Rattle.ups_session.specs.Deliveries.{delivery_view}
use Rattle.ups_session.specs.Requestor.{requestor, saying, on_pendings}
use Rattle.ups_session.specs.World.{SendsAlone}
use Rattle.ups_session.proofs.Settling.{settled_asked, settled_said, settled_lost, on_ok}
use Rattle.ups_session.proofs.requestor.ask_pendings.Goals as goal

pub returns-in_err-said-clause-settled : goal.returns-in_err-said-clause-settled
returns-in_err-said-clause-settled g c = λ config.
    let p = err_from_is_err_and c.from_residual.result c.from_residual.ensures.1 in
    let next = on_pendings (delivery_view c.args.delivery.now) c.call-reply.result in
    rw (p.1, p.2, c.in_err-said.ensures.memory)
    (settled_asked (requestor config c.args.ae) (delivery_view c.args.delivery.now) (delivery_view c.on_pendings.new.self) Pendings c.call-reply.result next _ _ _ _ c.call-reply.ensures.answered refl
    (settled_lost (requestor config c.args.ae) next (delivery_view c.on_pendings.new.self) _ c.on_pendings.ensures.silent))

pub returns-clause-settled : goal.returns-clause-settled
returns-clause-settled g c = λ config.
    let next = saying (delivery_view c.on_pendings.new.self) c.in_ok-said.said.items in
    let said = subst (λ (l : List (Pdu g.row.A.Denot)). SendsAlone l (g.E.Environment.world c.call-reply.new.self) (g.E.Environment.world c.send_pdus.new.self) c.send_pdus.result) c.as_slice.ensures.value c.send_pdus.ensures.sent in
    settled_asked (requestor config c.args.ae) (delivery_view c.args.delivery.now) (delivery_view c.on_pendings.new.self) Pendings c.call-reply.result next _ _ _ _ c.call-reply.ensures.answered c.in_ok-said.ensures.reaction
    (settled_said (requestor config c.args.ae) next (delivery_view c.on_pendings.new.self) _ _ c.send_pdus.result refl (on_ok (delivery_view c.on_pendings.new.self) c.send_pdus.result) said)
