use Rattle.std.proofs.Common.{false, Option, Some, sym, subst, ap}
use Rattle.std.specs.Option.{option_map}
use Rattle.ups_assoc.specs.Feeding.{fed}
use Rattle.ups_session.specs.declared.effect.AwaitedRequest.{AwaitedRequest}
use Rattle.ups_session.specs.declared.effect.Effect.{Effect}
use Rattle.ups_session.specs.Acceptor.{on_message_effect, Continues, Received}
use Rattle.ups_session.specs.Association.{EstablishedView, AssociationView}
use Rattle.ups_session.specs.Sides.{ReactionOf, sending}
use Rattle.ups_session.specs.Effects.{association_view, established_view, message_effect}
use Rattle.ups_session.proofs.association.Association.on_data.Goals as goal

pub returns-in-Some-2-clause-reaction : goal.returns-in-Some-2-clause-reaction
returns-in-Some-2-clause-reaction g c =
    let association = association_view c.args.self.now in
    let established = established_view c.in-Some.established in
    let progress = fed c.in-Some.established.assembler.ids c.in-Some.established.assembler.begun c.args.pdv in
    let mid : AssociationView g.row.A.Denot = record { state = association.state; established = Some (established_view c.on_pdv.new.established); ending = association.ending } in
    subst (λ (o : Option (EstablishedView g.row.A.Denot)). Received false c.args.config.now.offset association o c.args.pdv (on_message_effect false mid (message_effect (Some c.in-Some-2.effect)))) (sym (ap (option_map established_view) c.in-Some.is))
    (subst (λ (found : Option (Effect g.row.A.Denot (AwaitedRequest g.row.A.Denot))). Continues false c.args.config.now.offset association established progress (on_message_effect false mid (message_effect found))) c.in-Some-2.is
    (c.in_ok-effect.ensures.effect association))

pub returns-in_ok-abort-in-None-clause-reaction : goal.returns-in_ok-abort-in-None-clause-reaction
returns-in_ok-abort-in-None-clause-reaction g c =
    let association = association_view c.args.self.now in
    let established = established_view c.in-Some.established in
    let progress = fed c.in-Some.established.assembler.ids c.in-Some.established.assembler.begun c.args.pdv in
    let mid : AssociationView g.row.A.Denot = record { state = association.state; established = Some (established_view c.on_pdv.new.established); ending = association.ending } in
    let reaction : ReactionOf g.row.A.Denot = sending (association_view c.abort.new.self) c.in_ok-abort-in-None.field-0.items in
    subst (λ (o : Option (EstablishedView g.row.A.Denot)). Received false c.args.config.now.offset association o c.args.pdv reaction) (sym (ap (option_map established_view) c.in-Some.is))
    (subst (λ (t : ReactionOf g.row.A.Denot). Continues false c.args.config.now.offset association established progress t) (sym c.in_ok-abort-in-None.ensures.reaction)
    (subst (λ (found : Option (Effect g.row.A.Denot (AwaitedRequest g.row.A.Denot))). Continues false c.args.config.now.offset association established progress (on_message_effect false mid (message_effect found))) c.in-None.is
    (c.in_ok-effect.ensures.effect association)))
