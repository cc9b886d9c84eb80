use Rattle.std.proofs.Common.{inl, refl, sym, subst, ◌∙◌}
use Rattle.ups_life.specs.declared.request.Reply.{Reply}
use Rattle.ups_life.specs.Steps.{past}
use Rattle.ups_service.specs.Law.{SmallReply}
use Rattle.ups_manager.proofs.Acknowledging.{events_of_no_step, ack_decided, ack_plan, acked_none, small}
use Rattle.ups_manager.proofs.Keyed.{queue_fits}
use Rattle.ups_manager.proofs.Entering.{refuses}
use Rattle.ups_manager.proofs.Watchers.{small_same}
use Rattle.ups_manager.proofs.Reindexed.{same_indexed}
use Rattle.ups_manager.proofs.deciding.decide_ack.Goals as goal

pub made_at-made-requires : goal.made_at-made-requires
made_at-made-requires g c = queue_fits c.args.configuration.now c.args.history.now.entries c.args.tables.now c.peers.result.now c.args.call.now.ae c.place_of-place.result c.requires.stands.tables c.peers.ensures c.place_of-place.ensures

pub acked_at-acked-requires : goal.acked_at-acked-requires
acked_at-acked-requires g c = queue_fits c.args.configuration.now c.args.history.now.entries c.args.tables.now c.peers.result.now c.args.call.now.ae c.place_of-place.result c.requires.stands.tables c.peers.ensures c.place_of-place.ensures

pub unreachable-requires : goal.unreachable-requires
unreachable-requires g c = acked_none g.row.A.Denot c.args.tables.now c.args.upto c.place_of-place.result c.made_at-made.result c.acked_at-acked.result c.acknowledged-reply.result c.in_default.is c.made_at-made.ensures c.acked_at-acked.ensures c.acknowledged-reply.ensures (sym c.accepts.ensures ∙ c.if-accepts.true)

pub returns-else-accepts : goal.returns-else-accepts
returns-else-accepts g c =
    let s = c.args.configuration.now in
    let call = c.args.call.now in
    let no = sym c.accepts.ensures ∙ c.if-accepts.false in
    record {
      answer = inl (refuses s c.args.history.now.entries call c.acknowledged-reply.result
          (ack_decided s c.args.history.now.entries call c.args.tables.now c.args.upto c.peers.result.now c.place_of-place.result c.made_at-made.result c.acked_at-acked.result c.acknowledged-reply.result c.requires.stands.tables c.requires.kind c.peers.ensures c.place_of-place.ensures
          c.made_at-made.ensures c.acked_at-acked.ensures c.acknowledged-reply.ensures) no);
      nothing = no;
      small = subst (λ (x : Reply g.row.A.Denot). SmallReply x) (sym c.acknowledged-reply.ensures) (small g.row.A.Denot c.made_at-made.result c.acked_at-acked.result c.args.upto);
    }

pub returns-in-Some : goal.returns-in-Some
returns-in-Some g c =
    let s = c.args.configuration.now in
    let call = c.args.call.now in
    record {
      reply = ack_decided s c.args.history.now.entries call c.args.tables.now c.args.upto c.peers.result.now c.place_of-place.result c.made_at-made.result c.acked_at-acked.result c.acknowledged-reply.result c.requires.stands.tables c.requires.kind c.peers.ensures c.place_of-place.ensures
          c.made_at-made.ensures c.acked_at-acked.ensures c.acknowledged-reply.ensures;
      accepted = sym c.accepts.ensures ∙ c.if-accepts.true;
      plan = ack_plan s call c.args.tables.now c.args.upto c.peers.result.now c.place_of-place.result c.in-Some.peer c.made_at-made.result c.acked_at-acked.result c.acknowledged-reply.result c.requires.kind c.peers.ensures c.place_of-place.ensures c.in-Some.is
          c.made_at-made.ensures c.acked_at-acked.ensures c.acknowledged-reply.ensures (sym c.accepts.ensures ∙ c.if-accepts.true);
      small = small_same s (past c.args.history.now.entries) call _ (events_of_no_step call.request c.args.upto c.requires.kind) refl c.requires.stands.small;
      index = same_indexed s (past c.args.history.now.entries) call (events_of_no_step call.request c.args.upto c.requires.kind);
    }
