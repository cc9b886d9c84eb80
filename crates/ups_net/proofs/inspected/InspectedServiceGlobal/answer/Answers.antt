use Rattle.ups_net.proofs.Audited.{has_answered}
use Rattle.ups_net.proofs.inspected.InspectedServiceGlobal.answer.Goals as goal

pub tell-requires : goal.tell-requires
tell-requires g c = record {
  answered = has_answered _ _ _ _ _ _ (g.S.Service.seen c.args.self.now.service) _ _ c.args.moment _ c.args.ask.now _ c.answer-reply.ensures.same c.requires.given c.answer-reply.ensures.serves c.entries_seen.ensures;
}
