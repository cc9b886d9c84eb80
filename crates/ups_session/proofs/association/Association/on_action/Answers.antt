use Rattle.std.proofs.Common.{refl}
use Rattle.ups_session.specs.Effects.{association_view}
use Rattle.ups_session.proofs.association.Association.on_action.Goals as goal

pub returns-in_default : goal.returns-in_default
returns-in_default g c = record { reaction = c.sent.ensures.said c.args.requestor (association_view c.args.self.now) c.in_default.not-Ar2 c.in_default.not-Ar8 c.in_default.not-Ar10; writable = c.sent.ensures.writable; established = refl; memory = c.sent.ensures.memory }
