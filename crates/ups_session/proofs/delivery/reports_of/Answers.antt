use Rattle.std.proofs.Common.{refl, sym}
use Rattle.ups_session.specs.Requestor.{proceeding, with_ahead}
use Rattle.ups_session.proofs.Delivered.{events_told}
use Rattle.ups_session.proofs.delivery.reports_of.Goals as goal

pub returns-clause-told : goal.returns-clause-told
returns-clause-told g c = λ d.
    sym (events_told d c.args.reply c.in-Reports.reports c.as_slice.result.now c.is_empty.result (proceeding (with_ahead d c.in-Reports.reports)) c.in-Reports.is c.as_slice.ensures c.is_empty.ensures c.if-is_empty.false refl)
