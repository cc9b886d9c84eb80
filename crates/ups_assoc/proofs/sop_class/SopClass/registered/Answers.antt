use Rattle.std.proofs.Common.{rules}
use Rattle.ups_assoc.proofs.sop_class.SopClass.registered.Goals as goal

pub returns-in-UpsEvent : goal.returns-in-UpsEvent
returns-in-UpsEvent c = search rules
