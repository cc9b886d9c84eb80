use Rattle.std.proofs.Common.{w16}
use Rattle.std.proofs.lemmas.Int.{to_z-of_z}
use Rattle.ups_requests.proofs.Determined.{requested_by}
use Rattle.ups_requests.proofs.telling.request_of.Goals as goal

pub returns-in-Message : goal.returns-in-Message
returns-in-Message g c =
    rw c.in-Message.is
    (requested_by _ c.args.offset c.in-Message.operation _ c.in-Message.data_set.items c.requested.result (to_z-of_z w16 c.args.offset c.ranges.offset) c.as_slice.ensures.value c.requested.ensures)
