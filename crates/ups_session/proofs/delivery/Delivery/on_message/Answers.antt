use Rattle.ups_session.specs.Deliveries.{delivery_view}
use Rattle.ups_session.proofs.Delivered.{not_understood}
use Rattle.ups_session.proofs.delivery.Delivery.on_message.Goals as goal

pub returns-in_ok-abort-in-Err-clause-reaction : goal.returns-in_ok-abort-in-Err-clause-reaction
returns-in_ok-abort-in-Err-clause-reaction g c =
    not_understood (delivery_view c.args.self.now) c.args.released c.args.message.now c.as_slice.result.now c.in-Err.fault _ c.as_slice.ensures c.in-Err.ensures.only c.in_ok-unless_no_room-in-Err.ensures.other c.in_ok-abort-in-Err.ensures.reaction
