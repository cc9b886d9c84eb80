use Rattle.ups_service.proofs.Delivering.{reports_own, reports_unacknowledged, reports_in_order}
use Rattle.ups_service.proofs.laws.a_delivery_reports_events_in_order.Goals as goal

pub returns : goal.returns
returns g c = record {
  its_own = reports_own;
  not_acknowledged = reports_unacknowledged;
  in_order = reports_in_order;
}
