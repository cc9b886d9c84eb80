-- A delivery of event reports, as seen by the requestor of the association (PS3.4 CC.2.4).
use Rattle.std.specs.Prelude.{ℕ, List, Option}
use Rattle.ups_life.specs.declared.event_reports.EventReport.{EventReport}
use Rattle.ups_session.specs.declared.delivery.ReportInFlight.{ReportInFlight}
use Rattle.ups_session.specs.Association.{AssociationView}

-- The association; the reports still to be sent, of those in the service's last reply; the report whose response is
-- awaited, by its message ID and its event; and the number of reports sent.
pub record DeliveryView (A : Type 0) : Type 0 where
  pub association : AssociationView A
  pub ahead : List (EventReport A)
  pub in_flight : Option ReportInFlight
  pub sent : ℕ
