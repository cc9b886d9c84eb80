-- The reports of a delivery are of events that are not acknowledged, in their order.
use Rattle.std.proofs.Common.{ℕ, ◌<◌, List, take}
use Rattle.std.specs.List.{All, AllPairs, Contains}
use Rattle.std.proofs.lemmas.List.Elements.{All-map, All-take}
use Rattle.ups_life.specs.declared.entry.Entry.{Entry}
use Rattle.ups_life.specs.declared.event.Event.{Event}
use Rattle.ups_life.specs.declared.event_reports.EventReport.{EventReport}
use Rattle.ups_life.specs.Settings.{Settings}
use Rattle.ups_life.specs.Steps.{past}
use Rattle.ups_life.specs.Events.{events, acked, pending}
use Rattle.ups_service.specs.Reporting.{report_of_event, reports_to}
use Rattle.ups_service.proofs.Members.{of_each, pairs_taken, pairs_mapped}
use Rattle.ups_service.proofs.Numbers.{is_own, not_acked, pending_rise}

module _ {A : Type 0} (s : Settings) (history : List (Entry A)) (max : ℕ) (w : List ℕ) where
  -- what is so of each pending event is so of the event of each report
  of_each_report : (P : Event → Type 0) → ((x : Event) → Contains (pending s (past history) w) x → P x) → All (λ (r : EventReport A). P r.event) (reports_to s history max w)
  of_each_report P h = All-map (λ (r : EventReport A). P r.event) (report_of_event history) (take max (pending s (past history) w)) (All-take P max (pending s (past history) w) (of_each P (pending s (past history) w) h))

  pub reports_own : All (λ (r : EventReport A). Contains (events s (past history) w) r.event) (reports_to s history max w)
  reports_own = of_each_report (Contains (events s (past history) w)) (λ x in'. is_own s (past history) w x in')

  pub reports_unacknowledged : All (λ (r : EventReport A). acked (past history) w < r.event.number) (reports_to s history max w)
  reports_unacknowledged = of_each_report (λ (x : Event). acked (past history) w < x.number) (λ x in'. not_acked s (past history) w x in')

  pub reports_in_order : AllPairs (λ (q r : EventReport A). q.event.number < r.event.number) (reports_to s history max w)
  reports_in_order =
      pairs_mapped (λ (q r : EventReport A). q.event.number < r.event.number) (report_of_event history) (take max (pending s (past history) w))
      (pairs_taken (λ (x y : Event). x.number < y.number) max (pending s (past history) w) (pending_rise s (past history) w))
