-- What a watcher is told about its pending events (PS3.4 CC.2.4). Histories here have the oldest entry first.
use Rattle.std.specs.Prelude.{◌≤◌, ℕ, List, [], map, take, slice_get, All, Contains}
use Rattle.std.specs.List.{AllPairs}
use Rattle.std.specs.Option.{option_map, unwrap_or}
use Rattle.ups_dataset.specs.Data.{El}
use Rattle.ups_reports.specs.Payloads.{payload}
use Rattle.ups_life.specs.declared.entry.Entry.{Entry}
use Rattle.ups_life.specs.declared.event.Event.{Event}
use Rattle.ups_life.specs.declared.event_reports.EventReport.{EventReport}
use Rattle.ups_life.specs.Settings.{Settings}
use Rattle.ups_life.specs.Steps.{past}
use Rattle.ups_life.specs.Events.{events, pending, received}

-- the Event Information of an event, by the entry that made it
abbrev pub information_of : {A : Type 0} → List (Entry A) → Event → List El
information_of history x = unwrap_or (option_map (payload x) (slice_get history x.entry)) []

abbrev pub report_of_event : {A : Type 0} → List (Entry A) → Event → EventReport A
report_of_event history x = record { event = x; information = information_of history x }

-- the reports of the first `max` pending events of w, oldest first
abbrev pub reports_to : {A : Type 0} → Settings → List (Entry A) → ℕ → List ℕ → List (EventReport A)
reports_to settings history max w = map (report_of_event history) (take max (pending settings (past history) w))

-- What w may have got by reports: each is one of its events; they came in the order of the events, maybe the same one
-- several times; and all that was still pending when it was acknowledged (`received`) is among them. More may be: events
-- that were superseded while they were on the way, and events whose acknowledgement was lost.
pub record MayHaveGot {A : Type 0} (settings : Settings) (history : List (Entry A)) (w : List ℕ) (got : List Event) : Type 0 where
  pub its_own : All (Contains (events settings (past history) w)) got
  pub in_order : AllPairs (λ (x y : Event). x.number ≤ y.number) got
  pub has_received : All (Contains got) (received settings (past history) w)
