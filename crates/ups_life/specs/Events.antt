-- What each watcher is told (PS3.4 CC.2.4). Histories here have the newest entry first.
use Rattle.std.specs.Prelude.{ℕ, ◌+◌, Bool, true, false, not, ◌&&◌, ◌||◌, nat_lt, nat_le, List, [], ◌∷◌, ◌++◌, length, map, filter, Option, None, Some, is_some, if◌then◌else◌}
use Rattle.std.specs.List.{list_any}
use Rattle.std.specs.Option.{option_or}
use Rattle.std.specs.Str.{bytes_eq}
use Rattle.ups_dataset.specs.declared.dictionary.TheConstants.{INPUT_READINESS_STATE, PROCEDURE_STEP_PROGRESS_INFORMATION_SEQUENCE, SCHEDULED_STATION_NAME_CODE_SEQUENCE, SCHEDULED_HUMAN_PERFORMERS_SEQUENCE}
use Rattle.ups_dataset.specs.declared.tag.Tag.{Tag}
use Rattle.ups_dataset.specs.Data.{El, element_at}
use Rattle.ups_life.specs.declared.entry.Entry.{Entry}
use Rattle.ups_life.specs.declared.event.EventKind.{EventKind}
use Rattle.ups_life.specs.declared.event.EventKind.TheVariants.{StateReport, CancelRequested, ProgressReport, Assigned}
use Rattle.ups_life.specs.declared.event.Report.{Report}
use Rattle.ups_life.specs.declared.event.Event.{Event}
use Rattle.ups_life.specs.declared.readiness.InputReadiness.{InputReadiness}
use Rattle.ups_life.specs.declared.request.Request.{Request}
use Rattle.ups_life.specs.declared.request.Request.TheVariants.{Create, Change, AskCancel, Set, Subscribe, Ack}
use Rattle.ups_cycle.specs.declared.state.StepState.{StepState}
use Rattle.ups_cycle.specs.declared.state.StepState.TheVariants.{Scheduled, InProgress, Canceled}
use Rattle.ups_life.specs.Settings.{Settings}
use Rattle.ups_life.specs.Readiness.{readiness_in, is_same_readiness}
use Rattle.ups_life.specs.Steps.{step_of, state, row}
use Rattle.ups_life.specs.Watching.{takes_in, cover, watch, held}

-- THE REPORTS OF AN ENTRY

-- the readiness of u
abbrev pub readiness : {A : Type 0} → Settings → List (Entry A) → List ℕ → Option InputReadiness
readiness s es u = readiness_in (row s es u)

abbrev pub report : EventKind → List ℕ → StepState → Option InputReadiness → Report
report kind u state readiness = record { kind = kind; step = u; state = state; readiness = readiness }

-- a State Report of u with its present state and readiness
abbrev pub as_it_is : {A : Type 0} → Settings → List (Entry A) → List ℕ → Report
as_it_is s es u = report StateReport u (state es u) (readiness s es u)

abbrev pub only_if : Bool → Report → List Report
only_if told x = if told then x ∷ [] else []

-- the reports of a cancel request: a SCHEDULED step goes through IN PROGRESS to CANCELED; the performer of one
-- IN PROGRESS is asked (PS3.4 CC.2.2)
abbrev pub cancel_reports : List ℕ → StepState → Option InputReadiness → List Report
cancel_reports u Scheduled readiness = report StateReport u InProgress readiness ∷ report StateReport u Canceled readiness ∷ []
cancel_reports u InProgress readiness = report CancelRequested u InProgress readiness ∷ []
cancel_reports u state readiness = []

abbrev pub has : List El → Tag → Bool
has attributes tag = is_some (element_at tag attributes)

-- the reports of an N-SET: a changed readiness, progress, and who is to perform the step (PS3.4 CC.2.4, CC.2.6);
-- `before` and `after` are the readiness
abbrev pub set_reports : List ℕ → StepState → Option InputReadiness → Option InputReadiness → List El → List Report
set_reports u state before after attributes =
    only_if (has attributes INPUT_READINESS_STATE && not (is_same_readiness before after)) (report StateReport u state after)
    ++ (only_if (has attributes PROCEDURE_STEP_PROGRESS_INFORMATION_SEQUENCE) (report ProgressReport u state after)
    ++ only_if (has attributes SCHEDULED_STATION_NAME_CODE_SEQUENCE || has attributes SCHEDULED_HUMAN_PERFORMERS_SEQUENCE) (report Assigned u state after))

-- the reports of a request on the step u to whoever watches u
abbrev pub told_of : {A : Type 0} → Settings → List (Entry A) → Entry A → List ℕ → Request A → List Report
told_of s es e u (Change step state transaction) = as_it_is s (e ∷ es) u ∷ []
told_of s es e u (AskCancel step reasons) = cancel_reports u (state es u) (readiness s (e ∷ es) u)
told_of s es e u (Set step transaction attributes) = set_reports u (state es u) (readiness s es u) (readiness s (e ∷ es) u) attributes
told_of s es e u request = []

-- the reports to w about the step of a request: those that `told` gives, if w watches the step (PS3.4 CC.2.4); only a
-- State Report, if w watches it from then on (a rule of the profile)
abbrev pub if_watched : {A : Type 0} → Settings → List (Entry A) → Entry A → List ℕ → Option (List ℕ) → (List ℕ → List Report) → List Report
if_watched s es e w None told = []
if_watched s es e w (Some u) told = if is_some (watch s es w u) then told u else only_if (is_some (watch s (e ∷ es) w u)) (as_it_is s (e ∷ es) u)

-- The reports of the entry e to w; `request` is the request of e. A creation reports the new step, if w's global
-- subscription covers it; a subscription of w each held step that it covers, in order of creation; any other request on
-- a step is reported if w watches the step, or begins to by this request.
abbrev pub reports_of : {A : Type 0} → Settings → List (Entry A) → Entry A → List ℕ → Request A → List Report
reports_of s es e w (Create step attributes) = only_if (is_some (cover s.peers es w (row s (e ∷ es) step))) (as_it_is s (e ∷ es) step)
reports_of s es e w (Subscribe target receiver lock) = if bytes_eq receiver w then map (as_it_is s es) (filter (λ u. takes_in target u (row s es u)) (held s es)) else []
reports_of s es e w request = if_watched s es e w (step_of request) (λ u. told_of s es e u request)

-- THE EVENTS

-- the reports of the entry at this place in the history as events, numbered from n
abbrev pub numbered : ℕ → ℕ → List Report → List Event
numbered n place [] = []
numbered n place (x ∷ xs) = record { number = n; entry = place; kind = x.kind; step = x.step; state = x.state; readiness = x.readiness } ∷ numbered (n + 1) place xs

-- THE EVENTS (PS3.4 CC.2.4): all reports to w, oldest first, numbered from 1
abbrev pub events : {A : Type 0} → Settings → List (Entry A) → List ℕ → List Event
events s [] w = []
events s (e ∷ es) w = events s es w ++ numbered (length (events s es w) + 1) (length es) (reports_of s es e w e.request)

-- ACKNOWLEDGEMENTS

-- the number up to which w has acknowledged its events after a request of ae; `before`: this number until then
abbrev pub acked_after : {A : Type 0} → List ℕ → List ℕ → ℕ → Request A → ℕ
acked_after w ae before (Ack upto) = if bytes_eq ae w then upto else before
acked_after w ae before request = before

-- the number up to which w has acknowledged its events; 0 if it has acknowledged none
abbrev pub acked : {A : Type 0} → List (Entry A) → List ℕ → ℕ
acked [] w = 0
acked (e ∷ es) w = acked_after w e.ae (acked es w) e.request

abbrev pub is_state_report : EventKind → Bool
is_state_report StateReport = true
is_state_report kind = false

-- a State Report of u (PS3.4 CC.2.4)
abbrev pub is_report_of : List ℕ → Event → Bool
is_report_of u x = bytes_eq x.step u && is_state_report x.kind

-- the events without each State Report that a later one of the same step supersedes (a rule of the profile)
abbrev pub current : List Event → List Event
current [] = []
current (x ∷ xs) = if is_state_report x.kind && list_any (is_report_of x.step) xs then current xs else x ∷ current xs

-- THE EVENTS PENDING for w: those that it has not acknowledged and that are not superseded, oldest first (a rule of the
-- profile: in PS3.4 CC.2.4 the only acknowledgement is the response to a report)
abbrev pub pending : {A : Type 0} → Settings → List (Entry A) → List ℕ → List Event
pending s es w = filter (λ (x : Event). nat_lt (acked es w) x.number) (current (events s es w))

-- WHAT w HAS RECEIVED

abbrev pub up_to : ℕ → List Event → List Event
up_to n xs = filter (λ (x : Event). nat_le x.number n) xs

-- the events that w has received after a request of ae; `before`: those until then. An acknowledgement adds those that
-- were pending up to its number (a rule of the profile).
abbrev pub received_after : {A : Type 0} → Settings → List (Entry A) → List ℕ → List ℕ → List Event → Request A → List Event
received_after s es w ae before (Ack upto) = if bytes_eq ae w then before ++ up_to upto (pending s es w) else before
received_after s es w ae before request = before

abbrev pub received : {A : Type 0} → Settings → List (Entry A) → List ℕ → List Event
received s [] w = []
received s (e ∷ es) w = received_after s es w e.ae (received s es w) e.request

-- THE VIEW

-- what a watcher has learned about a step
pub record Learned : Type 0 where
  pub state : StepState
  pub readiness : Option InputReadiness

-- what an event shows about u, if it is a State Report of u
abbrev pub shows : List ℕ → Event → Option Learned
shows u x = if is_report_of u x then Some (record { state = x.state; readiness = x.readiness }) else None

-- THE VIEW of a watcher: what the last State Report of u shows
abbrev pub view : List Event → List ℕ → Option Learned
view [] u = None
view (x ∷ xs) u = option_or (view xs u) (shows u x)

-- the present state and readiness of u
abbrev pub present : {A : Type 0} → Settings → List (Entry A) → List ℕ → Learned
present s es u = record { state = state es u; readiness = readiness s es u }
