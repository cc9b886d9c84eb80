-- Worked rows: a short day, what is left of it when it is compacted, and what is pending before and after, computed by the check.
use Rattle.std.proofs.Common.{◌≡◌, ℕ, true, false, List, [], ◌∷◌, map, refl}
use Rattle.std.specs.Prelude.{Some, codes, pos}
use Rattle.ups_dataset.specs.declared.tag.Tag.{Tag}
use Rattle.ups_dataset.specs.declared.vr.Vr.{Vr}
use Rattle.ups_dataset.specs.declared.vr.Vr.TheVariants.{Cs, Dt, Lo, Sq}
use Rattle.ups_dataset.specs.declared.dictionary.TheConstants.{SCHEDULED_PROCEDURE_STEP_START_DATE_TIME, INPUT_READINESS_STATE, PROCEDURE_STEP_STATE, SCHEDULED_PROCEDURE_STEP_PRIORITY, PROCEDURE_STEP_LABEL, PROCEDURE_STEP_PROGRESS_INFORMATION_SEQUENCE, WORKLIST_LABEL}
use Rattle.ups_dataset.specs.Data.{El, bytes, items, no_items}
use Rattle.ups_match.specs.Moments.{moment, day_number, days_of_month, field, is_date, is_time, date_number, second_of_day, microsecond_of, offset_of, signed_offset, stamp, begun, date_stamp, time_stamp, offset_stamp, year_on, month_on}
use Rattle.ups_life.specs.declared.entry.Entry.{Entry}
use Rattle.ups_life.specs.declared.event.Event.{Event}
use Rattle.ups_life.specs.declared.event.EventKind.{EventKind}
use Rattle.ups_life.specs.declared.event.EventKind.TheVariants.{StateReport, ProgressReport}
use Rattle.ups_life.specs.declared.readiness.InputReadiness.TheVariants.{Ready}
use Rattle.ups_life.specs.declared.request.Request.{Request}
use Rattle.ups_life.specs.declared.request.Request.TheVariants.{Create, Change, AskCancel, Set, Subscribe, Ack, Sweep, Reserve}
use Rattle.ups_life.specs.declared.request.Reply.TheVariants.{Status as Answered}
use Rattle.ups_life.specs.declared.request.Transaction.TheVariants.{Proper}
use Rattle.ups_life.specs.declared.watching.Target.TheVariants.{Global}
use Rattle.ups_cycle.specs.declared.state.StepState.{StepState}
use Rattle.ups_cycle.specs.declared.state.StepState.TheVariants.{Scheduled, InProgress, Canceled}
use Rattle.ups_cycle.specs.declared.status.Status.TheVariants.{DuplicateSopInstance}
use Rattle.ups_life.specs.Settings.{Settings}
use Rattle.ups_life.specs.Steps.{cancellation}
use Rattle.ups_life.specs.Watching.{held}
use Rattle.ups_life.specs.Events.{pending}
use Rattle.ups_life.specs.History.{reply, legal}
use Rattle.ups_compact.specs.Compacting.{left_for, compacted_for, steps_needed}
use Rattle.ups_compact.specs.Shifting.{shift, shifted}
use Rattle.ups_compact.specs.Course.{Turn, Entered, Compacted, log_of, kept_of, is_course}

-- two watchers
abbrev w1 : List ℕ
w1 = codes "W1"

abbrev w2 : List ℕ
w2 = codes "W2"

abbrev site : Settings
site = record { peers = record { ae = w1; lock = true } ∷ record { ae = w2; lock = false } ∷ []; keep = 60; offset = pos 0; limit = 1000 }

-- no allocator is looked at
abbrev Call : Type 0
Call = Entry (Unit {0})

abbrev by : List ℕ → ℕ → Request (Unit {0}) → Call
by ae moment request = record { caller = 3; ae = ae; moment = moment; request = request }

abbrev u1 : List ℕ
u1 = codes "1.2.3.1"

abbrev u2 : List ℕ
u2 = codes "1.2.3.2"

abbrev u3 : List ℕ
u3 = codes "1.2.3.3"

abbrev says : Tag → Vr → List ℕ → El
says tag vr text = record { tag = tag; vr = vr; value = bytes text }

abbrev step : List El
step =
    says SCHEDULED_PROCEDURE_STEP_START_DATE_TIME Dt (codes "20240229120000")
    ∷ says INPUT_READINESS_STATE Cs (codes "READY ")
    ∷ says PROCEDURE_STEP_STATE Cs (codes "SCHEDULED ")
    ∷ says SCHEDULED_PROCEDURE_STEP_PRIORITY Cs (codes "MEDIUM")
    ∷ says WORKLIST_LABEL Lo (codes "READS ")
    ∷ says PROCEDURE_STEP_LABEL Lo (codes "CT READ ")
    ∷ []

abbrev subscribed : Call
subscribed = by w1 0 (Subscribe Global w1 false)

abbrev created : List ℕ → ℕ → Call
created u moment = by (codes "RIS") moment (Create u step)

abbrev claimed : Call
claimed = by (codes "CAD") 30 (Change (Some u1) InProgress (Proper (codes "2.1")))

abbrev gone_on : Call
gone_on = by (codes "CAD") 40 (Set (Some u1) (Proper (codes "2.1")) (record { tag = PROCEDURE_STEP_PROGRESS_INFORMATION_SEQUENCE; vr = Sq; value = items no_items } ∷ []))

-- A DAY, newest first: u1 is claimed and goes on, u2 is canceled and swept, u3 is new; the first watcher has acknowledged three
-- of its events, and the second has none
abbrev day : List Call
day =
    by w1 210 (Ack 3)
    ∷ by (codes "RIS") 200 Sweep
    ∷ created u3 150
    ∷ by (codes "DOC") 120 (AskCancel (Some u2) [])
    ∷ gone_on
    ∷ claimed
    ∷ by w1 25 (Ack 2)
    ∷ created u2 20
    ∷ created u1 10
    ∷ subscribed
    ∷ []

the_day_is_legal : legal site day ≡ true
unfolding moment day_number days_of_month field is_date is_time date_number second_of_day microsecond_of offset_of signed_offset cancellation stamp begun date_stamp time_stamp offset_stamp year_on month_on
the_day_is_legal = refl

two_steps_are_held : held site day ≡ u1 ∷ u3 ∷ []
unfolding cancellation stamp begun date_stamp time_stamp offset_stamp year_on month_on
two_steps_are_held = refl

abbrev event : ℕ → ℕ → EventKind → List ℕ → StepState → Event
event number place kind u state = record { number = number; entry = place; kind = kind; step = u; state = state; readiness = Some Ready }

-- what is pending of the day
what_is_pending : pending site day w1 ≡ event 4 5 ProgressReport u1 InProgress ∷ event 6 6 StateReport u2 Canceled ∷ event 7 7 StateReport u3 Scheduled ∷ []
unfolding cancellation stamp begun date_stamp time_stamp offset_stamp year_on month_on
what_is_pending = refl

-- the UID of u2 was used
abbrev again : Call
again = created u2 400

a_used_uid : reply site day again ≡ Answered DuplicateSopInstance
unfolding moment day_number days_of_month field is_date is_time date_number second_of_day microsecond_of offset_of signed_offset cancellation stamp begun date_stamp time_stamp offset_stamp year_on month_on
a_used_uid = refl

-- THE STEPS NEEDED: an event of u2 is pending, so u2 is one of them, and its sweep is kept; only acknowledgements go
the_steps_needed : steps_needed site day ≡ u1 ∷ u3 ∷ u1 ∷ u2 ∷ u3 ∷ []
unfolding cancellation stamp begun date_stamp time_stamp offset_stamp year_on month_on
the_steps_needed = refl

abbrev whole_day : List Call
whole_day =
    by (codes "RIS") 200 Sweep
    ∷ created u3 150
    ∷ by (codes "DOC") 120 (AskCancel (Some u2) [])
    ∷ gone_on
    ∷ claimed
    ∷ created u2 20
    ∷ created u1 10
    ∷ subscribed
    ∷ []

all_is_left : left_for site (u1 ∷ u2 ∷ u3 ∷ []) day ≡ whole_day
unfolding cancellation stamp begun date_stamp time_stamp offset_stamp year_on month_on
all_is_left = refl

its_number_is_the_same : compacted_for 9 300 site (u1 ∷ u2 ∷ u3 ∷ []) day ≡ record { caller = 9; ae = w1; moment = 300; request = Ack 3 } ∷ whole_day
unfolding cancellation stamp begun date_stamp time_stamp offset_stamp year_on month_on
its_number_is_the_same = refl

-- once the first watcher has acknowledged the events of u2, nothing of u2 is needed
abbrev calm_day : List Call
calm_day = by w1 220 (Ack 6) ∷ day

it_is_legal_too : legal site calm_day ≡ true
unfolding moment day_number days_of_month field is_date is_time date_number second_of_day microsecond_of offset_of signed_offset cancellation stamp begun date_stamp time_stamp offset_stamp year_on month_on
it_is_legal_too = refl

fewer_are_needed : steps_needed site calm_day ≡ u1 ∷ u3 ∷ u3 ∷ []
unfolding cancellation stamp begun date_stamp time_stamp offset_stamp year_on month_on
fewer_are_needed = refl

-- of the six events acknowledged three are about u1: so the third is acknowledged; where u2 was created its UID is reserved
abbrev shorter_day : List Call
shorter_day =
    record { caller = 9; ae = w1; moment = 300; request = Ack 3 }
    ∷ created u3 150
    ∷ gone_on
    ∷ claimed
    ∷ by (codes "RIS") 20 (Reserve u2)
    ∷ created u1 10
    ∷ subscribed
    ∷ []

its_number_is_less : compacted_for 9 300 site (u1 ∷ u3 ∷ []) calm_day ≡ shorter_day
unfolding cancellation stamp begun date_stamp time_stamp offset_stamp year_on month_on
its_number_is_less = refl

-- the event that is pending has the number 7, and 4 here: so an acknowledgement of it is entered with 4
what_is_shifted : (pending site calm_day w1 ≡ event 7 7 StateReport u3 Scheduled ∷ []) × (pending site shorter_day w1 ≡ event 4 5 StateReport u3 Scheduled ∷ [])
unfolding cancellation stamp begun date_stamp time_stamp offset_stamp year_on month_on
what_is_shifted = (refl, refl)

by_three : shift site shorter_day calm_day w1 ≡ 3
unfolding cancellation stamp begun date_stamp time_stamp offset_stamp year_on month_on
by_three = refl

the_same_acknowledgement : shifted site shorter_day calm_day (by w1 310 (Ack 7)) ≡ by w1 310 (Ack 4)
unfolding cancellation stamp begun date_stamp time_stamp offset_stamp year_on month_on
the_same_acknowledgement = refl

-- the UID of u2 stays used: a second creation under it is refused after the compaction as before it
stays_used : (reply site calm_day again ≡ Answered DuplicateSopInstance) × (reply site shorter_day again ≡ Answered DuplicateSopInstance)
unfolding moment day_number days_of_month field is_date is_time date_number second_of_day microsecond_of offset_of signed_offset cancellation stamp begun date_stamp time_stamp offset_stamp year_on month_on
stays_used = (refl, refl)

-- a second compaction keeps the reservation
it_stays_reserved : left_for site (u1 ∷ u3 ∷ []) shorter_day ≡ created u3 150 ∷ gone_on ∷ claimed ∷ by (codes "RIS") 20 (Reserve u2) ∷ created u1 10 ∷ subscribed ∷ []
it_stays_reserved = refl

-- TWO COMPACTIONS with requests between them, newest turn first: of the calm day; then, when the first watcher has acknowledged
-- all and u3 is canceled and swept. Behind both u1 is to be canceled, and the first watcher acknowledges that.
abbrev turns : List (Turn (Unit {0}))
turns =
    Entered (by w1 520 (Ack 4))
    ∷ Entered (by (codes "DOC") 510 (AskCancel (Some u1) []))
    ∷ Compacted 9 500
    ∷ Entered (by (codes "RIS") 400 Sweep)
    ∷ Entered (by w1 330 (Ack 6))
    ∷ Entered (by (codes "DOC") 320 (AskCancel (Some u3) []))
    ∷ Entered (by w1 310 (Ack 4))
    ∷ Compacted 9 300
    ∷ map (λ (e : Call). Entered e) calm_day

abbrev shortest_day : List Call
shortest_day =
    by w1 520 (Ack 4)
    ∷ by (codes "DOC") 510 (AskCancel (Some u1) [])
    ∷ record { caller = 9; ae = w1; moment = 500; request = Ack 3 }
    ∷ by (codes "RIS") 150 (Reserve u3)
    ∷ gone_on
    ∷ claimed
    ∷ by (codes "RIS") 20 (Reserve u2)
    ∷ created u1 10
    ∷ subscribed
    ∷ []

what_is_left_of_it : kept_of site turns ≡ shortest_day
unfolding cancellation stamp begun date_stamp time_stamp offset_stamp year_on month_on
what_is_left_of_it = refl

-- in its log the acknowledgements have the numbers that the events have there: 7, 9 and 10
abbrev whole_log : List Call
whole_log =
    by w1 520 (Ack 10)
    ∷ by (codes "DOC") 510 (AskCancel (Some u1) [])
    ∷ by (codes "RIS") 400 Sweep
    ∷ by w1 330 (Ack 9)
    ∷ by (codes "DOC") 320 (AskCancel (Some u3) [])
    ∷ by w1 310 (Ack 7)
    ∷ calm_day

its_log : log_of site turns ≡ whole_log
unfolding cancellation stamp begun date_stamp time_stamp offset_stamp year_on month_on
its_log = refl

by_six : shift site shortest_day whole_log w1 ≡ 6
unfolding cancellation stamp begun date_stamp time_stamp offset_stamp year_on month_on
by_six = refl

each_was_accepted : is_course site turns ≡ true
unfolding moment day_number days_of_month field is_date is_time date_number second_of_day microsecond_of offset_of signed_offset cancellation stamp begun date_stamp time_stamp offset_stamp year_on month_on
each_was_accepted = refl

-- both UIDs of removed steps stay used, for the history that is left as for the log
both_stay_used : (reply site shortest_day (created u2 600) ≡ Answered DuplicateSopInstance) × (reply site shortest_day (created u3 600) ≡ Answered DuplicateSopInstance)
unfolding moment day_number days_of_month field is_date is_time date_number second_of_day microsecond_of offset_of signed_offset
both_stay_used = (refl, refl)

both_are_used : (reply site whole_log (created u2 600) ≡ Answered DuplicateSopInstance) × (reply site whole_log (created u3 600) ≡ Answered DuplicateSopInstance)
unfolding moment day_number days_of_month field is_date is_time date_number second_of_day microsecond_of offset_of signed_offset cancellation stamp begun date_stamp time_stamp offset_stamp year_on month_on
both_are_used = (refl, refl)
