-- Worked rows: a State Report that is superseded while its delivery is under way, computed by the check.
use Rattle.std.proofs.Common.{◌≡◌, ℕ, false, List, [], ◌∷◌, ◌++◌, map, refl, arith}
use Rattle.std.specs.Prelude.{Some, codes, pos}
use Rattle.std.specs.List.{Contains}
use Rattle.std.proofs.lemmas.List.Elements.{All-cons, All-nil}
use Rattle.ups_dataset.specs.declared.tag.Tag.{Tag}
use Rattle.ups_dataset.specs.declared.vr.Vr.{Vr}
use Rattle.ups_dataset.specs.declared.vr.Vr.TheVariants.{Cs, Dt, Lo}
use Rattle.ups_dataset.specs.declared.dictionary.TheConstants.{SCHEDULED_PROCEDURE_STEP_START_DATE_TIME, INPUT_READINESS_STATE, PROCEDURE_STEP_STATE, SCHEDULED_PROCEDURE_STEP_PRIORITY, PROCEDURE_STEP_LABEL, WORKLIST_LABEL}
use Rattle.ups_dataset.specs.Data.{El, bytes}
use Rattle.ups_match.specs.Moments.{moment, day_number, days_of_month, field, is_date, is_time, date_number, second_of_day, microsecond_of, offset_of, signed_offset}
use Rattle.ups_life.specs.declared.entry.Entry.{Entry}
use Rattle.ups_life.specs.declared.event.Event.{Event}
use Rattle.ups_life.specs.declared.event.EventKind.TheVariants.{StateReport}
use Rattle.ups_life.specs.declared.event_reports.EventReport.{EventReport}
use Rattle.ups_life.specs.declared.readiness.InputReadiness.TheVariants.{Ready}
use Rattle.ups_life.specs.declared.request.Request.{Request}
use Rattle.ups_life.specs.declared.request.Request.TheVariants.{Create, Change, Subscribe, Ack}
use Rattle.ups_life.specs.declared.request.Transaction.TheVariants.{Proper}
use Rattle.ups_life.specs.declared.watching.Target.TheVariants.{Single}
use Rattle.ups_cycle.specs.declared.state.StepState.{StepState}
use Rattle.ups_cycle.specs.declared.state.StepState.TheVariants.{Scheduled, InProgress}
use Rattle.ups_life.specs.Settings.{Settings}
use Rattle.ups_life.specs.Steps.{past}
use Rattle.ups_life.specs.Events.{Learned, events, pending, received, view}
use Rattle.ups_service.specs.Law.{is_legal}
use Rattle.ups_service.specs.Reporting.{reports_to, MayHaveGot}
use Rattle.ups_service.proofs.Members.{here}

abbrev w1 : List ℕ
w1 = codes "W1"

abbrev site : Settings
site = record { peers = record { ae = w1; lock = false } ∷ []; keep = 60; offset = pos 0; limit = 1000 }

-- no allocator is looked at
abbrev Call : Type 0
Call = Entry (Unit {0})

abbrev by : List ℕ → Request (Unit {0}) → Call
by ae request = record { caller = 0; ae = ae; moment = 0; request = request }

abbrev u1 : List ℕ
u1 = codes "1.2.3.1"

abbrev says : Tag → Vr → List ℕ → El
says tag vr text = record { tag = tag; vr = vr; value = bytes text }

abbrev step : List El
step =
    says SCHEDULED_PROCEDURE_STEP_START_DATE_TIME Dt (codes "20240229120000")
    ∷ says INPUT_READINESS_STATE Cs (codes "READY ")
    ∷ says PROCEDURE_STEP_STATE Cs (codes "SCHEDULED ")
    ∷ says SCHEDULED_PROCEDURE_STEP_PRIORITY Cs (codes "MEDIUM")
    ∷ says WORKLIST_LABEL Lo (codes "READS ")
    ∷ says PROCEDURE_STEP_LABEL Lo (codes "CT READ ")
    ∷ []

-- the histories, oldest first: when a delivery asks what is pending, and after it, when the step was claimed meanwhile
-- and the report is acknowledged
abbrev asked : List Call
asked = by (codes "RIS") (Create u1 step) ∷ by (codes "RIS") (Subscribe (Single (Some u1)) w1 false) ∷ []

abbrev acknowledged : List Call
acknowledged = asked ++ by (codes "CAD") (Change (Some u1) InProgress (Proper (codes "2.1"))) ∷ by w1 (Ack 1) ∷ []

-- the second report is acknowledged too
abbrev all_acknowledged : List Call
all_acknowledged = acknowledged ++ by w1 (Ack 2) ∷ []

abbrev seen : StepState → Learned
seen state = record { state = state; readiness = Some Ready }

abbrev told : ℕ → ℕ → StepState → Event
told number place state = record { number = number; entry = place; kind = StateReport; step = u1; state = state; readiness = Some Ready }

abbrev first : Event
first = told 1 1 Scheduled

abbrev second : Event
second = told 2 2 InProgress

all_is_legal : is_legal site all_acknowledged
unfolding moment day_number days_of_month field is_date is_time date_number second_of_day microsecond_of offset_of signed_offset
all_is_legal = refl

the_first_is_reported : map (λ (r : EventReport (Unit {0})). r.event) (reports_to site asked 16 w1) ≡ first ∷ []
the_first_is_reported = refl

two_were_made : events site (past acknowledged) w1 ≡ first ∷ second ∷ []
two_were_made = refl

-- the first was superseded before it was acknowledged, so it is not among those received
none_is_received : received site (past acknowledged) w1 ≡ []
none_is_received = refl

the_second_is_pending : pending site (past acknowledged) w1 ≡ second ∷ []
the_second_is_pending = refl

-- but the watcher may have got it, and with what is pending it shows the same as all events
it_may_be_got : MayHaveGot site acknowledged w1 (first ∷ [])
it_may_be_got = record {
  its_own = All-cons (Contains (first ∷ second ∷ [])) first [] (here first (second ∷ [])) (All-nil (Contains (first ∷ second ∷ [])));
  in_order = λ i j d low in'. absurd (omega arith);
  has_received = λ k d in'. absurd (omega arith);
}

with_the_second_it_shows_all : (view (first ∷ pending site (past acknowledged) w1) u1 ≡ Some (seen InProgress)) × (view (events site (past acknowledged) w1) u1 ≡ Some (seen InProgress))
with_the_second_it_shows_all = (refl, refl)

-- once the second is acknowledged, that one is received, and nothing is pending
the_second_is_received : received site (past all_acknowledged) w1 ≡ second ∷ []
the_second_is_received = refl

nothing_is_pending : pending site (past all_acknowledged) w1 ≡ []
nothing_is_pending = refl
