-- Worked rows: what events say, computed by the check.
use Rattle.std.proofs.Common.{◌≡◌, ℕ, List, [], ◌∷◌, ◌++◌, refl}
use Rattle.std.specs.Prelude.{None, Some, codes}
use Rattle.ups_pdu.specs.declared.syntax.TransferSyntax.TheVariants.{Explicit}
use Rattle.ups_dataset.specs.declared.tag.Tag.{Tag}
use Rattle.ups_dataset.specs.declared.vr.Vr.{Vr}
use Rattle.ups_dataset.specs.declared.vr.Vr.TheVariants.{Ae, Cs, Ds, Lo, Lt, Pn, Sh, Sq, Ur}
use Rattle.ups_dataset.specs.declared.dictionary.TheConstants.{CODE_VALUE, HUMAN_PERFORMER_CODE_SEQUENCE, SCHEDULED_STATION_NAME_CODE_SEQUENCE, SCHEDULED_HUMAN_PERFORMERS_SEQUENCE, HUMAN_PERFORMER_ORGANIZATION, HUMAN_PERFORMER_NAME, INPUT_READINESS_STATE, PROCEDURE_STEP_STATE, PROCEDURE_STEP_PROGRESS_INFORMATION_SEQUENCE, PROCEDURE_STEP_PROGRESS, PROCEDURE_STEP_LABEL, CONTACT_URI, CONTACT_DISPLAY_NAME, PROCEDURE_STEP_DISCONTINUATION_REASON_CODE_SEQUENCE, REQUESTING_AE, REASON_FOR_CANCELLATION}
use Rattle.ups_dataset.specs.Data.{El, bytes, items, items_of}
use Rattle.ups_dataset.specs.Dictionary.{vr_of}
use Rattle.ups_dataset.specs.Written.{written}
use Rattle.ups_life.specs.declared.entry.Entry.{Entry}
use Rattle.ups_life.specs.declared.event.Event.{Event}
use Rattle.ups_life.specs.declared.event.EventKind.{EventKind}
use Rattle.ups_life.specs.declared.event.EventKind.TheVariants.{StateReport, CancelRequested, ProgressReport, Assigned}
use Rattle.ups_life.specs.declared.readiness.InputReadiness.{InputReadiness}
use Rattle.ups_life.specs.declared.readiness.InputReadiness.TheVariants.{Incomplete, Unavailable, Ready}
use Rattle.ups_life.specs.declared.request.Request.{Request}
use Rattle.ups_life.specs.declared.request.Request.TheVariants.{Create, Change, AskCancel, Set, Sweep}
use Rattle.ups_life.specs.declared.request.Transaction.TheVariants.{Proper}
use Rattle.ups_cycle.specs.declared.state.StepState.{StepState}
use Rattle.ups_cycle.specs.declared.state.StepState.TheVariants.{Scheduled, InProgress, Canceled}
use Rattle.ups_reports.specs.Payloads.{type_id, payload, NO_PERFORMER}

-- no allocator is looked at
abbrev Asked : Type 0
Asked = Request (Unit {0})

abbrev asked : Asked → Entry (Unit {0})
asked request = record { caller = 0; ae = codes "DOC"; moment = 0; request = request }

abbrev u : List ℕ
u = codes "1.2.3.4"

abbrev event : EventKind → StepState → InputReadiness → Event
event kind state readiness = record { number = 1; entry = 0; kind = kind; step = u; state = state; readiness = Some readiness }

abbrev says : Tag → Vr → List ℕ → El
says tag vr text = record { tag = tag; vr = vr; value = bytes text }

abbrev sequence : Tag → List (List El) → El
sequence tag sets = record { tag = tag; vr = Sq; value = items (items_of sets) }

-- a sequence of one code
abbrev code : Tag → List ℕ → El
code tag value = sequence tag ((says CODE_VALUE Sh value ∷ []) ∷ [])

abbrev state_of : List ℕ → El
state_of text = says PROCEDURE_STEP_STATE Cs text

abbrev readiness_of : List ℕ → El
readiness_of text = says INPUT_READINESS_STATE Cs text

-- THE TYPES

the_types : type_id StateReport ∷ type_id CancelRequested ∷ type_id ProgressReport ∷ type_id Assigned ∷ [] ≡ 1 ∷ 2 ∷ 3 ∷ 5 ∷ []
the_types = refl

-- STATE REPORTS

abbrev a_new_step : List El
a_new_step = payload (event StateReport Scheduled Ready) (asked (Create u []))

a_new_step_is_scheduled : a_new_step ≡ readiness_of (codes "READY ") ∷ state_of (codes "SCHEDULED ") ∷ []
a_new_step_is_scheduled = refl

-- in Explicit VR Little Endian
the_bytes_of_a_new_step : written Explicit a_new_step ≡
    (0x40 ∷ 0x00 ∷ 0x41 ∷ 0x40 ∷ []) ++ (codes "CS" ++ ((0x06 ∷ 0x00 ∷ []) ++ (codes "READY "
    ++ ((0x74 ∷ 0x00 ∷ 0x00 ∷ 0x10 ∷ []) ++ (codes "CS" ++ ((0x0a ∷ 0x00 ∷ []) ++ codes "SCHEDULED "))))))
the_bytes_of_a_new_step = refl

-- a cancel request with all that one can say
abbrev reason_code : El
reason_code = code PROCEDURE_STEP_DISCONTINUATION_REASON_CODE_SEQUENCE (codes "110513")

abbrev reason : El
reason = says REASON_FOR_CANCELLATION Lt (codes "stop")

abbrev address : El
address = says CONTACT_URI Ur (codes "urn:x:1 ")

abbrev contact : El
contact = says CONTACT_DISPLAY_NAME Lo (codes "Duty")

abbrev cancel : Asked
cancel = AskCancel (Some u) (address ∷ contact ∷ reason_code ∷ says PROCEDURE_STEP_LABEL Lo (codes "CT") ∷ reason ∷ [])

-- a step that nobody has claimed goes through IN PROGRESS to CANCELED: the reason stands in the second report
without_a_reason_yet : payload (event StateReport InProgress Ready) (asked cancel) ≡ readiness_of (codes "READY ") ∷ state_of (codes "IN PROGRESS ") ∷ []
without_a_reason_yet = refl

with_its_reason : payload (event StateReport Canceled Incomplete) (asked cancel) ≡ readiness_of (codes "INCOMPLETE") ∷ state_of (codes "CANCELED") ∷ reason_code ∷ reason ∷ []
with_its_reason = refl

for_no_reason : payload (event StateReport Canceled Ready) (asked (AskCancel (Some u) [])) ≡ readiness_of (codes "READY ") ∷ state_of (codes "CANCELED") ∷ []
for_no_reason = refl

-- canceled by its performer
by_its_performer : payload (event StateReport Canceled Unavailable) (asked (Change (Some u) Canceled (Proper (codes "2.1")))) ≡ readiness_of (codes "UNAVAILABLE ") ∷ state_of (codes "CANCELED") ∷ []
by_its_performer = refl

-- CANCEL REQUESTS

who_asks_and_why : payload (event CancelRequested InProgress Ready) (asked cancel) ≡ address ∷ contact ∷ reason_code ∷ says REQUESTING_AE Ae (codes "DOC ") ∷ reason ∷ []
who_asks_and_why = refl

who_asks : payload (event CancelRequested InProgress Ready) (asked (AskCancel (Some u) [])) ≡ says REQUESTING_AE Ae (codes "DOC ") ∷ []
who_asks = refl

-- PROGRESS

abbrev set : List El → Entry (Unit {0})
set attributes = asked (Set (Some u) (Proper (codes "2.1")) attributes)

abbrev progress : El
progress = sequence PROCEDURE_STEP_PROGRESS_INFORMATION_SEQUENCE ((says PROCEDURE_STEP_PROGRESS Ds (codes "50") ∷ []) ∷ [])

how_far : payload (event ProgressReport InProgress Ready) (set (progress ∷ says PROCEDURE_STEP_LABEL Lo (codes "CT") ∷ [])) ≡ progress ∷ []
how_far = refl

-- ASSIGNMENTS

abbrev station : El
station = code SCHEDULED_STATION_NAME_CODE_SEQUENCE (codes "CT1 ")

abbrev reader : El
reader = code HUMAN_PERFORMER_CODE_SEQUENCE (codes "DR1 ")

abbrev hospital : El
hospital = says HUMAN_PERFORMER_ORGANIZATION Lo (codes "HOSP")

abbrev performers : List (List El) → El
performers sets = sequence SCHEDULED_HUMAN_PERFORMERS_SEQUENCE sets

abbrev assigned : List El → List El
assigned attributes = payload (event Assigned InProgress Ready) (set attributes)

to_a_station : assigned (station ∷ []) ≡ station ∷ []
to_a_station = refl

-- by the first of the performers that are given
to_the_first : assigned (station ∷ performers ((reader ∷ hospital ∷ says HUMAN_PERFORMER_NAME Pn (codes "A^B ") ∷ []) ∷ (says HUMAN_PERFORMER_ORGANIZATION Lo (codes "HOME") ∷ []) ∷ []) ∷ []) ≡ reader ∷ station ∷ hospital ∷ []
to_the_first = refl

without_an_organization : assigned (performers ((reader ∷ []) ∷ (hospital ∷ []) ∷ []) ∷ []) ≡ reader ∷ says HUMAN_PERFORMER_ORGANIZATION Lo [] ∷ []
without_an_organization = refl

without_a_code : assigned (performers ((hospital ∷ []) ∷ []) ∷ []) ≡ sequence HUMAN_PERFORMER_CODE_SEQUENCE [] ∷ hospital ∷ []
without_a_code = refl

to_nobody : assigned (station ∷ performers [] ∷ []) ≡ sequence HUMAN_PERFORMER_CODE_SEQUENCE [] ∷ station ∷ says HUMAN_PERFORMER_ORGANIZATION Lo [] ∷ []
to_nobody = refl

-- what stands in the place of a sequence has no item
no_sequence : assigned (says SCHEDULED_HUMAN_PERFORMERS_SEQUENCE Lo (codes "A^B ") ∷ []) ≡ NO_PERFORMER
no_sequence = refl

the_dictionary_agrees : vr_of HUMAN_PERFORMER_CODE_SEQUENCE ∷ vr_of HUMAN_PERFORMER_ORGANIZATION ∷ vr_of REQUESTING_AE ∷ vr_of PROCEDURE_STEP_STATE ∷ vr_of INPUT_READINESS_STATE ∷ [] ≡ Sq ∷ Lo ∷ Ae ∷ Cs ∷ Cs ∷ []
unfolding vr_of
the_dictionary_agrees = refl

-- ENTRIES OF ANOTHER KIND: in no legal history; nothing is given

of_a_sweep : payload (event Assigned InProgress Ready) (asked Sweep) ++ payload (event ProgressReport InProgress Ready) (asked cancel) ≡ []
of_a_sweep = refl

-- a step whose readiness is not known
unknown_readiness : payload (record { number = 1; entry = 0; kind = StateReport; step = u; state = Scheduled; readiness = None }) (asked Sweep) ≡ readiness_of [] ∷ state_of (codes "SCHEDULED ") ∷ []
unknown_readiness = refl
