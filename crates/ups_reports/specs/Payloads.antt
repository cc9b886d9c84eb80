-- The content of an event report (PS3.4 CC.2.4): the Event Type ID and the Event Information of an event.
use Rattle.std.specs.Prelude.{ℕ, List, [], ◌∷◌, filter, Option, None, Some}
use Rattle.ups_dataset.specs.declared.dictionary.TheConstants.{HUMAN_PERFORMER_CODE_SEQUENCE, SCHEDULED_STATION_NAME_CODE_SEQUENCE, SCHEDULED_HUMAN_PERFORMERS_SEQUENCE, HUMAN_PERFORMER_ORGANIZATION, INPUT_READINESS_STATE, PROCEDURE_STEP_STATE, PROCEDURE_STEP_PROGRESS_INFORMATION_SEQUENCE, CONTACT_URI, CONTACT_DISPLAY_NAME, REQUESTING_AE}
use Rattle.ups_dataset.specs.declared.tag.Tag.{Tag}
use Rattle.ups_dataset.specs.declared.vr.Vr.{Vr}
use Rattle.ups_dataset.specs.declared.vr.Vr.TheVariants.{Ae, Cs, Lo, Sq}
use Rattle.ups_dataset.specs.Code.{list_of}
use Rattle.ups_dataset.specs.Data.{Data, bytes, items, no_items, item, El, element_at, put, laid_over, is_listed, answer}
use Rattle.ups_life.specs.declared.entry.Entry.{Entry}
use Rattle.ups_life.specs.declared.event.Event.{Event}
use Rattle.ups_life.specs.declared.event.EventKind.{EventKind}
use Rattle.ups_life.specs.declared.event.EventKind.TheVariants.{StateReport, CancelRequested, ProgressReport, Assigned}
use Rattle.ups_life.specs.declared.request.Request.{Request}
use Rattle.ups_life.specs.declared.request.Request.TheVariants.{AskCancel, Set}
use Rattle.ups_cycle.specs.declared.state.StepState.{StepState}
use Rattle.ups_cycle.specs.declared.state.StepState.TheVariants.{Canceled}
use Rattle.ups_life.specs.Readiness.{readiness_word}
use Rattle.ups_cycle.specs.States.{state_text}
use Rattle.ups_life.specs.Steps.{REASONS}
use Rattle.ups_life.specs.Values.{text_value}

-- THE TYPES

-- the Event Type IDs (PS3.4 table CC.2.4-1)
abbrev pub type_id : EventKind → ℕ
type_id StateReport = 1
type_id CancelRequested = 2
type_id ProgressReport = 3
type_id Assigned = 5

-- THE PARTS

-- an element with a text, padded to an even length
abbrev pub text_element : Tag → Vr → List ℕ → El
text_element tag vr text = record { tag = tag; vr = vr; value = bytes (text_value text) }

-- those of these attributes that are given
abbrev pub given_of : List Tag → List El → List El
given_of tags attributes = filter (λ e. is_listed e.tag tags) attributes

-- the attributes sent with a cancel request
abbrev pub sent_to_cancel : {A : Type 0} → Request A → List El
sent_to_cancel (AskCancel step reasons) = reasons
sent_to_cancel request = []

-- the attributes that an N-SET sets
abbrev pub sent_to_set : {A : Type 0} → Request A → List El
sent_to_set (Set step transaction attributes) = attributes
sent_to_set request = []

-- the attributes of either request
abbrev pub sent : {A : Type 0} → Request A → List El
sent (AskCancel step reasons) = reasons
sent (Set step transaction attributes) = attributes
sent request = []

-- STATE REPORTS

-- why a step was canceled, if a cancel request made it CANCELED (PS3.4 CC.2.2)
abbrev pub reason_told : {A : Type 0} → StepState → Request A → List El
reason_told Canceled request = given_of REASONS (sent_to_cancel request)
reason_told state request = []

-- the Event Information: the state of the step, its readiness, and why it was canceled, if it was
abbrev pub state_report : {A : Type 0} → Event → Request A → List El
state_report x request =
    put (text_element INPUT_READINESS_STATE Cs (readiness_word x.readiness)) (put (text_element PROCEDURE_STEP_STATE Cs (state_text x.state)) (reason_told x.state request))

-- CANCEL REQUESTS

-- why a step is to be canceled, and whom to contact about it
abbrev pub CANCEL_ATTRIBUTES : List Tag
CANCEL_ATTRIBUTES = CONTACT_URI ∷ CONTACT_DISPLAY_NAME ∷ REASONS

-- the Event Information: who asks for it, and, if given, why and whom to contact
abbrev pub cancel_requested : {A : Type 0} → Entry A → List El
cancel_requested e = put (text_element REQUESTING_AE Ae e.ae) (given_of CANCEL_ATTRIBUTES (sent_to_cancel e.request))

-- ASSIGNMENTS

-- the code and the organization of a human performer, both without a value
abbrev pub NO_PERFORMER : List El
NO_PERFORMER = record { tag = HUMAN_PERFORMER_CODE_SEQUENCE; vr = Sq; value = items no_items } ∷ record { tag = HUMAN_PERFORMER_ORGANIZATION; vr = Lo; value = bytes [] } ∷ []

-- the first item of a sequence; nothing if it has none
abbrev pub first_item : Data → List El
first_item (items (item es more)) = list_of es
first_item d = []

-- the code and the organization of the first human performer, if performers are given: each without a value if absent
abbrev pub performer : Option El → List El
performer None = []
performer (Some e) = answer (first_item e.value) NO_PERFORMER

-- the Event Information: the station and the human performer that are to perform the step
abbrev pub assignment : List El → List El
assignment attributes = laid_over (performer (element_at SCHEDULED_HUMAN_PERFORMERS_SEQUENCE attributes)) (given_of (SCHEDULED_STATION_NAME_CODE_SEQUENCE ∷ []) attributes)

-- THE PAYLOADS

-- THE EVENT INFORMATION of an event of this kind, which the entry e made (PS3.4 table CC.2.4-1)
abbrev pub payload_of : {A : Type 0} → EventKind → Event → Entry A → List El
payload_of StateReport x e = state_report x e.request
payload_of CancelRequested x e = cancel_requested e
payload_of ProgressReport x e = given_of (PROCEDURE_STEP_PROGRESS_INFORMATION_SEQUENCE ∷ []) (sent_to_set e.request)
payload_of Assigned x e = assignment (sent_to_set e.request)

abbrev pub payload : {A : Type 0} → Event → Entry A → List El
payload x e = payload_of x.kind x e
