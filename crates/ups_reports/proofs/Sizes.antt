-- How many bytes an event report has: hardly more than what was sent with the request that made it.
use Rattle.std.proofs.Common.{◌≡◌, ℕ, ◌+◌, ◌%◌, ◌≤◌, Bool, true, false, cond, ◌&&◌, ◌||◌, ◌==◌, List, [], ◌∷◌, ◌++◌, length, filter, Option, None, Some, refl, sym, ap, ◌∙◌, arith}
use Rattle.std.specs.Prelude.{nat_lt}
use Rattle.std.specs.Option.{unwrap_or}
use Rattle.std.proofs.lemmas.List.{length-append}
use Rattle.ups_dataset.specs.declared.dictionary.TheConstants.{HUMAN_PERFORMER_CODE_SEQUENCE, SCHEDULED_STATION_NAME_CODE_SEQUENCE, SCHEDULED_HUMAN_PERFORMERS_SEQUENCE, HUMAN_PERFORMER_ORGANIZATION, INPUT_READINESS_STATE, PROCEDURE_STEP_STATE, PROCEDURE_STEP_PROGRESS_INFORMATION_SEQUENCE, REQUESTING_AE}
use Rattle.ups_pdu.specs.declared.syntax.TransferSyntax.TheVariants.{Explicit}
use Rattle.ups_dataset.specs.declared.tag.Tag.{Tag}
use Rattle.ups_dataset.specs.declared.vr.Vr.TheVariants.{Ae, Cs, Lo, Sq}
use Rattle.ups_dataset.specs.Code.{list_of}
use Rattle.ups_dataset.specs.Tag.{number, is_tag}
use Rattle.ups_dataset.specs.Data.{Data, bytes, items, no_items, item, Elements, no_elements, element, El, elements_of, element_at, put, laid_over, is_listed, answer_to, answer}
use Rattle.ups_dataset.specs.Written.{written, written_elements, written_data, written_items, written_head, written_element}
use Rattle.ups_life.specs.declared.entry.Entry.{Entry}
use Rattle.ups_life.specs.declared.event.Event.{Event}
use Rattle.ups_life.specs.declared.event.EventKind.{EventKind}
use Rattle.ups_life.specs.declared.event.EventKind.TheVariants.{StateReport, CancelRequested, ProgressReport, Assigned}
use Rattle.ups_life.specs.declared.readiness.InputReadiness.{InputReadiness}
use Rattle.ups_life.specs.declared.readiness.InputReadiness.TheVariants.{Incomplete, Unavailable, Ready}
use Rattle.ups_life.specs.declared.request.Request.{Request}
use Rattle.ups_life.specs.declared.request.Request.TheVariants.{AskCancel, Set}
use Rattle.ups_cycle.specs.declared.state.StepState.{StepState}
use Rattle.ups_cycle.specs.declared.state.StepState.TheVariants.{Scheduled, InProgress, Completed, Canceled}
use Rattle.ups_life.specs.Readiness.{readiness_word}
use Rattle.ups_cycle.specs.States.{state_text}
use Rattle.ups_life.specs.Steps.{REASONS}
use Rattle.ups_reports.specs.Payloads.{text_element, given_of, sent_to_cancel, sent_to_set, sent, reason_told, state_report, CANCEL_ATTRIBUTES, cancel_requested, NO_PERFORMER, first_item, performer, assignment, payload_of, payload}

-- the bytes of a set, of an element, and of one that may be absent
abbrev size : List El → ℕ
size set = length (written Explicit set)

abbrev own : El → ℕ
own e = length (written_element Explicit e)

abbrev own_if : Option El → ℕ
own_if None = 0
own_if (Some e) = own e

-- an element that is put adds its own bytes at most
put_length : (x : El) (set : List El) → size (put x set) ≤ size set + own x
put_length x [] = omega (arith, length-append (written_element Explicit x) [])
put_length x (e ∷ es) = here (is_tag e.tag x.tag) (nat_lt (number x.tag) (number e.tag)) (put_length x es)
  where
    here : (same below : Bool) → size (put x es) ≤ size es + own x → size (cond same (x ∷ es) (cond below (x ∷ e ∷ es) (e ∷ put x es))) ≤ size (e ∷ es) + own x
    here true below h = omega (arith, length-append (written_element Explicit x) (written Explicit es), length-append (written_element Explicit e) (written Explicit es))
    here false true h = omega (arith, length-append (written_element Explicit x) (written_element Explicit e ++ written Explicit es))
    here false false h = omega (arith, h, length-append (written_element Explicit e) (written Explicit (put x es)), length-append (written_element Explicit e) (written Explicit es))

laid_length : (xs below : List El) → size (laid_over xs below) ≤ size xs + size below
laid_length [] below = omega arith
laid_length (x ∷ xs) below = omega (arith, laid_length xs (put x below), put_length x below, length-append (written_element Explicit x) (written Explicit xs))

-- some elements of a set, and one that is none of them
filter_length : (p : El → Bool) (set : List El) → size (filter p set) ≤ size set
filter_length p [] = omega arith
filter_length p (e ∷ es) = here (p e) (filter_length p es)
  where
    here : (b : Bool) → size (filter p es) ≤ size es → size (cond b (e ∷ filter p es) (filter p es)) ≤ size (e ∷ es)
    here true h = omega (arith, h, length-append (written_element Explicit e) (written Explicit (filter p es)), length-append (written_element Explicit e) (written Explicit es))
    here false h = omega (arith, h, length-append (written_element Explicit e) (written Explicit es))

apart : (p : El → Bool) (t : Tag) (set : List El) → ((e : El) → p e ≡ true → is_tag e.tag t ≡ false) → size (filter p set) + own_if (element_at t set) ≤ size set
apart p t [] other = omega arith
apart p t (e ∷ es) other = here (p e) refl (is_tag e.tag t) refl (apart p t es other)
  where
    here : (a : Bool) → p e ≡ a → (b : Bool) → is_tag e.tag t ≡ b → size (filter p es) + own_if (element_at t es) ≤ size es
        → size (cond a (e ∷ filter p es) (filter p es)) + own_if (cond b (Some e) (element_at t es)) ≤ size (e ∷ es)
    here true is true at h = let not_at : is_tag e.tag t ≡ false = other e is in absurd cc
    here true is false at h = omega (arith, h, length-append (written_element Explicit e) (written Explicit (filter p es)), length-append (written_element Explicit e) (written Explicit es))
    here false is true at h = omega (arith, filter_length p es, length-append (written_element Explicit e) (written Explicit es))
    here false is false at h = omega (arith, h, length-append (written_element Explicit e) (written Explicit es))

first_among : (t : Tag) (set : List El) → own_if (element_at t set) ≤ size (filter (λ e. is_tag e.tag t) set)
first_among t [] = omega arith
first_among t (e ∷ es) = here (is_tag e.tag t) (first_among t es)
  where
    here : (b : Bool) → own_if (element_at t es) ≤ size (filter (λ x. is_tag x.tag t) es) → own_if (cond b (Some e) (element_at t es)) ≤ size (cond b (e ∷ filter (λ x. is_tag x.tag t) es) (filter (λ x. is_tag x.tag t) es))
    here true h = omega (arith, length-append (written_element Explicit e) (written Explicit (filter (λ x. is_tag x.tag t) es)))
    here false h = h

same_tags : (s t u : Tag) → is_tag s t ≡ true → is_tag s u ≡ is_tag t u
same_tags s t u e =
    let groups : s.group ≡ t.group = grind (arith, e) in
    let elements : s.element ≡ t.element = grind (arith, e) in
    (λ i. (groups i == u.group) && (elements i == u.element))

-- two elements of a set
two : (s t : Tag) (set : List El) → is_tag s t ≡ false → own_if (element_at s set) + own_if (element_at t set) ≤ size set
two s t set other = omega (arith, first_among s set, apart (λ e. is_tag e.tag s) t set (λ e is. same_tags e.tag s t is ∙ other))

-- STATE REPORTS

state_length : (state : StepState) → own (text_element PROCEDURE_STEP_STATE Cs (state_text state)) ≤ 20
state_length Scheduled = let is : own (text_element PROCEDURE_STEP_STATE Cs (state_text Scheduled)) ≡ 18 = refl in omega (arith, is)
state_length InProgress = let is : own (text_element PROCEDURE_STEP_STATE Cs (state_text InProgress)) ≡ 20 = refl in omega (arith, is)
state_length Completed = let is : own (text_element PROCEDURE_STEP_STATE Cs (state_text Completed)) ≡ 18 = refl in omega (arith, is)
state_length Canceled = let is : own (text_element PROCEDURE_STEP_STATE Cs (state_text Canceled)) ≡ 16 = refl in omega (arith, is)

readiness_length : (readiness : Option InputReadiness) → own (text_element INPUT_READINESS_STATE Cs (readiness_word readiness)) ≤ 20
readiness_length None = let is : own (text_element INPUT_READINESS_STATE Cs (readiness_word None)) ≡ 8 = refl in omega (arith, is)
readiness_length (Some Incomplete) = let is : own (text_element INPUT_READINESS_STATE Cs (readiness_word (Some Incomplete))) ≡ 18 = refl in omega (arith, is)
readiness_length (Some Unavailable) = let is : own (text_element INPUT_READINESS_STATE Cs (readiness_word (Some Unavailable))) ≡ 20 = refl in omega (arith, is)
readiness_length (Some Ready) = let is : own (text_element INPUT_READINESS_STATE Cs (readiness_word (Some Ready))) ≡ 14 = refl in omega (arith, is)

cancel_sent : {A : Type 0} (r : Request A) → size (sent_to_cancel r) ≤ size (sent r)
cancel_sent (AskCancel step reasons) = omega arith
cancel_sent (Set step t attributes) = omega arith
cancel_sent r = omega arith

set_sent : {A : Type 0} (r : Request A) → size (sent_to_set r) ≤ size (sent r)
set_sent (AskCancel step reasons) = omega arith
set_sent (Set step t attributes) = omega arith
set_sent r = omega arith

reason_length : {A : Type 0} (state : StepState) (r : Request A) → size (reason_told state r) ≤ size (sent r)
reason_length Canceled r = omega (arith, filter_length (λ e. is_listed e.tag REASONS) (sent_to_cancel r), cancel_sent r)
reason_length Scheduled r = omega arith
reason_length InProgress r = omega arith
reason_length Completed r = omega arith

report_length : {A : Type 0} (x : Event) (r : Request A) → size (state_report x r) ≤ size (sent r) + 40
report_length x r =
    let state = text_element PROCEDURE_STEP_STATE Cs (state_text x.state) in
    let readiness = text_element INPUT_READINESS_STATE Cs (readiness_word x.readiness) in
    omega (arith, put_length readiness (put state (reason_told x.state r)), put_length state (reason_told x.state r), reason_length x.state r, state_length x.state, readiness_length x.readiness)

-- CANCEL REQUESTS

padded_length : (b : Bool) (text : List ℕ) → length (cond b text (text ++ 32 ∷ [])) ≤ length text + 1
padded_length true text = omega arith
padded_length false text = omega (arith, length-append text (32 ∷ []))

requester_length : (ae : List ℕ) → length ae ≤ 16 → own (text_element REQUESTING_AE Ae ae) ≤ 40
requester_length ae h = omega (arith, h, padded_length ((length ae % 2) == 0) ae)

cancel_length : {A : Type 0} (e : Entry A) → length e.ae ≤ 16 → size (cancel_requested e) ≤ size (sent e.request) + 40
cancel_length e h =
    omega (arith, put_length (text_element REQUESTING_AE Ae e.ae) (given_of CANCEL_ATTRIBUTES (sent_to_cancel e.request)), filter_length (λ x. is_listed x.tag CANCEL_ATTRIBUTES) (sent_to_cancel e.request), cancel_sent e.request, requester_length e.ae h)

-- ASSIGNMENTS

listed_again : (es : Elements) → elements_of (list_of es) ≡ es
listed_again no_elements = refl
listed_again (element tag vr d more) = ap (element tag vr d) (listed_again more)

value_length : (d : Data) → size (first_item d) ≤ length (written_data Explicit d)
value_length (bytes b) = omega arith
value_length (items no_items) = omega arith
value_length (items (item es more)) =
    let again : length (written_elements Explicit (elements_of (list_of es))) ≡ length (written_elements Explicit es) = ap (λ l. length (written_elements Explicit l)) (listed_again es) in
    omega (arith, again, length-append (written_elements Explicit es) (written_items Explicit more))

own_value : (e : El) → length (written_data Explicit e.value) ≤ own e
own_value e = omega (arith, length-append (written_head Explicit e.tag e.vr (length (written_data Explicit e.value))) (written_data Explicit e.value))

pair_length : (a b : El) → size (a ∷ b ∷ []) ≤ own a + own b
pair_length a b = omega (arith, length-append (written_element Explicit a) (written Explicit (b ∷ [])), length-append (written_element Explicit b) [])

answered : (o : Option El) (x : El) → own (unwrap_or o x) ≤ own_if o + own x
answered None x = omega arith
answered (Some e) x = omega arith

within : (all a b in_a in_b given value whole : ℕ) → all ≤ a + b → a ≤ in_a + 12 → b ≤ in_b + 8 → in_a + in_b ≤ given → given ≤ value → value ≤ whole → all ≤ whole + 20
within all a b in_a in_b given value whole h ha hb hi hv hw = omega arith

performer_length : (o : Option El) → size (performer o) ≤ own_if o + 20
performer_length None = omega arith
performer_length (Some e) =
    let given : List El = first_item e.value in
    let code : El = record { tag = HUMAN_PERFORMER_CODE_SEQUENCE; vr = Sq; value = items no_items } in
    let organization : El = record { tag = HUMAN_PERFORMER_ORGANIZATION; vr = Lo; value = bytes [] } in
    within (size (answer given NO_PERFORMER)) (own (answer_to given code)) (own (answer_to given organization)) (own_if (element_at HUMAN_PERFORMER_CODE_SEQUENCE given)) (own_if (element_at HUMAN_PERFORMER_ORGANIZATION given))
    (size given) (length (written_data Explicit e.value)) (own e)
    (pair_length (answer_to given code) (answer_to given organization)) (answered (element_at HUMAN_PERFORMER_CODE_SEQUENCE given) code) (answered (element_at HUMAN_PERFORMER_ORGANIZATION given) organization)
    (two HUMAN_PERFORMER_CODE_SEQUENCE HUMAN_PERFORMER_ORGANIZATION given refl) (value_length e.value) (own_value e)

listed_one : (b : Bool) → b || false ≡ true → b ≡ true
listed_one true e = refl
listed_one false e = absurd cc

beside : (all performer station performers set : ℕ) → all ≤ performer + station → performer ≤ performers + 20 → station + performers ≤ set → all ≤ set + 20
beside all performer station performers set h hp hs = omega arith

assignment_length : (set : List El) → size (assignment set) ≤ size set + 20
assignment_length set =
    let performers : Option El = element_at SCHEDULED_HUMAN_PERFORMERS_SEQUENCE set in
    let station : List El = given_of (SCHEDULED_STATION_NAME_CODE_SEQUENCE ∷ []) set in
    beside (size (assignment set)) (size (performer performers)) (size station) (own_if performers) (size set) (laid_length (performer performers) station) (performer_length performers)
    (apart (λ e. is_listed e.tag (SCHEDULED_STATION_NAME_CODE_SEQUENCE ∷ [])) SCHEDULED_HUMAN_PERFORMERS_SEQUENCE set
    (λ e is. sym (same_tags SCHEDULED_STATION_NAME_CODE_SEQUENCE e.tag SCHEDULED_HUMAN_PERFORMERS_SEQUENCE (listed_one (is_tag SCHEDULED_STATION_NAME_CODE_SEQUENCE e.tag) is))))

pub payload_length : {A : Type 0} (x : Event) (e : Entry A) → length e.ae ≤ 16 → size (payload x e) ≤ size (sent e.request) + 40
payload_length x e h = at x.kind
  where
    at : (kind : EventKind) → size (payload_of kind x e) ≤ size (sent e.request) + 40
    at StateReport = report_length x e.request
    at CancelRequested = cancel_length e h
    at ProgressReport = omega (arith, filter_length (λ a. is_listed a.tag (PROCEDURE_STEP_PROGRESS_INFORMATION_SEQUENCE ∷ [])) (sent_to_set e.request), set_sent e.request)
    at Assigned = omega (arith, assignment_length (sent_to_set e.request), set_sent e.request)
