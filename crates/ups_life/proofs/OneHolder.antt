-- A step has one holder at most: its claim is the only one, stays, and its Transaction UID is what only the holder
-- knows.
use Rattle.std.proofs.Common.{◌≡◌, ℕ, ◌≤◌, ◌⊎◌, inl, inr, Bool, true, false, cond, List, [], ◌∷◌, ◌++◌, length, Option, None, Some, refl, sym, ap, ◌∙◌, subst, arith}
use Rattle.std.specs.Option.{option_or, option_map}
use Rattle.ups_dataset.specs.Data.{El}
use Rattle.ups_life.specs.declared.request.Request.{Request}
use Rattle.ups_life.specs.declared.request.Request.TheVariants.{Create, Change, AskCancel, Set}
use Rattle.ups_life.specs.declared.request.Transaction.{Transaction}
use Rattle.ups_life.specs.declared.request.Transaction.TheVariants.{Absent, Malformed, Proper}
use Rattle.ups_cycle.specs.declared.state.StepState.{StepState}
use Rattle.ups_cycle.specs.declared.state.StepState.TheVariants.{Scheduled, InProgress, Completed, Canceled}
use Rattle.ups_life.specs.declared.row.Row.{Row}
use Rattle.ups_life.specs.declared.entry.Entry.{Entry}
use Rattle.ups_cycle.specs.declared.status.Status.{Status}
use Rattle.ups_cycle.specs.declared.status.Status.TheVariants.{Success, ScheduledByCreateAlone}
use Rattle.ups_life.specs.Settings.{Settings}
use Rattle.ups_cycle.specs.States.{is_final}
use Rattle.ups_life.specs.Values.{unless_fault}
use Rattle.ups_life.specs.Verdict.{is_right, is_given, is_proper, set_attributes_status, change_status, update_status, is_performed, is_discontinued}
use Rattle.ups_cycle.specs.Cycle.{claim_status, complete_status, discontinue_status, wrong_status, set_status}
use Rattle.ups_life.specs.Steps.{Claim, is_on, creates, uses_uid, used, canceled, state, state_then, taken, claimed, claim, right, row_of}
use Rattle.ups_life.specs.Watching.{is_held}
use Rattle.ups_life.specs.History.{legal}
use Rattle.ups_life.specs.Claims.{listed, claims}
use Rattle.ups_life.proofs.Texts.{same_text}
use Rattle.ups_life.proofs.Accepted.{said, succeeded, succeeded_of, legal_tail, created_fresh, was_held, on_held, neither, differ}
use Rattle.ups_life.proofs.HeldOnce.{is_held_used, creates_none}

-- an entry on a step that was never created creates it
pub not_on : {A : Type 0} (s : Settings) (es : List (Entry A)) (u : List ℕ) (r : Request A) → said s es r ≡ Success → used es u ≡ false → creates u r ≡ false → is_on u r ≡ false
not_on s es u r d unused new = is_false (is_on u r) (λ on. differ (used es u) unused (is_held_used s es u (on_held s es u r d on new)))
  where
    is_false : (b : Bool) → (b ≡ true → ⊥) → b ≡ false
    is_false true n = absurd (n refl)
    is_false false n = refl

-- what was never created has no claim
pub unclaimed : {A : Type 0} (s : Settings) (es : List (Entry A)) (u : List ℕ) → legal s es ≡ true → used es u ≡ false → claims es u ≡ []
unclaimed s [] u h unused = refl
unclaimed s (e ∷ es) u h unused =
    let none = neither (uses_uid u e.request) (used es u) unused in
    ap (λ on. cond on (listed (claimed e)) [] ++ claims es u) (not_on s es u e.request (succeeded s e es h) none.1 (creates_none u e.request none.0))
    ∙ unclaimed s es u (legal_tail s e es h) none.1

-- a cancel request leaves no step SCHEDULED
not_scheduled : (before : StepState) → canceled before ≡ Scheduled → ⊥
not_scheduled Scheduled e = absurd cc
not_scheduled InProgress e = absurd cc
not_scheduled Completed e = absurd cc
not_scheduled Canceled e = absurd cc

-- an entry after which its step is SCHEDULED is no claim, and created the step or found it so
new_or_so : {A : Type 0} (s : Settings) (es : List (Entry A)) (u : List ℕ) (r : Request A) → said s es r ≡ Success → is_on u r ≡ true → state_then (state es u) r ≡ Scheduled
    → (taken r ≡ None) × ((used es u ≡ false) ⊎ (state es u ≡ Scheduled))
new_or_so s es u (Create step set) d on after = (refl, inl (ap (used es) (sym (same_text step u on)) ∙ created_fresh s es step set d))
new_or_so s es u (Change None to t) d on after = absurd cc
new_or_so s es u (Change (Some v) Scheduled t) d on after = absurd (never (was_held (is_held s es v) (row_of s es v) (λ r. change_status r Scheduled t) d).1)
  where
    never : ScheduledByCreateAlone ≡ Success → ⊥
    never e = absurd cc
new_or_so s es u (Change (Some v) to t) d on after = absurd cc
new_or_so s es u (AskCancel step reasons) d on after = absurd (not_scheduled (state es u) after)
new_or_so s es u (Set step t set) d on after = (refl, inr after)
new_or_so s es u r d on after = absurd cc

-- a step that is SCHEDULED has no claim
pub scheduled_unclaimed : {A : Type 0} (s : Settings) (es : List (Entry A)) (u : List ℕ) → legal s es ≡ true → state es u ≡ Scheduled → claims es u ≡ []
scheduled_unclaimed s [] u h is = refl
scheduled_unclaimed {A} s (e ∷ es) u h is =
    let before = legal_tail s e es h in
    here (is_on u e.request) (state_then (state es u) e.request) (state es u) (taken e.request) (claim_by e) (claims es u)
    (new_or_so s es u e.request (succeeded s e es h)) (unclaimed s es u before) (scheduled_unclaimed s es u before) is
  where
    claim_by : Entry A → List ℕ → Claim
    claim_by e uid = record { holder = record { caller = e.caller; ae = e.ae }; transaction = uid }

    pick : {P Q R : Type 0} → P ⊎ Q → (P → R) → (Q → R) → R
    pick (inl p) f g = f p
    pick (inr q) f g = g q

    here : {Fresh : Type 0} (on : Bool) (after before : StepState) (uid : Option (List ℕ)) (f : List ℕ → Claim) (rest : List Claim)
        → (on ≡ true → after ≡ Scheduled → (uid ≡ None) × (Fresh ⊎ (before ≡ Scheduled))) → (Fresh → rest ≡ []) → (before ≡ Scheduled → rest ≡ [])
        → cond on after before ≡ Scheduled → cond on (listed (option_map f uid)) [] ++ rest ≡ []
    here true after before uid f rest way new so is =
        let w = way refl is in
        ap (λ t. listed (option_map f t) ++ rest) w.0 ∙ pick w.1 new so
    here false after before uid f rest way new so is = so is

-- a claim is made on a step that is SCHEDULED
claims_scheduled : {A : Type 0} (s : Settings) (es : List (Entry A)) (u : List ℕ) (r : Request A) (uid : List ℕ) → said s es r ≡ Success → is_on u r ≡ true → taken r ≡ Some uid → state es u ≡ Scheduled
claims_scheduled s es u (Change (Some v) InProgress (Proper x)) uid d on is =
    ap (state es) (sym (same_text v u on)) ∙ to_claim (state es v) (was_held (is_held s es v) (row_of s es v) (λ r. claim_status r.state) d).1
  where
    to_claim : (before : StepState) → claim_status before ≡ Success → before ≡ Scheduled
    to_claim Scheduled e = refl
    to_claim before e = absurd cc
claims_scheduled s es u (Change None to t) uid d on is = absurd cc
claims_scheduled s es u r uid d on is = absurd cc

claim_taken : (x : Option (List ℕ)) (f : List ℕ → Claim) (c : Claim) → option_map f x ≡ Some c → (uid : List ℕ) × (x ≡ Some uid)
claim_taken None f c e = absurd cc
claim_taken (Some uid) f c e = (uid, refl)

-- a step that is claimed had no claim before
pub claimed_first : {A : Type 0} (s : Settings) (e : Entry A) (es : List (Entry A)) (u : List ℕ) (c : Claim) → legal s (e ∷ es) ≡ true → is_on u e.request ≡ true → claimed e ≡ Some c → claims es u ≡ []
claimed_first {A} s e es u c h on is =
    let by : List ℕ → Claim = λ uid. record { holder = record { caller = e.caller; ae = e.ae }; transaction = uid } in
    let t = claim_taken (taken e.request) by c is in
    scheduled_unclaimed s es u (legal_tail s e es h) (claims_scheduled s es u e.request t.0 (succeeded s e es h) on t.1)

-- a step has at most one claim
pub claimed_once : {A : Type 0} (s : Settings) (es : List (Entry A)) (u : List ℕ) → legal s es ≡ true → length (claims es u) ≤ 1
claimed_once s [] u h = omega arith
claimed_once s (e ∷ es) u h = here (is_on u e.request) (claimed e) (claims es u) (λ c on is. claimed_first s e es u c h on is) (claimed_once s es u (legal_tail s e es h))
  where
    here : (on : Bool) (x : Option Claim) (rest : List Claim) → ((c : Claim) → on ≡ true → x ≡ Some c → rest ≡ []) → length rest ≤ 1 → length (cond on (listed x) [] ++ rest) ≤ 1
    here true None rest first le = le
    here true (Some c) rest first le = subst (λ (l : List Claim). length (c ∷ l) ≤ 1) (sym (first c refl refl)) (omega arith)
    here false x rest first le = le

-- the claim is the newest of the claims
pub no_claim : {A : Type 0} (es : List (Entry A)) (u : List ℕ) → claims es u ≡ [] → claim es u ≡ None
no_claim [] u h = refl
no_claim (e ∷ es) u h = here (is_on u e.request) (claimed e) (claims es u) (claim es u) (no_claim es u) h
  where
    here : (on : Bool) (x : Option Claim) (more : List Claim) (before : Option Claim) → (more ≡ [] → before ≡ None) → cond on (listed x) [] ++ more ≡ [] → cond on (option_or x before) before ≡ None
    here true None more before same h = same h
    here true (Some c) more before same h = absurd cc
    here false x more before same h = same h

-- a claim stays
pub claim_stays : {A : Type 0} (s : Settings) (e : Entry A) (es : List (Entry A)) (u : List ℕ) (c : Claim) → legal s (e ∷ es) ≡ true → claim es u ≡ Some c → claim (e ∷ es) u ≡ Some c
claim_stays s e es u c h is = here (is_on u e.request) (claimed e) (claim es u) (λ d on new. no_claim es u (claimed_first s e es u d h on new)) is
  where
    none_is_some : (x : Option Claim) → x ≡ None → x ≡ Some c → ⊥
    none_is_some x n so = absurd cc

    here : (on : Bool) (x before : Option Claim) → ((d : Claim) → on ≡ true → x ≡ Some d → before ≡ None) → before ≡ Some c → cond on (option_or x before) before ≡ Some c
    here true None before first is = is
    here true (Some d) before first is = absurd (none_is_some before (first d refl refl) is)
    here false x before first is = is

-- a Transaction UID is right where it is that of the claim
right_is : (of_claim : Option (List ℕ)) (t : Transaction) → is_right of_claim t ≡ true → (uid : List ℕ) × (t ≡ Proper uid) × (of_claim ≡ Some uid)
right_is (Some x) (Proper uid) e = (uid, refl, ap (λ (w : List ℕ). Some w) (sym (same_text uid x e)))
right_is (Some x) Absent e = absurd cc
right_is (Some x) Malformed e = absurd cc
right_is None t e = absurd cc

-- who sets attributes of a claimed step knows the Transaction UID of its claim
pub sets_with_right : {A : Type 0} (s : Settings) (e : Entry A) (es : List (Entry A)) (u : List ℕ) (t : Transaction) (set : List El) → legal s (e ∷ es) ≡ true → e.request ≡ Set (Some u) t set → state es u ≡ InProgress
    → (uid : List ℕ) × (t ≡ Proper uid) × (right es u ≡ Some uid)
sets_with_right s e es u t set h is now =
    let accepted = (was_held (is_held s es u) (row_of s es u) (λ r. update_status r t set) (succeeded_of s e es (Set (Some u) t set) h is)).1 in
    right_is (right es u) t (needs_right (is_right (right es u) t) (is_given t) (state es u) now (no_fault (set_status (is_right (right es u) t) (is_given t) (state es u)) (set_attributes_status set) accepted))
  where
    no_fault : (first later : Status) → unless_fault first later ≡ Success → first ≡ Success
    no_fault Success later e = refl
    no_fault fault later e = e

    needs_right : (right given : Bool) (now : StepState) → now ≡ InProgress → set_status right given now ≡ Success → right ≡ true
    needs_right true given now is e = refl
    needs_right false given InProgress is e = absurd cc
    needs_right false given now is e = absurd cc

-- who finishes a step knows it too
pub finishes_with_right : {A : Type 0} (s : Settings) (e : Entry A) (es : List (Entry A)) (u : List ℕ) (to : StepState) (t : Transaction) → legal s (e ∷ es) ≡ true → e.request ≡ Change (Some u) to t → is_final to ≡ true
    → (uid : List ℕ) × (t ≡ Proper uid) × (right es u ≡ Some uid)
finishes_with_right {A} s e es u to t h is final =
    let accepted = (was_held (is_held s es u) (row_of s es u) (λ r. change_status r to t) (succeeded_of s e es (Change (Some u) to t) h is)).1 in
    right_is (right es u) t (needs_right (row_of s es u) to final accepted)
  where
    wrong_is_refused : (proper : Bool) (before : StepState) → wrong_status proper before ≡ Success → ⊥
    wrong_is_refused true Scheduled e = absurd cc
    wrong_is_refused false Scheduled e = absurd cc
    wrong_is_refused proper before e = absurd cc

    by_right : (right proper : Bool) (before : StepState) (x : Status) → cond right x (wrong_status proper before) ≡ Success → right ≡ true
    by_right true proper before x e = refl
    by_right false proper before x e = absurd (wrong_is_refused proper before e)

    needs_right : (r : Row A) (to : StepState) → is_final to ≡ true → change_status r to t ≡ Success → is_right r.transaction t ≡ true
    needs_right r Completed final e = by_right (is_right r.transaction t) (is_proper t) r.state (complete_status (is_performed r.attributes) r.state) e
    needs_right r Canceled final e = by_right (is_right r.transaction t) (is_proper t) r.state (discontinue_status (is_discontinued r.attributes) r.state) e
    needs_right r Scheduled final e = absurd cc
    needs_right r InProgress final e = absurd cc
