-- What is answered by what is decided, and what is decided of a request that creates or changes a step.
use Rattle.std.proofs.Common.{◌≡◌, All, inl, inr, ℕ, ℤ, ◌<◌, Bool, true, false, cond, ◌&&◌, List, [], ◌∷◌, ◌++◌, length, Option, None, Some, refl, sym, ap, subst, ◌∙◌, arith}
use Rattle.std.specs.Prelude.{nat_lt, not}
use Rattle.std.specs.Option.{option_or, unwrap_or}
use Rattle.std.specs.List.{AllByRecursion}
use Rattle.std.proofs.lemmas.Bool.Decides.{nat_tests}
use Rattle.std.proofs.lemmas.List.Elements.{All-cons, All-append}
use Rattle.ups_cycle.specs.declared.status.Status.{Status}
use Rattle.ups_cycle.specs.declared.status.Status.TheVariants.{Success, ResourceLimitation, UnknownInstance}
use Rattle.ups_cycle.specs.Statuses.{is_done}
use Rattle.ups_life.specs.declared.entry.Entry.{Entry}
use Rattle.ups_life.specs.declared.request.Request.{Request}
use Rattle.ups_life.specs.declared.request.Request.TheVariants.{Create, Change, AskCancel, Set, Subscribe, Unsubscribe, Suspend, Ack, Sweep, Reserve}
use Rattle.ups_life.specs.declared.request.Ask.TheVariants.{Do}
use Rattle.ups_life.specs.declared.request.Reply.{Reply}
use Rattle.ups_life.specs.declared.request.Reply.TheVariants.{Status as Answered, Swept}
use Rattle.ups_life.specs.declared.row.Row.{Row}
use Rattle.ups_life.specs.Settings.{Settings, IsMoment}
use Rattle.ups_life.specs.Steps.{past, used, step_of, row_after, nothing}
use Rattle.ups_life.specs.Watching.{known}
use Rattle.ups_life.specs.Verdict.{verdict}
use Rattle.ups_life.specs.History.{accepts, legal, reply, sized, in_room, is_sized, fits, repeats, row_then, decided}
use Rattle.ups_life.proofs.Past.{length-past}
use Rattle.ups_tables.specs.declared.rows.HeldStep.{HeldStep}
use Rattle.ups_tables.specs.HeldSteps.{held_steps, step_at, row_in, row_of_step, holder_in, claims_it, put_step}
use Rattle.ups_tables.proofs.Holding.{row_in-held_steps, row_of_step-held_steps, held_steps-after}
use Rattle.ups_steps.specs.declared.held.HeldRow.{HeldRow}
use Rattle.ups_tables.specs.Held.{held_at}
use Rattle.ups_tables.specs.Keyed.{step_with_held, as_steps, row_held, holder_held}
use Rattle.ups_tables.proofs.Keyed.{row_found, holder_found}
use Rattle.ups_service.specs.Law.{is_granted, OrLacking, Answers, is_legal, entry}
use Rattle.ups_service.proofs.Legality.{no_room}
use Rattle.ups_manager.specs.declared.deciding.Kind.TheVariants.{OfStep}
use Rattle.ups_manager.specs.declared.submitting.SubmitFault.{SubmitFault}
use Rattle.ups_manager.specs.declared.submitting.SubmitFault.TheVariants.{Refused, Memory}
use Rattle.ups_manager.specs.Deciding.{kind_of, repeats_in}
use Rattle.ups_manager.specs.Faults.{status_of, RowFails, StepFails}
use Rattle.ups_manager.specs.Held.{IsSmallStep}
use Rattle.ups_manager.proofs.Small.{small_after, small_put}

-- A REPLY

-- what is refused is so whether there is room or not
pub refuses : {A : Type 0} (s : Settings) (history : List (Entry A)) (call : Entry A) (x : Reply A) → decided s (past history) call call.request ≡ x → accepts x ≡ false → x ≡ reply s (past history) call
refuses {A} s history call x is n = sym (ap (in_room s (past history)) is ∙ ap (λ a. cond (a && not (nat_lt (length (past history)) s.limit)) (no_room {A = A}) x) n)

-- to what is granted, memory may be wanting
pub lacks : {A : Type 0} (s : Settings) (history : List (Entry A)) (call : Entry A) (x : Reply A) → decided s (past history) call call.request ≡ x → is_granted x ≡ true
    → Answers s history call.caller call.ae call.moment (Do call.request) (Answered ResourceLimitation)
lacks {A} s history call x is granted =
    subst (λ (due : Reply A). OrLacking ResourceLimitation due (Answered ResourceLimitation)) (sym (ap (in_room s (past history)) is)) (at (accepts x && not (nat_lt (length (past history)) s.limit)))
  where
    at : (full : Bool) → OrLacking ResourceLimitation (cond full (no_room {A = A}) x) (Answered ResourceLimitation)
    at true = inl refl
    at false = inr (granted, refl)

pub done_granted : (A : Type 0) (x : Reply A) → accepts x ≡ true → is_granted x ≡ true
done_granted A (Answered status) h = h
done_granted A (Swept count) h = h
done_granted A x h = absurd cc

-- where there is no room
pub answers_full : {A : Type 0} (s : Settings) (history : List (Entry A)) (call : Entry A) (x : Reply A) → decided s (past history) call call.request ≡ x → accepts x ≡ true
    → Answers s history call.caller call.ae call.moment (Do call.request) (Answered ResourceLimitation)
answers_full {A} s history call x is ok = lacks s history call x is (done_granted A x ok)

within : (n m : ℕ) → n < m → nat_lt n m ≡ true
within n m h = grind (arith, nat_tests)

-- where there is room
pub succeeds : {A : Type 0} (s : Settings) (history : List (Entry A)) (call : Entry A) (x : Reply A) → decided s (past history) call call.request ≡ x → length history < s.limit → reply s (past history) call ≡ x
succeeds {A} s history call x is room =
    let left : length (past history) < s.limit = omega (arith, room, length-past history) in
    ap (in_room s (past history)) is ∙ ap (λ b. cond (accepts x && not b) (no_room {A = A}) x) (within (length (past history)) s.limit left) ∙ no (accepts x)
  where
    no : (b : Bool) → cond (b && false) (no_room {A = A}) x ≡ x
    no true = refl
    no false = refl

-- the history stays legal with the call behind the others
pub legal_with : {A : Type 0} (s : Settings) (history : List (Entry A)) (call : Entry A) (x : Reply A) → is_legal s history → decided s (past history) call call.request ≡ x → accepts x ≡ true → length history < s.limit
    → legal s (call ∷ past history) ≡ true
legal_with s history call x so decided ok room =
    ap (λ y. accepts y && legal s (past history)) (succeeds s history call x decided room) ∙ ap (λ b. b && legal s (past history)) ok ∙ so

-- A REQUEST THAT CREATES OR CHANGES A STEP

-- whether it repeats a UID is known by those that were used
pub repeats_is : {A : Type 0} (was_used : List ℕ → Bool) (es : List (Entry A)) (r : Request A) → ((u : List ℕ) → was_used u ≡ used es u) → repeats_in was_used r ≡ repeats es r
repeats_is was_used es (Create step set) h = h step
repeats_is was_used es (Change step to t) h = refl
repeats_is was_used es (AskCancel step reasons) h = refl
repeats_is was_used es (Set step t set) h = refl
repeats_is was_used es (Subscribe target receiver lock) h = refl
repeats_is was_used es (Unsubscribe place receiver) h = refl
repeats_is was_used es (Suspend receiver) h = refl
repeats_is was_used es (Ack upto) h = refl
repeats_is was_used es Sweep h = refl
repeats_is was_used es (Reserve step) h = refl

step_decided : {A : Type 0} (s : Settings) (es : List (Entry A)) (caller : ℕ) (ae : List ℕ) (moment : ℕ) (r : Request A) → kind_of r ≡ OfStep
    → decided s es (entry caller ae moment r) r ≡ Answered (sized r (row_then s es (entry caller ae moment r)).attributes (verdict (known s es (step_of r)) (repeats es r) r))
step_decided s es caller ae moment (Create step set) h = refl
step_decided s es caller ae moment (Change step to t) h = refl
step_decided s es caller ae moment (AskCancel step reasons) h = refl
step_decided s es caller ae moment (Set step t set) h = refl
step_decided s es caller ae moment r h = absurd cc

-- what is held of the step of a call that is accepted after a history
pub record Accepted {A : Type 0} (s : Settings) (history : List (Entry A)) (hs : List (HeldStep A)) (call : Entry A) (x : HeldStep A) : Type 0 where
  pub step : step_of call.request ≡ Some x.step
  pub allowed : verdict (row_in x.step hs) (repeats (past history) call.request) call.request ≡ Success
  pub row : x.row ≡ row_after s.offset call.moment (unwrap_or (row_in x.step hs) nothing) call.request
  pub holder : x.holder ≡ option_or (claims_it call) (holder_in (step_at x.step hs))
  pub fits : is_sized call.request ≡ true → fits x.row.attributes ≡ true

unless_too_large : (sized fit : Bool) → (sized ≡ true → fit ≡ true) → cond (sized && not fit) ResourceLimitation Success ≡ Success
unless_too_large true true h = refl
unless_too_large true false h = absurd (no (h refl))
  where
    no : false ≡ true → ⊥
    no e = absurd cc
unless_too_large false fit h = refl

pub step_succeeds : {A : Type 0} (s : Settings) (history : List (Entry A)) (hs : List (HeldStep A)) (call : Entry A) (x : HeldStep A) → kind_of call.request ≡ OfStep → hs ≡ held_steps s (past history) → Accepted s history hs call x
    → decided s (past history) call call.request ≡ Answered Success
step_succeeds {A} s history hs call x kind kept a =
    let es = past history in
    let r = call.request in
    let known_is : known s es (step_of r) ≡ row_in x.step hs =
    ap (known s es) a.step ∙ sym (row_in-held_steps s es x.step) ∙ ap (row_in x.step) (sym kept) in
    let allowed : verdict (known s es (step_of r)) (repeats es r) r ≡ Success = ap (λ k. verdict k (repeats es r) r) known_is ∙ a.allowed in
    let row_is : row_then s es call ≡ x.row = ap (λ k. row_after s.offset call.moment (unwrap_or k nothing) r) known_is ∙ sym a.row in
    step_decided s es call.caller call.ae call.moment r kind
    ∙ ap (λ v. Answered (sized r (row_then s es call).attributes v)) allowed
    ∙ ap (λ k. Answered (sized r k.attributes Success)) row_is
    ∙ ap (λ v. Answered v) (unless_too_large (is_sized r) (fits x.row.attributes) a.fits)

-- the steps are then those that are held
pub steps_after : {A : Type 0} (s : Settings) (history : List (Entry A)) (hs : List (HeldStep A)) (call : Entry A) (x : HeldStep A) → is_legal s history → hs ≡ held_steps s (past history) → Accepted s history hs call x
    → put_step x hs ≡ held_steps s (call ∷ past history)
steps_after {A} s history hs call x so kept a =
    let es = past history in
    ap (put_step x) kept
    ∙ sym (held_steps-after s call es x so a.step
    (ap (λ l. verdict (row_in x.step l) (repeats es call.request) call.request) (sym kept) ∙ a.allowed)
    (a.row ∙ ap (λ l. row_after s.offset call.moment (unwrap_or (row_in x.step l) nothing) call.request) kept)
    (a.holder ∙ ap (λ l. option_or (claims_it call) (holder_in (step_at x.step l))) kept))

pub small_kept : {A : Type 0} (s : Settings) (history : List (Entry A)) (hs : List (HeldStep A)) (call : Entry A) (x : HeldStep A) → AllByRecursion IsSmallStep hs → Accepted s history hs call x → AllByRecursion IsSmallStep (put_step x hs)
small_kept s history hs call x all a = small_put x hs (small_after s call.moment hs x (repeats (past history) call.request) call.request a.step all a.allowed a.row a.fits) all

-- a refusal is what is decided
not_sized : (p q : Bool) (status : Status) → is_done status ≡ false → cond (is_done status && p && q) ResourceLimitation status ≡ status
not_sized p q status n = ap (λ a. cond (a && p && q) ResourceLimitation status) n

step_refused : {A : Type 0} (s : Settings) (history : List (Entry A)) (hs : List (HeldStep A)) (call : Entry A) (x : Status) → kind_of call.request ≡ OfStep → hs ≡ held_steps s (past history) → is_done x ≡ false
    → x ≡ verdict (row_of_step (step_of call.request) hs) (repeats (past history) call.request) call.request → decided s (past history) call call.request ≡ Answered x
step_refused s history hs call x kind kept n is =
    let es = past history in
    let r = call.request in
    let said : verdict (known s es (step_of r)) (repeats es r) r ≡ x =
    ap (λ k. verdict k (repeats es r) r) (sym (row_of_step-held_steps s es (step_of r)) ∙ ap (row_of_step (step_of r)) (sym kept)) ∙ sym is in
    step_decided s es call.caller call.ae call.moment r kind
    ∙ ap (λ v. Answered (sized r (row_then s es call).attributes v)) said
    ∙ ap (λ v. Answered v) (not_sized (is_sized r) (not (fits (row_then s es call).attributes)) x n)

-- a request that is allowed may be refused for its size, or for lack of memory
step_lacks : {A : Type 0} (s : Settings) (history : List (Entry A)) (hs : List (HeldStep A)) (call : Entry A) → kind_of call.request ≡ OfStep → hs ≡ held_steps s (past history)
    → verdict (row_of_step (step_of call.request) hs) (repeats (past history) call.request) call.request ≡ Success → Answers s history call.caller call.ae call.moment (Do call.request) (Answered ResourceLimitation)
step_lacks {A} s history hs call kind kept ok =
    let es = past history in
    let r = call.request in
    let allowed : verdict (known s es (step_of r)) (repeats es r) r ≡ Success =
    ap (λ k. verdict k (repeats es r) r) (sym (row_of_step-held_steps s es (step_of r)) ∙ ap (row_of_step (step_of r)) (sym kept)) ∙ ok in
    at (is_sized r && not (fits (row_then s es call).attributes))
    (step_decided s es call.caller call.ae call.moment r kind ∙ ap (λ v. Answered (sized r (row_then s es call).attributes v)) allowed)
  where
    at : (large : Bool) → decided s (past history) call call.request ≡ Answered (cond large ResourceLimitation Success) → Answers s history call.caller call.ae call.moment (Do call.request) (Answered ResourceLimitation)
    at true is = inl (refuses s history call (Answered ResourceLimitation) is refl)
    at false is = lacks s history call (Answered Success) is refl

lack_of : {A : Type 0} (offset : ℤ) (moment : ℕ) (before : Row A) (r : Request A) (f : SubmitFault) → RowFails offset moment before r f → status_of f ≡ ResourceLimitation
lack_of offset moment before r (Refused status) h = h.0
lack_of offset moment before r Memory h = refl

pub answers_fault : {A : Type 0} (s : Settings) (history : List (Entry A)) (hs : List (HeldStep A)) (call : Entry A) (offset : ℤ) (f : SubmitFault) → kind_of call.request ≡ OfStep → hs ≡ held_steps s (past history)
    → StepFails offset call.moment (row_of_step (step_of call.request) hs) (repeats (past history) call.request) call.request f → Answers s history call.caller call.ae call.moment (Do call.request) (Answered (status_of f))
answers_fault {A} s history hs call offset f kind kept (inl h) =
    let said = ap status_of h.0 in
    inl (ap (λ x. Answered x) said ∙ refuses s history call (Answered (verdict (row_of_step (step_of call.request) hs) (repeats (past history) call.request) call.request)) (step_refused s history hs call _ kind kept h.1 refl) h.1)
answers_fault {A} s history hs call offset f kind kept (inr h) =
    subst (λ x. Answers s history call.caller call.ae call.moment (Do call.request) (Answered x)) (sym (lack_of offset call.moment (unwrap_or (row_of_step (step_of call.request) hs) nothing) call.request f h.1))
    (step_lacks s history hs call kind kept h.0)

-- a request on no step fails
pub no_step : {A : Type 0} (offset : ℤ) (moment : ℕ) (hs : List (HeldStep A)) (used : Bool) (r : Request A) → kind_of r ≡ OfStep → step_of r ≡ None → StepFails offset moment (row_of_step (step_of r) hs) used r (Refused UnknownInstance)
no_step offset moment hs used (Create step set) kind h = absurd cc
no_step offset moment hs used (Change None to t) kind h = inl (refl, refl)
no_step offset moment hs used (AskCancel None reasons) kind h = inl (refl, refl)
no_step offset moment hs used (Set None t set) kind h = inl (refl, refl)
no_step offset moment hs used (Change (Some u) to t) kind h = absurd cc
no_step offset moment hs used (AskCancel (Some u) reasons) kind h = absurd cc
no_step offset moment hs used (Set (Some u) t set) kind h = absurd cc
no_step offset moment hs used r kind h = absurd cc

-- a request that fails is not done
pub step_not_done : {A : Type 0} (offset : ℤ) (moment : ℕ) (row : Option (Row A)) (used : Bool) (r : Request A) (f : SubmitFault) → StepFails offset moment row used r f → is_done (status_of f) ≡ false
step_not_done offset moment row used r f (inl h) = ap (λ x. is_done (status_of x)) h.0 ∙ h.1
step_not_done offset moment row used r f (inr h) = ap is_done (lack_of offset moment (unwrap_or row nothing) r f h.1)

-- what is allowed by the row in the table, and made of it, is accepted
pub accepted : {A : Type 0} (s : Settings) (history : List (Entry A)) (es : List (List ℕ × HeldRow A)) (call : Entry A) (step : List ℕ) (held : HeldRow A) (offset : ℤ) → offset ≡ s.offset
    → step_of call.request ≡ Some step → verdict (row_held (held_at step es)) (repeats (past history) call.request) call.request ≡ Success
    → held.row ≡ row_after offset call.moment (unwrap_or (row_held (held_at step es)) nothing) call.request → held.holder ≡ option_or (claims_it call) (holder_held (held_at step es))
    → (is_sized call.request ≡ true → fits held.row.attributes ≡ true) → Accepted s history (as_steps es) call (step_with_held step held)
accepted {A} s history es call step held offset zone on allowed row holder fits = record {
  step = on;
  allowed = ap (λ (k : Option (Row A)). verdict k (repeats (past history) call.request) call.request) (sym (row_found step es)) ∙ allowed;
  row = row ∙ ap (λ z. row_after z call.moment (unwrap_or (row_held (held_at step es)) nothing) call.request) zone
      ∙ ap (λ (k : Option (Row A)). row_after s.offset call.moment (unwrap_or k nothing) call.request) (row_found step es);
  holder = holder ∙ ap (option_or (claims_it call)) (holder_found step es);
  fits = fits;
}

-- what fails by the row in the table fails by the steps held
pub fails : {A : Type 0} (offset : ℤ) (moment : ℕ) (es : List (List ℕ × HeldRow A)) (step : List ℕ) (used : Bool) (r : Request A) (f : SubmitFault) → step_of r ≡ Some step
    → StepFails offset moment (row_held (held_at step es)) used r f → StepFails offset moment (row_of_step (step_of r) (as_steps es)) used r f
fails {A} offset moment es step used r f on h = subst (λ (o : Option (Row A)). StepFails offset moment o used r f) (row_found step es ∙ sym (ap (λ o. row_of_step o (as_steps es)) on)) h

-- MOMENTS

-- each moment in a history has a date
abbrev pub HaveDates : {A : Type 0} → List (Entry A) → Type 0
HaveDates {A} history = All (λ (e : Entry A). IsMoment e.moment) history

pub no_moments : {A : Type 0} → HaveDates {A = A} []
no_moments k d h = absurd (omega (arith, h))

pub moments_after : {A : Type 0} (history new : List (Entry A)) (call : Entry A) → HaveDates history → IsMoment call.moment → new ≡ history ++ entry call.caller call.ae call.moment call.request ∷ [] → HaveDates new
moments_after {A} history new call dated is more =
    let e : Entry A = entry call.caller call.ae call.moment call.request in
    subst HaveDates (sym more) (All-append (λ (x : Entry A). IsMoment x.moment) history (e ∷ []) dated (All-cons (λ (x : Entry A). IsMoment x.moment) e [] is no_moments))
