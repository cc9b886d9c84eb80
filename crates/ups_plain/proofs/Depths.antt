-- Over a legal history no walk meets what nests too deep.
use Rattle.std.proofs.Common.{◌≡◌, ℕ, ◌<◌, ◌≤◌, ◌+◌, ℤ, Bool, true, false, not, ◌&&◌, List, [], ◌∷◌, ◌++◌, length, take, drop, get_or, None, Some, Result, Ok, Err, IfErr, refl, sym, ap, subst, ◌∙◌, arith}
use Rattle.std.specs.Prelude.{max, nat_lt, if◌then◌else◌}
use Rattle.std.specs.Option.{unwrap_or}
use Rattle.std.proofs.lemmas.Bool.Decides.{nat_tests}
use Rattle.std.proofs.lemmas.List.{reverse-append, take-append-drop}
use Rattle.ups_pdu.specs.declared.syntax.TransferSyntax.TheVariants.{Explicit}
use Rattle.ups_dataset.specs.Limits.{max_depth}
use Rattle.ups_dataset.specs.Data.{El, elements_of, put, laid_over}
use Rattle.ups_dataset.specs.Tag.{number, is_tag}
use Rattle.ups_dataset.specs.Valid.{depth_data, depth_elements}
use Rattle.ups_dataset.specs.Written.{written}
use Rattle.ups_life.specs.declared.change_fault.ChangeFault.{ChangeFault}
use Rattle.ups_life.specs.declared.change_fault.ChangeFault.TheVariants.{TooDeep, Memory}
use Rattle.ups_life.specs.declared.entry.Entry.{Entry}
use Rattle.ups_life.specs.declared.request.Request.{Request}
use Rattle.ups_life.specs.declared.request.Request.TheVariants.{Create, Change, AskCancel, Set}
use Rattle.ups_life.specs.declared.row.Row.{Row}
use Rattle.ups_cycle.specs.declared.state.StepState.{StepState}
use Rattle.ups_cycle.specs.declared.state.StepState.TheVariants.{Scheduled, InProgress, Completed, Canceled}
use Rattle.ups_cycle.specs.declared.status.Status.TheVariants.{Success}
use Rattle.ups_cycle.specs.Cycle.{cancel_status}
use Rattle.ups_life.specs.Limits.{row_limit}
use Rattle.ups_life.specs.Settings.{Settings}
use Rattle.ups_life.specs.Telling.{IsWellFormed}
use Rattle.ups_life.specs.Steps.{past, step_of, is_on, state, row_of, row_after, nothing, given, cancel_gives, state_element, progress_element}
use Rattle.ups_life.specs.Watching.{is_held, known}
use Rattle.ups_life.specs.History.{accepts, fits, is_sized, reply, legal}
use Rattle.ups_life.specs.Deep.{IsShallow, ChangeFails, WalkFails}
use Rattle.ups_life.proofs.Accepted.{said, succeeded, fitted, was_held}
use Rattle.ups_rules.proofs.Cancels.{new_shallow, set_shallow}
use Rattle.ups_life.proofs.Rows.{past_more}
use Rattle.ups_life.proofs.Texts.{same_text}

-- WHAT FITS IS SHALLOW

second : (p q : Bool) → p && q ≡ true → q ≡ true
second true q e = e
second false q e = absurd cc

is_not : (b : Bool) → not b ≡ true → b ≡ false
is_not true e = absurd cc
is_not false e = refl

fits_shallow : (set : List El) → fits set ≡ true → IsShallow set
fits_shallow set h =
    below (depth_elements (elements_of set))
    (is_not (nat_lt max_depth (depth_elements (elements_of set))) (second (not (nat_lt row_limit (length (written Explicit set)))) (not (nat_lt max_depth (depth_elements (elements_of set)))) h))
  where
    below : (n : ℕ) → nat_lt max_depth n ≡ false → n ≤ max_depth
    below n e = grind (arith, nat_tests)

-- WHAT A CANCEL REQUEST GIVES

-- an element nests no deeper than a set in which it is put
put_within : (x : El) (ys : List El) → depth_data x.value ≤ depth_elements (elements_of (put x ys))
put_within x [] = omega arith
put_within x (y ∷ ys) = step (is_tag y.tag x.tag) (nat_lt (number x.tag) (number y.tag)) (put_within x ys)
  where
    step : (same below : Bool) → depth_data x.value ≤ depth_elements (elements_of (put x ys))
        → depth_data x.value ≤ depth_elements (elements_of (if same then x ∷ ys else (if below then x ∷ y ∷ ys else y ∷ put x ys)))
    step true below h = omega arith
    step false true h = omega arith
    step false false h = omega (arith, h)

no_depth : 0 ≤ max_depth
no_depth = omega arith

-- where the row that it makes is shallow, so is what it gives
cancel_shallow : (before : StepState) (offset : ℤ) (moment : ℕ) (reasons below : List El) → IsShallow (laid_over (cancel_gives before offset moment reasons) below) → IsShallow (cancel_gives before offset moment reasons)
cancel_shallow Scheduled offset moment reasons below h =
    within (depth_data (progress_element offset moment reasons).value) (depth_elements (elements_of (put (progress_element offset moment reasons) (put (state_element Canceled) below))))
    (put_within (progress_element offset moment reasons) (put (state_element Canceled) below)) h
  where
    within : (d n : ℕ) → d ≤ n → n ≤ max_depth → max 0 (max d 0) ≤ max_depth
    within d n low whole = omega (arith, low, whole)
cancel_shallow InProgress offset moment reasons below h = no_depth
cancel_shallow Completed offset moment reasons below h = no_depth
cancel_shallow Canceled offset moment reasons below h = no_depth

-- EACH ENTRY

state_shallow : (to : StepState) → IsShallow (state_element to ∷ [])
state_shallow to = flat
  where
    flat : max 0 0 ≤ max_depth
    flat = omega arith

-- what is given by a request that was accepted, of which the row fits where it has to
shallow : {A : Type 0} (s : Settings) (es : List (Entry A)) (u : List ℕ) (moment : ℕ) (r : Request A) → is_on u r ≡ true → IsWellFormed r → said s es r ≡ Success
    → (is_sized r ≡ true → fits (row_after s.offset moment (unwrap_or (known s es (step_of r)) nothing) r).attributes ≡ true) → IsShallow (given s.offset moment (state es u) r)
shallow s es u moment (Create step set) on (is, good) d fit = new_shallow step set is good
shallow s es u moment (Change step to t) on good d fit = state_shallow to
shallow s es u moment (AskCancel None reasons) on good d fit = absurd cc
shallow {A} s es u moment (AskCancel (Some v) reasons) on good d fit =
    let held : is_held s es v ≡ true = (was_held (is_held s es v) (row_of s es v) (λ r. cancel_status r.state) d).0 in
    let whole : IsShallow (laid_over (cancel_gives (state es v) s.offset moment reasons) (row_of s es v).attributes) =
    fits_shallow (laid_over (cancel_gives (state es v) s.offset moment reasons) (row_of s es v).attributes)
    (subst (λ (b : Bool). fits (row_after {A = A} s.offset moment (unwrap_or (if b then Some (row_of s es v) else None) nothing) (AskCancel (Some v) reasons)).attributes ≡ true) held (fit refl)) in
    subst (λ (w : List ℕ). IsShallow (cancel_gives (state es w) s.offset moment reasons)) (same_text v u on) (cancel_shallow (state es v) s.offset moment reasons (row_of s es v).attributes whole)
shallow s es u moment (Set step t set) on good d fit = set_shallow set good
shallow s es u moment r on good d fit = absurd cc

never : (n : ℕ) → n ≤ max_depth → max_depth < n → ⊥
never n low high = absurd (omega (arith, low, high))

-- so an entry gives what nests too deep only where the history isn't legal
entry_fails : {A : Type 0} (s : Settings) (es : List (Entry A)) (e : Entry A) (u : List ℕ) (fault : ChangeFault) → is_on u e.request ≡ true → IsWellFormed e.request → ChangeFails (given s.offset e.moment (state es u) e.request) fault
    → WalkFails s (e ∷ es) fault
entry_fails s es e u Memory on good fails = tt
entry_fails s es e u TooDeep on good deep = at (legal s (e ∷ es)) refl
  where
    at : (b : Bool) → legal s (e ∷ es) ≡ b → legal s (e ∷ es) ≡ false
    at true h = absurd (never (depth_elements (elements_of (given s.offset e.moment (state es u) e.request))) (shallow s es u e.moment e.request on good (succeeded s e es h) (fitted s e es h)) deep)
    at false h = h

-- A LONGER HISTORY

none_of_both : (p q : Bool) → q ≡ false → p && q ≡ false
none_of_both true q e = e
none_of_both false q e = refl

pub fails_later : {A : Type 0} (s : Settings) (e : Entry A) (es : List (Entry A)) (fault : ChangeFault) → WalkFails s es fault → WalkFails s (e ∷ es) fault
fails_later s e es TooDeep f = none_of_both (accepts (reply s es e)) (legal s es) f
fails_later s e es Memory f = tt

any_later : {A : Type 0} (s : Settings) (later es : List (Entry A)) (fault : ChangeFault) → WalkFails s es fault → WalkFails s (later ++ es) fault
any_later s [] es fault f = f
any_later s (e ∷ later) es fault f = fails_later s e (later ++ es) fault (any_later s later es fault f)

-- what fails over the first entries fails over all
pub fails_within : {A : Type 0} (s : Settings) (history : List (Entry A)) (n : ℕ) (fault : ChangeFault) → WalkFails s (past (take n history)) fault → WalkFails s (past history) fault
fails_within {A} s history n fault f =
    subst (λ (es : List (Entry A)). WalkFails s es fault) (sym (reverse-append (take n history) (drop n history)) ∙ ap past (take-append-drop n history)) (any_later s (past (drop n history)) (past (take n history)) fault f)

-- ANSWERS, OR WHY THERE ARE NONE

pub result_within : {A T : Type 0} (s : Settings) (history : List (Entry A)) (n : ℕ) (r : Result T ChangeFault) → IfErr r (WalkFails s (past (take n history))) → IfErr r (WalkFails s (past history))
result_within s history n (Ok x) f = tt
result_within s history n (Err fault) f = fails_within s history n fault f

-- A WALK

-- the entry at a place gives what nests too deep to a step of which this row is held after those before it
pub walk_fails : {A : Type 0} (s : Settings) (history : List (Entry A)) (i : ℕ) (e : Entry A) (u : List ℕ) (before : Row A) (fault : ChangeFault) → i < length history → e ≡ get_or history i e
    → before ≡ row_of s (past (take i history)) u → is_on u e.request ≡ true → IsWellFormed e.request → ChangeFails (given s.offset e.moment before.state e.request) fault → WalkFails s (past history) fault
walk_fails {A} s history i e u before fault low is was on good fails =
    let now : ChangeFails (given s.offset e.moment (state (past (take i history)) u) e.request) fault = subst (λ (r : Row A). ChangeFails (given s.offset e.moment r.state e.request) fault) was fails in
    fails_within s history (i + 1) fault (subst (λ (es : List (Entry A)). WalkFails s es fault) (sym (past_more history i e low is)) (entry_fails s (past (take i history)) e u fault on good now))
