-- The rows that are held are small: a change of state adds little, and there are two of them at most.
use Rattle.std.proofs.Common.{◌≡◌, ℕ, ◌+◌, ◌≤◌, Bool, true, false, ◌&&◌, cond, List, [], ◌∷◌, ◌++◌, length, filter, Option, None, Some, refl, sym, subst, arith}
use Rattle.std.specs.Prelude.{nat_lt, not}
use Rattle.std.specs.Option.{option_map, unwrap_or}
use Rattle.std.specs.Str.{bytes_eq}
use Rattle.std.specs.List.{AllByRecursion}
use Rattle.std.proofs.lemmas.Bool.Decides.{nat_tests}
use Rattle.std.proofs.lemmas.List.{length-append}
use Rattle.ups_pdu.specs.declared.syntax.TransferSyntax.TheVariants.{Explicit}
use Rattle.ups_dataset.specs.Limits.{max_depth}
use Rattle.ups_dataset.specs.Tag.{number, is_tag}
use Rattle.ups_dataset.specs.Data.{El, put, elements_of}
use Rattle.ups_dataset.specs.Valid.{depth_elements}
use Rattle.ups_dataset.specs.Written.{written, written_element}
use Rattle.ups_cycle.specs.declared.state.StepState.{StepState}
use Rattle.ups_cycle.specs.declared.state.StepState.TheVariants.{Scheduled, InProgress, Completed, Canceled}
use Rattle.ups_cycle.specs.declared.status.Status.{Status}
use Rattle.ups_cycle.specs.declared.status.Status.TheVariants.{Success, WrongTransactionUid}
use Rattle.ups_cycle.specs.Cycle.{claim_status, complete_status, discontinue_status, wrong_status}
use Rattle.ups_life.specs.declared.request.Request.{Request}
use Rattle.ups_life.specs.declared.request.Request.TheVariants.{Create, Change, AskCancel, Set}
use Rattle.ups_life.specs.declared.request.Transaction.{Transaction}
use Rattle.ups_life.specs.declared.row.Row.{Row}
use Rattle.ups_life.specs.Settings.{Settings}
use Rattle.ups_life.specs.Steps.{step_of, state_element, row_after, nothing}
use Rattle.ups_life.specs.Verdict.{verdict, if_held, change_status, is_proper, is_right, is_performed, is_discontinued}
use Rattle.ups_life.specs.Limits.{row_limit}
use Rattle.ups_life.specs.History.{fits, is_sized}
use Rattle.ups_tables.specs.declared.rows.HeldStep.{HeldStep}
use Rattle.ups_tables.specs.HeldSteps.{step_at, row_in, put_step}
use Rattle.ups_manager.specs.Held.{slack, HasSmallRow, IsSmallStep}

-- an element that is put adds its own bytes at most
pub put_length : (x : El) (set : List El) → length (written Explicit (put x set)) ≤ length (written Explicit set) + length (written_element Explicit x)
put_length x [] = omega (arith, length-append (written_element Explicit x) [])
put_length x (e ∷ es) = here (is_tag e.tag x.tag) (nat_lt (number x.tag) (number e.tag)) (put_length x es)
  where
    here : (same below : Bool) → length (written Explicit (put x es)) ≤ length (written Explicit es) + length (written_element Explicit x)
        → length (written Explicit (cond same (x ∷ es) (cond below (x ∷ e ∷ es) (e ∷ put x es)))) ≤ length (written Explicit (e ∷ es)) + length (written_element Explicit x)
    here true below h = omega (arith, length-append (written_element Explicit x) (written Explicit es), length-append (written_element Explicit e) (written Explicit es))
    here false true h = omega (arith, length-append (written_element Explicit x) (written_element Explicit e ++ written Explicit es))
    here false false h = omega (arith, h, length-append (written_element Explicit e) (written Explicit (put x es)), length-append (written_element Explicit e) (written Explicit es))

-- a state takes 20 bytes at most
state_length : (to : StepState) → length (written_element Explicit (state_element to)) ≤ 20
state_length Scheduled = omega (arith, is)
  where
    is : length (written_element Explicit (state_element Scheduled)) ≡ 18
    is = refl
state_length InProgress = omega (arith, is)
  where
    is : length (written_element Explicit (state_element InProgress)) ≡ 20
    is = refl
state_length Completed = omega (arith, is)
  where
    is : length (written_element Explicit (state_element Completed)) ≡ 18
    is = refl
state_length Canceled = omega (arith, is)
  where
    is : length (written_element Explicit (state_element Canceled)) ≡ 16
    is = refl

-- a change goes from SCHEDULED to IN PROGRESS, or from there to a final state
claim_slack : (st : StepState) → claim_status st ≡ Success → slack st + 20 ≤ slack InProgress
claim_slack Scheduled h = omega arith
claim_slack InProgress h = absurd cc
claim_slack Completed h = absurd cc
claim_slack Canceled h = absurd cc

wrong : (proper : Bool) (st : StepState) → wrong_status proper st ≡ Success → ⊥
wrong true Scheduled h = absurd cc
wrong false Scheduled h = absurd cc
wrong proper InProgress h = absurd cc
wrong proper Completed h = absurd cc
wrong proper Canceled h = absurd cc

complete_slack : (met : Bool) (st : StepState) → complete_status met st ≡ Success → slack st + 20 ≤ slack Completed
complete_slack met Scheduled h = absurd cc
complete_slack true InProgress h = omega arith
complete_slack false InProgress h = absurd cc
complete_slack met Completed h = absurd cc
complete_slack met Canceled h = absurd cc

discontinue_slack : (met : Bool) (st : StepState) → discontinue_status met st ≡ Success → slack st + 20 ≤ slack Canceled
discontinue_slack met Scheduled h = absurd cc
discontinue_slack true InProgress h = omega arith
discontinue_slack false InProgress h = absurd cc
discontinue_slack met Completed h = absurd cc
discontinue_slack met Canceled h = absurd cc

either : {P : Type 0} (b : Bool) (x y : Status) → cond b x y ≡ Success → (x ≡ Success → P) → (y ≡ Success → P) → P
either true x y h f g = f h
either false x y h f g = g h

change_slack : {A : Type 0} (r : Row A) (to : StepState) (t : Transaction) → change_status r to t ≡ Success → slack r.state + 20 ≤ slack to
change_slack r Scheduled t h = absurd cc
change_slack r InProgress t h = either (is_proper t) (claim_status r.state) WrongTransactionUid h (claim_slack r.state) (λ e. absurd cc)
change_slack r Completed t h =
    either (is_right r.transaction t) (complete_status (is_performed r.attributes) r.state) (wrong_status (is_proper t) r.state) h (complete_slack (is_performed r.attributes) r.state) (λ e. absurd (wrong (is_proper t) r.state e))
change_slack r Canceled t h =
    either (is_right r.transaction t) (discontinue_status (is_discontinued r.attributes) r.state) (wrong_status (is_proper t) r.state) h (discontinue_slack (is_discontinued r.attributes) r.state) (λ e. absurd (wrong (is_proper t) r.state e))

-- a row that fits
left : (p q : Bool) → p && q ≡ true → p ≡ true
left true q e = refl
left false q e = absurd cc

no_more : (n m : ℕ) → not (nat_lt m n) ≡ true → n ≤ m
no_more n m h = grind (arith, nat_tests)

fitting : {A : Type 0} (r : Row A) → fits r.attributes ≡ true → HasSmallRow r
fitting r h =
    let small = no_more (length (written Explicit r.attributes)) row_limit (left (not (nat_lt row_limit (length (written Explicit r.attributes)))) (not (nat_lt max_depth (depth_elements (elements_of r.attributes)))) h) in
    omega (arith, small)

-- what is found among small ones is small
small_here : {X : Type 0} (b : Bool) (x y : X) (rest : Option X) (P : X → Type 0) → cond b (Some x) rest ≡ Some y → P x → (rest ≡ Some y → P y) → P y
small_here true x y rest P e p more = let same : x ≡ y = cc in subst P same p
small_here false x y rest P e p more = more e

pub small_at : {A : Type 0} (hs : List (HeldStep A)) (u : List ℕ) (h : HeldStep A) → AllByRecursion IsSmallStep hs → step_at u hs ≡ Some h → IsSmallStep h
small_at [] u h all e = absurd cc
small_at (x ∷ hs) u h (p, all) e = small_here (bytes_eq x.step u) x h (step_at u hs) IsSmallStep e p (λ r. small_at hs u h all r)

small_row : {A : Type 0} (o : Option (HeldStep A)) (r : Row A) → ((h : HeldStep A) → o ≡ Some h → IsSmallStep h) → option_map (λ (h : HeldStep A). h.row) o ≡ Some r → HasSmallRow r
small_row None r f e = absurd cc
small_row (Some h) r f e = let same : h.row ≡ r = cc in subst HasSmallRow same (f h refl)

change_small : {A : Type 0} (s : Settings) (moment : ℕ) (row : Option (Row A)) (step : Option (List ℕ)) (to : StepState) (t : Transaction)
    → ((r : Row A) → row ≡ Some r → HasSmallRow r) → if_held row (λ r. change_status r to t) ≡ Success → HasSmallRow (row_after s.offset moment (unwrap_or row nothing) (Change step to t))
change_small s moment None step to t small h = absurd cc
change_small s moment (Some r) step to t small h =
    omega (arith, put_length (state_element to) r.attributes, state_length to, change_slack r to t h, small r refl)

-- the row that a request makes of a small one is small
pub small_after : {A : Type 0} (s : Settings) (moment : ℕ) (hs : List (HeldStep A)) (x : HeldStep A) (used : Bool) (r : Request A) → step_of r ≡ Some x.step → AllByRecursion IsSmallStep hs
    → verdict (row_in x.step hs) used r ≡ Success → x.row ≡ row_after s.offset moment (unwrap_or (row_in x.step hs) nothing) r → (is_sized r ≡ true → fits x.row.attributes ≡ true) → IsSmallStep x
small_after s moment hs x used (Create step set) on all d row f = fitting x.row (f refl)
small_after {A} s moment hs x used (Change step to t) on all d row f =
    subst HasSmallRow (sym row) (change_small s moment (row_in x.step hs) step to t (λ r e. small_row (step_at x.step hs) r (λ h k. small_at hs x.step h all k) e) d)
small_after s moment hs x used (AskCancel step reasons) on all d row f = fitting x.row (f refl)
small_after s moment hs x used (Set step t set) on all d row f = fitting x.row (f refl)
small_after s moment hs x used r on all d row f = absurd cc

pub small_put : {A : Type 0} (x : HeldStep A) (hs : List (HeldStep A)) → IsSmallStep x → AllByRecursion IsSmallStep hs → AllByRecursion IsSmallStep (put_step x hs)
small_put x [] p all = (p, tt)
small_put {A} x (h ∷ hs) p (q, all) = here (bytes_eq h.step x.step) (small_put x hs p all)
  where
    here : (b : Bool) → AllByRecursion IsSmallStep (put_step x hs) → AllByRecursion IsSmallStep (cond b (x ∷ hs) (h ∷ put_step x hs))
    here true more = (p, all)
    here false more = (q, more)

pub small_filter : {A : Type 0} (p : HeldStep A → Bool) (hs : List (HeldStep A)) → AllByRecursion IsSmallStep hs → AllByRecursion IsSmallStep (filter p hs)
small_filter p [] all = tt
small_filter {A} p (h ∷ hs) (q, all) = here (p h) (small_filter p hs all)
  where
    here : (b : Bool) → AllByRecursion IsSmallStep (filter p hs) → AllByRecursion IsSmallStep (cond b (h ∷ filter p hs) (filter p hs))
    here true more = (q, more)
    here false more = more
