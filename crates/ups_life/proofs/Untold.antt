-- No row has a Transaction UID.
use Rattle.std.proofs.Common.{◌≡◌, ℕ, ℤ, Bool, true, false, not, List, [], ◌∷◌, Option, None, Some, refl, ap, ◌∙◌}
use Rattle.std.specs.Prelude.{if◌then◌else◌}
use Rattle.std.specs.Option.{unwrap_or}
use Rattle.ups_dataset.specs.declared.dictionary.TheConstants.{TRANSACTION_UID}
use Rattle.ups_dataset.specs.Data.{El, element_at, put, laid_over, answer_to, without_value}
use Rattle.ups_dataset.specs.Tag.{is_tag}
use Rattle.ups_dataset.proofs.Laying.{element_at-put}
use Rattle.ups_life.specs.declared.entry.Entry.{Entry}
use Rattle.ups_life.specs.declared.request.Request.{Request}
use Rattle.ups_life.specs.declared.request.Request.TheVariants.{Create, Change, AskCancel, Set}
use Rattle.ups_cycle.specs.declared.state.StepState.{StepState}
use Rattle.ups_cycle.specs.declared.state.StepState.TheVariants.{Scheduled, InProgress, Completed, Canceled}
use Rattle.ups_life.specs.Settings.{Settings}
use Rattle.ups_life.specs.Steps.{is_on, state, sop_class_element, instance_element, without_transaction, state_element, progress_element, cancel_gives, given, gives, row}

-- the set has no Transaction UID
abbrev Lacks : List El → Type 0
Lacks set = element_at TRANSACTION_UID set ≡ None

parts : (b : Bool) (x : El) (rest : Option El) → (if b then Some x else rest) ≡ None → (b ≡ false) × (rest ≡ None)
parts false x rest h = (refl, h)
parts true x rest h = absurd cc

put_lacks : (x : El) (ys : List El) → is_tag x.tag TRANSACTION_UID ≡ false → Lacks ys → Lacks (put x ys)
put_lacks x ys other h = element_at-put TRANSACTION_UID x ys ∙ rw (other) h

laid_over_lacks : (xs ys : List El) → Lacks xs → Lacks ys → Lacks (laid_over xs ys)
laid_over_lacks [] ys h g = g
laid_over_lacks (x ∷ xs) ys h g =
    let p = parts (is_tag x.tag TRANSACTION_UID) x (element_at TRANSACTION_UID xs) h in
    laid_over_lacks xs (put x ys) p.1 (put_lacks x ys p.0 g)

filter_step : (x : El) (rest : List El) (b : Bool) → is_tag x.tag TRANSACTION_UID ≡ b → Lacks rest → Lacks (if not b then x ∷ rest else rest)
filter_step x rest false e h = rw (e) h
filter_step x rest true e h = h

without_lacks : (set : List El) → Lacks (without_transaction set)
without_lacks [] = refl
without_lacks (x ∷ xs) = filter_step x (without_transaction xs) (is_tag x.tag TRANSACTION_UID) refl (without_lacks xs)

cancel_lacks : (before : StepState) (offset : ℤ) (moment : ℕ) (reasons : List El) → Lacks (cancel_gives before offset moment reasons)
cancel_lacks Scheduled offset moment reasons =
    put_lacks (state_element Canceled) (put (progress_element offset moment reasons) []) refl (put_lacks (progress_element offset moment reasons) [] refl refl)
cancel_lacks InProgress offset moment reasons = refl
cancel_lacks Completed offset moment reasons = refl
cancel_lacks Canceled offset moment reasons = refl

given_lacks : {A : Type 0} (offset : ℤ) (moment : ℕ) (before : StepState) (request : Request A) → Lacks (given offset moment before request)
given_lacks offset moment before (Create step attributes) =
    put_lacks sop_class_element (put (instance_element step) (without_transaction attributes)) refl
    (put_lacks (instance_element step) (without_transaction attributes) refl (without_lacks attributes))
given_lacks offset moment before (Change step to transaction) = refl
given_lacks offset moment before (AskCancel step reasons) = cancel_lacks before offset moment reasons
given_lacks offset moment before (Set step transaction attributes) = without_lacks attributes
given_lacks offset moment before request = refl

either_lacks : (b : Bool) (set : List El) → Lacks set → Lacks (if b then set else [])
either_lacks false set h = refl
either_lacks true set h = h

pub row_lacks : {A : Type 0} (s : Settings) (es : List (Entry A)) (u : List ℕ) → element_at TRANSACTION_UID (row s es u) ≡ None
row_lacks s [] u = refl
row_lacks s (e ∷ es) u =
    laid_over_lacks (gives s.offset (state es u) u e) (row s es u)
    (either_lacks (is_on u e.request) (given s.offset e.moment (state es u) e.request) (given_lacks s.offset e.moment (state es u) e.request))
    (row_lacks s es u)

pub answer_lacks : {A : Type 0} (s : Settings) (es : List (Entry A)) (u : List ℕ) (key : El) → key.tag ≡ TRANSACTION_UID
    → answer_to (row s es u) key ≡ record { tag = key.tag; vr = key.vr; value = without_value key.value }
answer_lacks s es u key same =
    ap (λ o. unwrap_or o (record { tag = key.tag; vr = key.vr; value = without_value key.value }))
    (ap (λ t. element_at t (row s es u)) same ∙ row_lacks s es u)
