-- What is found among the steps is what the definitions say.
use Rattle.std.proofs.Common.{◌≡◌, ℕ, ◌≤◌, Bool, true, false, cond, List, [], ◌∷◌, length, filter, refl, sym, ap, subst, ◌∙◌, arith, Option, Some, None, true≢false, Result, Ok, Err, OnErr}
use Rattle.std.specs.List.{AllByRecursion}
use Rattle.std.specs.Option.{option_map, option_to_list}
use Rattle.std.specs.Prelude.{is_some}
use Rattle.std.proofs.lemmas.List.{length-append}
use Rattle.ups_pdu.specs.declared.syntax.TransferSyntax.TheVariants.{Explicit}
use Rattle.ups_dataset.specs.declared.tag.Tag.{Tag}
use Rattle.ups_dataset.specs.Data.{El, is_listed}
use Rattle.ups_dataset.specs.Written.{written, written_element}
use Rattle.ups_cycle.specs.declared.state.StepState.{StepState}
use Rattle.ups_cycle.specs.declared.state.StepState.TheVariants.{Scheduled, InProgress, Completed, Canceled}
use Rattle.ups_cycle.specs.declared.status.Status.TheVariants.{UnknownInstance}
use Rattle.ups_life.specs.declared.entry.Entry.{Entry}
use Rattle.ups_life.specs.declared.request.Reply.{Reply}
use Rattle.ups_life.specs.declared.request.Reply.TheVariants.{Status as Answered}
use Rattle.ups_life.specs.Settings.{Settings}
use Rattle.ups_life.specs.Watching.{known}
use Rattle.ups_life.specs.History.{got, shown, shown_of}
use Rattle.ups_tables.specs.declared.rows.HeldStep.{HeldStep}
use Rattle.ups_tables.specs.HeldSteps.{held_steps, row_in, row_of_step, step_at}
use Rattle.ups_life.specs.declared.row.Row.{Row}
use Rattle.ups_service.specs.Looking.{shown_first}
use Rattle.ups_service.proofs.Looks.{shown_as}
use Rattle.ups_manager.specs.Finding.{attributes_of}
use Rattle.ups_tables.specs.Held.{held_at}
use Rattle.ups_tables.specs.Keyed.{as_steps, row_held}
use Rattle.ups_tables.proofs.Keyed.{row_found}
use Rattle.ups_steps.specs.declared.held.HeldRow.{HeldRow}
use Rattle.ups_tables.proofs.Holding.{row_in-held_steps}
use Rattle.ups_service.specs.Law.{IsSmall, SmallReply, is_granted}
use Rattle.ups_manager.specs.Held.{slack, IsSmallStep}
use Rattle.ups_manager.proofs.Small.{small_at}

slack_bound : (st : StepState) → slack st ≤ 40
slack_bound Scheduled = omega arith
slack_bound InProgress = omega arith
slack_bound Completed = omega arith
slack_bound Canceled = omega arith

-- some of the elements take no more bytes than all
fewer : (p : El → Bool) (set : List El) → length (written Explicit (filter p set)) ≤ length (written Explicit set)
fewer p [] = omega arith
fewer p (e ∷ es) = each (p e) (filter p es) (fewer p es)
  where
    each : (b : Bool) (some : List El) → length (written Explicit some) ≤ length (written Explicit es) → length (written Explicit (cond b (e ∷ some) some)) ≤ length (written Explicit (e ∷ es))
    each true some h = omega (arith, h, length-append (written_element Explicit e) (written Explicit some), length-append (written_element Explicit e) (written Explicit es))
    each false some h = omega (arith, h, length-append (written_element Explicit e) (written Explicit es))

small_shown : (A : Type 0) (set : List El) (tags : List Tag) → IsSmall set → SmallReply (shown {A = A} set tags)
small_shown A set [] h = h
small_shown A set (t ∷ ts) h = let less = fewer (λ e. is_listed e.tag (t ∷ ts)) set in omega (arith, h, less)

-- the row that is looked up is the one of the definitions
row_known : {A : Type 0} (s : Settings) (es : List (Entry A)) (step : Option (List ℕ)) (hs : List (HeldStep A)) → hs ≡ held_steps s es → row_of_step step hs ≡ known s es step
row_known s es None hs kept = refl
row_known s es (Some u) hs kept = ap (row_in u) kept ∙ row_in-held_steps s es u

-- what an N-GET rests on
pub row_for_get : {A : Type 0} (s : Settings) (es : List (Entry A)) (step : Option (List ℕ)) (hs : List (HeldStep A)) → hs ≡ held_steps s es → attributes_of (row_of_step step hs) ≡ attributes_of (known s es step)
row_for_get s es step hs kept = ap attributes_of (row_known s es step hs kept)

-- what is shown of it is the answer by the history
pub shown_is_got : {A : Type 0} (s : Settings) (es : List (Entry A)) (step : Option (List ℕ)) (tags : List Tag) (hs : List (HeldStep A)) → hs ≡ held_steps s es
    → shown_first {A = A} (option_to_list (attributes_of (row_of_step step hs))) tags ≡ got s es step tags
shown_is_got s es step tags hs kept = shown_as (row_of_step step hs) tags ∙ ap (λ o. shown_of o tags) (row_known s es step hs kept)

-- a step that is found is shown, unless memory runs out
shown_granted : (A : Type 0) (set : List El) (tags : List Tag) → is_granted (shown {A = A} set tags) ≡ true
shown_granted A set [] = refl
shown_granted A set (t ∷ ts) = refl

pub got_granted : {A : Type 0} (o : Option (Row A)) (tags : List Tag) → is_some o ≡ true → is_granted (shown_first {A = A} (option_to_list (attributes_of o)) tags) ≡ true
got_granted None tags here = absurd (true≢false (sym here))
got_granted {A} (Some r) tags here = shown_granted A r.attributes tags

pub shown_is_small : {A : Type 0} (step : Option (List ℕ)) (tags : List Tag) (hs held : List (HeldStep A)) → AllByRecursion IsSmallStep held → hs ≡ held → SmallReply (shown_first {A = A} (option_to_list (attributes_of (row_of_step step hs))) tags)
shown_is_small None tags hs held small same = tt
shown_is_small {A} (Some u) tags hs held small same = by (step_at u hs) refl
  where
    by : (o : Option (HeldStep A)) → o ≡ step_at u hs → SmallReply (shown_first {A = A} (option_to_list (attributes_of (option_map (λ (h : HeldStep A). h.row) o))) tags)
    by None is = tt
    by (Some h) is = let one = small_at held u h small (ap (step_at u) (sym same) ∙ sym is) in small_shown A h.row.attributes tags (omega (arith, one, slack_bound h.row.state))

-- A LOOK

-- what can't be told for want of memory is granted
pub on_err : {T E : Type 0} (r : Result T E) (P Q : Type 0) → (P → Q) → OnErr r P → OnErr r Q
on_err (Ok x) P Q f h = tt
on_err (Err e) P Q f h = f h

pub on_any_err : {T E : Type 0} (r : Result T E) (P : Type 0) → P → OnErr r P
on_any_err (Ok x) P h = tt
on_any_err (Err e) P h = h

some_row : {A : Type 0} (o : Option (HeldRow A)) → is_some (row_held o) ≡ is_some o
some_row None = refl
some_row (Some h) = refl

-- a step whose row is found is held
pub row_lacks : {A : Type 0} (entries : List (List ℕ × HeldRow A)) (step : Option (List ℕ)) (u : List ℕ) (found : Option (HeldRow A)) → step ≡ Some u → found ≡ held_at u entries → is_some found ≡ true
    → is_some (row_of_step step (as_steps entries)) ≡ true
row_lacks entries step u found named is here =
    ap (λ o. is_some (row_of_step o (as_steps entries))) named ∙ ap is_some (sym (row_found u entries)) ∙ some_row (held_at u entries) ∙ ap is_some (sym is) ∙ here

pub lacks_any : {T E : Type 0} (r : Result T E) → OnErr r (true ≡ true)
lacks_any (Ok x) = tt
lacks_any (Err e) = refl

pub get_lacks : {A T E : Type 0} (r : Result T E) (s : Settings) (es : List (Entry A)) (step : Option (List ℕ)) (tags : List Tag) (hs : List (HeldStep A)) → hs ≡ held_steps s es
    → OnErr r (is_some (row_of_step step hs) ≡ true) → OnErr r (is_granted (shown_first {A = A} (option_to_list (attributes_of (known s es step))) tags) ≡ true)
get_lacks {A} r s es step tags hs kept = on_err r _ _ (λ here.
    ap (λ (o : Option (Row A)). is_granted (shown_first {A = A} (option_to_list (attributes_of o)) tags)) (sym (row_known s es step hs kept)) ∙ got_granted (row_of_step step hs) tags here)

pub get_is_small : {A : Type 0} (s : Settings) (es : List (Entry A)) (step : Option (List ℕ)) (tags : List Tag) (hs : List (HeldStep A)) → hs ≡ held_steps s es → AllByRecursion IsSmallStep (held_steps s es)
    → SmallReply (shown_first {A = A} (option_to_list (attributes_of (known s es step))) tags)
get_is_small {A} s es step tags hs kept small =
    subst (λ (o : Option (Row A)). SmallReply (shown_first {A = A} (option_to_list (attributes_of o)) tags)) (row_known s es step hs kept) (shown_is_small step tags hs (held_steps s es) small kept)
