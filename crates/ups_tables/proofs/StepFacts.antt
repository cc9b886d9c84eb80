-- What is so of the step of a request that is allowed, by a list of the steps held: what was held of it, what is held of it
-- then, and what is told of it.
use Rattle.std.proofs.Common.{◌≡◌, ℕ, true, false, List, ◌∷◌, Option, Some, refl, sym, ap, subst, ◌∙◌}
use Rattle.std.specs.Option.{option_or, unwrap_or}
use Rattle.ups_cycle.specs.declared.status.Status.TheVariants.{Success}
use Rattle.ups_dataset.specs.declared.set.DataSet.{DataSet}
use Rattle.ups_dataset.specs.Data.{El}
use Rattle.ups_life.specs.declared.entry.Entry.{Entry}
use Rattle.ups_life.specs.declared.event.Report.{Report}
use Rattle.ups_life.specs.declared.request.Request.{Request}
use Rattle.ups_life.specs.declared.request.Request.TheVariants.{Create, Change, AskCancel, Set}
use Rattle.ups_life.specs.declared.request.Transaction.{Transaction}
use Rattle.ups_life.specs.declared.row.Row.{Row}
use Rattle.ups_life.specs.declared.step.StepUid.{StepUid}
use Rattle.ups_life.specs.Settings.{Settings}
use Rattle.ups_life.specs.Steps.{step_of, row_of, row_after, nothing}
use Rattle.ups_life.specs.Verdict.{verdict}
use Rattle.ups_life.specs.Watching.{is_held, known}
use Rattle.ups_life.specs.History.{repeats, legal}
use Rattle.ups_life.proofs.Texts.{text_is_itself}
use Rattle.ups_life.proofs.Accepted.{on_held}
use Rattle.ups_tables.specs.declared.rows.HeldStep.{HeldStep}
use Rattle.ups_tables.specs.HeldSteps.{claims_it, held_steps, step_at, row_in, holder_in, put_step}
use Rattle.ups_tables.specs.Live.{news, news_by, is_of_watch}
use Rattle.ups_tables.proofs.Holding.{row_in-held_steps, held_steps-after, before_is, after_is}

-- the request of e is allowed by what the list says of its step, and x is what is to be held of that step then
pub record Allowed {A : Type 0} (s : Settings) (es : List (Entry A)) (e : Entry A) (hs : List (HeldStep A)) (x : HeldStep A) : Type 0 where
  pub step : step_of e.request ≡ Some x.step
  pub allowed : verdict (row_in x.step hs) (repeats es e.request) e.request ≡ Success
  pub row : x.row ≡ row_after s.offset e.moment (unwrap_or (row_in x.step hs) nothing) e.request
  pub holder : x.holder ≡ option_or (claims_it e) (holder_in (step_at x.step hs))

module _ {A : Type 0} (s : Settings) (e : Entry A) (es : List (Entry A)) (hs : List (HeldStep A)) (x : HeldStep A) (kept : hs ≡ held_steps s es) (l : legal s es ≡ true) (given : Allowed s es e hs x) where
  a : Allowed s es e (held_steps s es) x
  a = subst (λ (ks : List (HeldStep A)). Allowed s es e ks x) kept given

  -- x is put into the list
  pub steps_are : put_step x hs ≡ held_steps s (e ∷ es)
  steps_are = ap (put_step x) kept ∙ sym (held_steps-after s e es x l a.step a.allowed a.row a.holder)

  -- its row is that of the step after the request
  pub row_is : x.row ≡ row_of s (e ∷ es) x.step
  row_is = after_is s e es x l a.step a.allowed a.row

  -- what the list has of the step is its row before the request
  pub was_row : (before : Option (Row A)) → before ≡ row_in x.step hs → unwrap_or before nothing ≡ row_of s es x.step
  was_row before found = ap (λ (o : Option (Row A)). unwrap_or o nothing) (found ∙ ap (row_in x.step) kept) ∙ before_is s e es x.step l a.step a.allowed

  -- so what is told by the two rows is told of the step
  pub news_are : (before : Option (Row A)) (told : List Report) → before ≡ row_in x.step hs → told ≡ news_by x.step (unwrap_or before nothing) x.row e.request → told ≡ news s es e x.step
  news_are before told found is =
      is ∙ ap (λ (b : Row A). news_by x.step b x.row e.request) (was_row before found) ∙ ap (λ (k : Row A). news_by x.step (row_of s es x.step) k e.request) row_is

  -- the step of an N-SET is held
  pub set_held : (t : Transaction) (set : List El) → e.request ≡ Set (Some x.step) t set → is_held s es x.step ≡ true
  set_held t set request =
      let d : verdict (known s es (Some x.step)) (repeats es e.request) e.request ≡ Success = ap (λ k. verdict k (repeats es e.request) e.request) (sym (row_in-held_steps s es x.step)) ∙ a.allowed in
      on_held s es x.step (Set (Some x.step) t set) (sym (ap (λ (r : Request A). verdict (known s es (Some x.step)) (repeats es r) r) request) ∙ d) (text_is_itself x.step) refl

-- a request on a step that neither creates it nor sets its attributes changes no subscription
pub not_of_watch : {A : Type 0} (r : Request A) (u : List ℕ) → step_of r ≡ Some u → ((step : StepUid) → (set : DataSet A) → r ≡ Create step set → ⊥) → ((step : Option StepUid) → (t : Transaction) → (set : DataSet A) → r ≡ Set step t set → ⊥) → is_of_watch r ≡ false
not_of_watch (Create step set) u on n m = absurd (n step set refl)
not_of_watch (Change step state t) u on n m = refl
not_of_watch (AskCancel step reasons) u on n m = refl
not_of_watch (Set step t set) u on n m = absurd (m step t set refl)
not_of_watch r u on n m = absurd cc
