use Rattle.std.proofs.Common.{◌≡◌, ℕ, List, refl}
use Rattle.ups_dataset.specs.declared.set.DataSet.{DataSet}
use Rattle.ups_life.specs.declared.entry.Entry.{Entry}
use Rattle.ups_life.specs.declared.request.Request.{Request}
use Rattle.ups_life.specs.declared.request.Request.TheVariants.{Create, Change, AskCancel, Set, Subscribe, Unsubscribe, Suspend, Ack, Sweep, Reserve}
use Rattle.ups_life.specs.declared.step.StepUid.{StepUid}
use Rattle.ups_life.specs.Settings.{Settings}
use Rattle.ups_life.specs.Steps.{past}
use Rattle.ups_life.specs.Watching.{held_after}
use Rattle.ups_plain.proofs.walking.held_after.Goals as goal

-- what is neither created nor swept leaves the steps held as they were
same : {A : Type 0} (s : Settings) (es : List (Entry A)) (moment : ℕ) (steps : List (List ℕ)) (request : Request A)
    → ((step : StepUid) → (attributes : DataSet A) → request ≡ Create step attributes → ⊥) → (request ≡ Sweep → ⊥) → steps ≡ held_after s es moment steps request
same s es moment steps (Create step attributes) no_create no_sweep = absurd (no_create step attributes refl)
same s es moment steps (Change step state transaction) no_create no_sweep = refl
same s es moment steps (AskCancel step reasons) no_create no_sweep = refl
same s es moment steps (Set step transaction attributes) no_create no_sweep = refl
same s es moment steps (Subscribe target receiver lock) no_create no_sweep = refl
same s es moment steps (Unsubscribe place receiver) no_create no_sweep = refl
same s es moment steps (Suspend receiver) no_create no_sweep = refl
same s es moment steps (Ack upto) no_create no_sweep = refl
same s es moment steps Sweep no_create no_sweep = absurd (no_sweep refl)
same s es moment steps (Reserve step) no_create no_sweep = refl

pub returns-in-Sweep : goal.returns-in-Sweep
returns-in-Sweep g c = rw c.in-Sweep.is (rw c.as_slice.ensures.value at c.left.ensures)

pub returns-in_default : goal.returns-in_default
returns-in_default g c = same c.args.configuration.now (past c.args.earlier.now) c.args.entry.now.moment c.args.steps.items c.args.entry.now.request c.in_default.not-Create c.in_default.not-Sweep

pub left-requires-clause-moments : goal.left-requires-clause-moments
left-requires-clause-moments g c = c.requires.moments

pub left-requires-clause-offset : goal.left-requires-clause-offset
left-requires-clause-offset g c = c.requires.offset
