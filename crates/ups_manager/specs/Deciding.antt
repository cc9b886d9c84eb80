-- What is decided of a call, and how it changes the tables if it is accepted.
use Rattle.std.specs.Prelude.{◌≡◌, ℕ, Bool, true, false, List, ◌∷◌}
use Rattle.std.specs.List.{AllByRecursion}
use Rattle.ups_life.specs.declared.entry.Entry.{Entry}
use Rattle.ups_life.specs.declared.request.Ask.TheVariants.{Do}
use Rattle.ups_life.specs.declared.request.Request.{Request}
use Rattle.ups_life.specs.declared.request.Request.TheVariants.{Create, Subscribe, Unsubscribe, Suspend, Ack, Sweep, Reserve}
use Rattle.ups_life.specs.declared.request.Reply.{Reply}
use Rattle.ups_life.specs.Settings.{Settings}
use Rattle.ups_life.specs.Steps.{past}
use Rattle.ups_life.specs.History.{accepts, decided}
use Rattle.ups_keep.specs.Waits.{steps_of}
use Rattle.ups_tables.specs.HeldSteps.{held_steps}
use Rattle.ups_tables.specs.declared.tables.Tables.{Tables}
use Rattle.ups_tables.specs.Planned.{IsPlan, removed_by}
use Rattle.ups_service.specs.Law.{Answers, SmallReply}
use Rattle.ups_manager.specs.declared.deciding.Decision.{Decision}
use Rattle.ups_manager.specs.declared.deciding.Kind.{Kind}
use Rattle.ups_manager.specs.declared.deciding.Kind.TheVariants.{OfStep, OfWatcher, OfEvents, OfTime, OfUid}
use Rattle.ups_manager.specs.Held.{IsSmallStep}
use Rattle.ups_manager.specs.Indexing.{after_change, indexed_steps}

-- what a request is about
abbrev pub kind_of : {A : Type 0} → Request A → Kind
kind_of (Subscribe target receiver lock) = OfWatcher
kind_of (Unsubscribe place receiver) = OfWatcher
kind_of (Suspend receiver) = OfWatcher
kind_of (Ack upto) = OfEvents upto
kind_of Sweep = OfTime
kind_of (Reserve step) = OfUid step
kind_of request = OfStep

-- the request creates a step whose UID passes a test: that it was used
abbrev pub repeats_in : {A : Type 0} → (List ℕ → Bool) → Request A → Bool
repeats_in was_used (Create step attributes) = was_used step
repeats_in was_used request = false

-- a call is accepted with this reply, if there is room for it; its plan is right, the steps held after it are small,
-- and its change of the index turns the steps held before it into those held after it
pub record IsDecided {A : Type 0} (s : Settings) (history : List (Entry A)) (t : Tables A) (call : Entry A) (d : Decision A) : Type 0 where
  pub reply : decided s (past history) call call.request ≡ d.reply
  pub accepted : accepts d.reply ≡ true
  pub plan : IsPlan s (past history) call t d.plan
  pub small : AllByRecursion IsSmallStep (held_steps s (call ∷ past history))
  pub index : after_change d.change (steps_of (removed_by d.plan)) (indexed_steps s (past history)) ≡ indexed_steps s (call ∷ past history)

-- a call is refused with this reply, or memory ran out
pub record IsRefused {A : Type 0} (s : Settings) (history : List (Entry A)) (call : Entry A) (reply : Reply A) : Type 0 where
  pub answer : Answers s history call.caller call.ae call.moment (Do call.request) reply
  pub nothing : accepts reply ≡ false
  pub small : SmallReply reply
