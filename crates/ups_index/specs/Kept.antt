-- The invariant of the index.
use Rattle.std.specs.Prelude.{◌≡◌, ◌<◌, ◌≤◌, ◌-◌, ◌^◌, ℕ, ℤ, min, length, slice_index_or, Contains, List, Option, None, Some}
use Rattle.ups_dataset.specs.declared.tag.Tag.{Tag}
use Rattle.ups_match.specs.Class.{FirstKey}
use Rattle.std.specs.Prelude.{if◌then◌else◌}
use Rattle.ups_index.specs.declared.values.StoredText.{StoredText}
use Rattle.ups_index.specs.Numbers.{text_number, step_number, moment_number}
use Rattle.ups_index.specs.Posts.{post}
use Rattle.ups_index.specs.declared.posts.Post.{Post}
use Rattle.ups_index.specs.Slots.{IndexSlot, Slots}
use Rattle.ups_index.specs.Stored.{RowValues, has_first}

abbrev pub text_view : {A : Type 0} → StoredText A → Tag × List ℕ
text_view stored = (stored.tag, stored.text)

-- the step in a slot, if it is in the class
abbrev pub in_class : FirstKey → IndexSlot → Option (List ℕ)
in_class first None = None
in_class first (Some s) = if has_first first s.1 then Some s.0 else None

-- no slot at a place from `from` to before `to` is in the class
abbrev pub HasNoneIn : FirstKey → List IndexSlot → ℕ → ℕ → Type 0
HasNoneIn first slots from to = (place : ℕ) → from ≤ place → place < to → in_class first (slice_index_or slots place None) ≡ None

-- the slot at a place has a step with these values
abbrev pub IsSlot : List IndexSlot → ℕ → List ℕ → RowValues → Type 0
IsSlot slots place step values = slice_index_or slots place None ≡ Some (step, values)

-- each slot is found by its step
abbrev pub StepsPosted : List IndexSlot → List Post → Type 0
StepsPosted slots posts = (place : ℕ) (step : List ℕ) (values : RowValues) → IsSlot slots place step values → Contains posts (post (step_number step) place)

-- each slot is found by each text that it stores
abbrev pub TextsPosted : List IndexSlot → List Post → Type 0
TextsPosted slots posts = (place : ℕ) (step : List ℕ) (values : RowValues) → IsSlot slots place step values → (stored : Tag × List ℕ) → Contains values.texts stored → Contains posts (post (text_number stored.0 stored.1) place)

-- each slot is found by its start, if any
abbrev pub StartsPosted : List IndexSlot → List Post → Type 0
StartsPosted slots posts = (place : ℕ) (step : List ℕ) (values : RowValues) → IsSlot slots place step values → (moment : ℤ) → values.start ≡ Some moment → Contains posts (post (moment_number moment) place)

-- a step has only one slot
abbrev pub HasOneSlot : List IndexSlot → Type 0
HasOneSlot slots = (one other : ℕ) (step : List ℕ) (values others : RowValues) → IsSlot slots one step values → IsSlot slots other step others → one ≡ other

pub record KeepsIndex (slots : List IndexSlot) (steps texts starts : List Post) : Type 0 where
  pub steps_posted : StepsPosted slots steps
  pub texts_posted : TextsPosted slots texts
  pub starts_posted : StartsPosted slots starts
  pub one_slot : HasOneSlot slots
  pub few : length slots ≤ 2 ^ 32

-- the least room: that of the slots, or of a table of posts
abbrev pub least_room : Slots → ℕ → ℕ → ℕ → ℕ
least_room table steps texts starts = min (min table.room (2 ^ 32 - length table.slots)) (min steps (min texts starts))
