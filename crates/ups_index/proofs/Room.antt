-- How much room is there, before and after a change.
use Rattle.std.proofs.Common.{◌≡◌, ℕ, ◌+◌, ◌-◌, ◌<◌, ◌≤◌, min, List, length, map, arith, sym, ap, ◌∙◌}
use Rattle.std.proofs.lemmas.List.{length-map}
use Rattle.ups_dataset.specs.declared.tag.Tag.{Tag}
use Rattle.ups_index.specs.declared.values.StoredText.{StoredText}
use Rattle.ups_index.specs.Kept.{text_view}

pub no_less : (n : ℕ) → n ≤ n
no_less n = omega arith

pub then_room : (a b c : ℕ) → a ≤ b → b ≤ c → a ≤ c
then_room a b c p q = omega arith

-- that of a vector
pub has_room : (cap len room : ℕ) → cap - len ≡ room → 0 < room → len < cap
has_room cap len room is has = omega arith

pub one_less : (cap len room new_cap new_len : ℕ) → cap - len ≡ room → new_len ≡ len + 1 → new_cap ≡ cap → room ≤ (new_cap - new_len) + 1
one_less cap len room new_cap new_len is longer same = omega arith

-- as many texts are seen as are stored
pub viewed_len : {A : Type 0} (texts : List (StoredText A)) (seen : List (Tag × List ℕ)) → map text_view texts ≡ seen → length texts ≡ length seen
viewed_len texts seen is = sym (length-map texts text_view) ∙ ap length is

-- that of the index, which is the least of all
module _ (room len most steps texts starts spare : ℕ) (is : min (min room (most - len)) (min steps (min texts starts)) ≡ spare) where
  pub slot_room : (n : ℕ) → n + 1 ≤ spare → 0 < room
  slot_room n has = omega arith

  pub step_room : (n : ℕ) → n + 1 ≤ spare → 0 < steps
  step_room n has = omega arith

  pub text_room : (n : ℕ) → n + 1 ≤ spare → n ≤ texts
  text_room n has = omega arith

  pub start_room : (n : ℕ) → n + 1 ≤ spare → 0 < starts
  start_room n has = omega arith

  pub room_left : (n new_room new_len new_steps new_texts new_starts : ℕ) → new_len ≡ len + 1 → room ≤ new_room + 1 → steps ≤ new_steps + 1 → texts ≤ new_texts + n → starts ≤ new_starts + 1
      → spare ≤ min (min new_room (most - new_len)) (min new_steps (min new_texts new_starts)) + (n + 1)
  room_left n new_room new_len new_steps new_texts new_starts longer same s t p = omega arith

  pub room_kept : (new_room new_len new_steps new_texts new_starts : ℕ) → room ≤ new_room → new_len ≡ len → steps ≤ new_steps → texts ≤ new_texts → starts ≤ new_starts
      → spare ≤ min (min new_room (most - new_len)) (min new_steps (min new_texts new_starts))
  room_kept new_room new_len new_steps new_texts new_starts more same s t p = omega arith
