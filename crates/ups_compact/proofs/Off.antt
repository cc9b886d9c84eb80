-- What is dropped is on none of the steps that stay. A reservation of a UID is dropped here too, since it says nothing of a step.
use Rattle.std.proofs.Common.{◌≡◌, ℕ, Bool, true, false, cond, List, [], ◌∷◌, filter, Option, None, Some, refl, sym, ap, ◌∙◌}
use Rattle.std.specs.Str.{bytes_eq}
use Rattle.ups_life.specs.declared.entry.Entry.{Entry}
use Rattle.ups_life.specs.declared.request.Request.{Request}
use Rattle.ups_life.specs.declared.request.Request.TheVariants.{Create, Change, AskCancel, Set, Subscribe, Unsubscribe, Suspend, Ack, Sweep, Reserve}
use Rattle.ups_life.specs.Steps.{is_step, is_on}
use Rattle.ups_life.specs.Watching.{is_among}
use Rattle.ups_life.proofs.Texts.{same_text}
use Rattle.ups_compact.specs.Compacting.{is_about, is_left, left}

-- the request is left for these steps, and does more than reserve a UID
abbrev pub does_some : {A : Type 0} → List (List ℕ) → Request A → Bool
does_some steps (Reserve step) = false
does_some steps request = is_left steps request

-- what is left without the reservations
abbrev pub plain : {A : Type 0} → List (List ℕ) → List (Entry A) → List (Entry A)
plain steps es = filter (λ e. does_some steps e.request) es

pub other : (steps : List (List ℕ)) (u v : List ℕ) → is_among u steps ≡ true → is_among v steps ≡ false → bytes_eq v u ≡ false
other steps u v in' out = at (bytes_eq v u) refl
  where
    at : (b : Bool) → bytes_eq v u ≡ b → b ≡ false
    at true e = let same = ap (λ (x : List ℕ). is_among x steps) (same_text v u e) in absurd cc
    at false e = refl

pub no_step : (steps : List (List ℕ)) (u : List ℕ) (step : Option (List ℕ)) → is_among u steps ≡ true → is_about steps step ≡ false → is_step u step ≡ false
no_step steps u None in' out = refl
no_step steps u (Some v) in' out = other steps u v in' out

pub off : {A : Type 0} (steps : List (List ℕ)) (u : List ℕ) (r : Request A) → is_among u steps ≡ true → does_some steps r ≡ false → is_on u r ≡ false
off steps u (Create step attributes) in' out = other steps u step in' out
off steps u (Change step state transaction) in' out = no_step steps u step in' out
off steps u (AskCancel step reasons) in' out = no_step steps u step in' out
off steps u (Set step transaction attributes) in' out = no_step steps u step in' out
off steps u (Subscribe target receiver lock) in' out = refl
off steps u (Unsubscribe place receiver) in' out = refl
off steps u (Suspend receiver) in' out = refl
off steps u (Ack upto) in' out = refl
off steps u Sweep in' out = refl
off steps u (Reserve step) in' out = refl

-- what is left for the steps loses its reservations alone
pub does_less : {A : Type 0} (steps : List (List ℕ)) (r : Request A) → is_left steps r ≡ false → does_some steps r ≡ false
does_less steps (Reserve step) out = refl
does_less steps (Create step attributes) out = out
does_less steps (Change step state transaction) out = out
does_less steps (AskCancel step reasons) out = out
does_less steps (Set step transaction attributes) out = out
does_less steps (Subscribe target receiver lock) out = out
does_less steps (Unsubscribe place receiver) out = out
does_less steps (Suspend receiver) out = out
does_less steps (Ack upto) out = out
does_less steps Sweep out = out
