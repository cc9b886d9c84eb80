-- The steps that are held, and a test of them.
use Rattle.std.proofs.Common.{◌≡◌, ℕ, Bool, if◌then◌else◌, List, [], ◌∷◌, map, filter, refl, ap, ◌∙◌}
use Rattle.ups_life.specs.declared.entry.Entry.{Entry}
use Rattle.ups_life.specs.Watching.{held}
use Rattle.ups_life.specs.Settings.{Settings}
use Rattle.ups_tables.specs.declared.rows.HeldStep.{HeldStep}
use Rattle.ups_tables.specs.HeldSteps.{held_step, held_steps}

-- their UIDs
uids_of : {A : Type 0} (s : Settings) (es : List (Entry A)) (us : List (List ℕ)) → map (λ (h : HeldStep A). h.step) (map (held_step s es) us) ≡ us
uids_of s es [] = refl
uids_of s es (u ∷ us) = ap (λ l. u ∷ l) (uids_of s es us)

pub uids_are : {A : Type 0} (s : Settings) (es : List (Entry A)) (hs steps : List (HeldStep A)) → hs ≡ held_steps s es → steps ≡ hs → map (λ (h : HeldStep A). h.step) steps ≡ held s es
uids_are {A} s es hs steps kept all = ap (map (λ (h : HeldStep A). h.step)) (all ∙ kept) ∙ uids_of s es (held s es)

-- tests that say the same let the same through
pub filter_alike : {X : Type 0} (p q : X → Bool) (xs : List X) → ((x : X) → p x ≡ q x) → filter p xs ≡ filter q xs
filter_alike p q [] same = refl
filter_alike p q (x ∷ xs) same = ap (λ b. if b then x ∷ filter p xs else filter p xs) (same x) ∙ ap (λ l. if q x then x ∷ l else l) (filter_alike p q xs same)
