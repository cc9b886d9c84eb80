-- The digits of a tag, by their places.
use Rattle.std.proofs.Common.{◌≡◌, ℕ, List, [], ◌∷◌, length, get_or, refl, sym, subst, arith}
use Rattle.ups_dataset.specs.declared.tag.Tag.{Tag}
use Rattle.ups_lines.specs.Words.{SpellsNumber, SpellsTag}

abbrev pub GroupAt : List ℕ → ℕ → Type 0
GroupAt word number = SpellsNumber (get_or word 0 0) (get_or word 1 0) (get_or word 2 0) (get_or word 3 0) number

abbrev pub ElementAt : List ℕ → ℕ → Type 0
ElementAt word number = SpellsNumber (get_or word 4 0) (get_or word 5 0) (get_or word 6 0) (get_or word 7 0) number

pub group_at : (word : List ℕ) (tag : Tag) → SpellsTag word tag → GroupAt word tag.group
group_at word tag t = subst (λ (l : List ℕ). GroupAt l tag.group) (sym t.digits) t.group

pub element_at : (word : List ℕ) (tag : Tag) → SpellsTag word tag → ElementAt word tag.element
element_at word tag t = subst (λ (l : List ℕ). ElementAt l tag.element) (sym t.digits) t.element

pub eight_digits : (word : List ℕ) → length word ≡ 8 → (group element : ℕ) → GroupAt word group → ElementAt word element → SpellsTag word (record { group = group; element = element })
eight_digits (a ∷ b ∷ c ∷ d ∷ e ∷ f ∷ g ∷ h ∷ []) len group element first second = record { a = a; b = b; c = c; d = d; e = e; f = f; g = g; h = h; digits = refl; group = first; element = second }
eight_digits word len group element first second = absurd (omega (arith, len))
