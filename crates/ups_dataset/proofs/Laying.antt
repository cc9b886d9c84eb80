-- What stands at a tag once elements were put.
use Rattle.std.proofs.Common.{◌≡◌, ◌<◌, ◌≤◌, ◌+◌, ℕ, Bool, true, false, ◌&&◌, ◌==◌, nat_lt, if◌then◌else◌, Option, Some, None, List, [], ◌∷◌, refl, sym, ap, subst, ◌∙◌, arith}
use Rattle.ups_dataset.specs.declared.tag.Tag.{Tag}
use Rattle.ups_dataset.specs.Tag.{number, is_tag}
use Rattle.ups_dataset.specs.Data.{El, elements_of, put, laid_over, element_at, first_of_two}
use Rattle.ups_dataset.specs.Valid.{IsElement, AreElements}
use Rattle.ups_dataset.proofs.Places.{one_number}

same_tags : (s t u : Tag) → is_tag s t ≡ true → is_tag s u ≡ is_tag t u
same_tags s t u e =
    let groups : s.group ≡ t.group = grind (arith, e) in
    let elements : s.element ≡ t.element = grind (arith, e) in
    (λ i. (groups i == u.group) && (elements i == u.element))

both_tags : (s t u : Tag) → is_tag s u ≡ true → is_tag t u ≡ true → is_tag s t ≡ true
both_tags s t u e f =
    let groups : s.group ≡ t.group = grind (arith, e, f) in
    let elements : s.element ≡ t.element = grind (arith, e, f) in
    grind (arith, groups, elements)

put_at : (t : Tag) (x e : El) (rest after : Option El) (same below x_is e_is : Bool) → is_tag e.tag x.tag ≡ same → is_tag x.tag t ≡ x_is → is_tag e.tag t ≡ e_is
    → rest ≡ (if x_is then Some x else after)
    → (if same then (if x_is then Some x else after) else (if below then (if x_is then Some x else (if e_is then Some e else after)) else (if e_is then Some e else rest)))
    ≡ (if x_is then Some x else (if e_is then Some e else after))
put_at t x e rest after true below true e_is s xi ei r = refl
put_at t x e rest after true below false true s xi ei r = let c : true ≡ false = sym ei ∙ same_tags e.tag x.tag t s ∙ xi in absurd cc
put_at t x e rest after true below false false s xi ei r = refl
put_at t x e rest after false true x_is e_is s xi ei r = refl
put_at t x e rest after false false true true s xi ei r = let c : false ≡ true = sym s ∙ both_tags e.tag x.tag t ei xi in absurd cc
put_at t x e rest after false false true false s xi ei r = r
put_at t x e rest after false false false true s xi ei r = refl
put_at t x e rest after false false false false s xi ei r = r

in_branches : (t : Tag) (x e : El) (es rest : List El) (same below : Bool)
    → element_at t (if same then x ∷ es else (if below then x ∷ e ∷ es else e ∷ rest))
    ≡ (if same then element_at t (x ∷ es) else (if below then element_at t (x ∷ e ∷ es) else element_at t (e ∷ rest)))
in_branches t x e es rest true below = refl
in_branches t x e es rest false true = refl
in_branches t x e es rest false false = refl

-- an element that was put stands at its tag, and what stood at another tag still does
pub element_at-put : (t : Tag) (x : El) (ys : List El) → element_at t (put x ys) ≡ (if is_tag x.tag t then Some x else element_at t ys)
element_at-put t x [] = refl
element_at-put t x (e ∷ es) =
    in_branches t x e es (put x es) (is_tag e.tag x.tag) (nat_lt (number x.tag) (number e.tag))
    ∙ put_at t x e (element_at t (put x es)) (element_at t es) (is_tag e.tag x.tag) (nat_lt (number x.tag) (number e.tag)) (is_tag x.tag t) (is_tag e.tag t) refl refl refl (element_at-put t x es)

absent_step : (low : ℕ) (t u : Tag) (b : Bool) (x : El) (rest : Option El) → is_tag u t ≡ b → number t < low → low ≤ number u → rest ≡ None → (if b then Some x else rest) ≡ None
absent_step low t u true x rest e below rises r = absurd (omega (arith, below, rises, one_number u t e))
absent_step low t u false x rest e below rises r = r

-- no lower tag is there
pub absent : (low : ℕ) (t : Tag) (es : List El) → number t < low → AreElements low (elements_of es) → element_at t es ≡ None
absent low t [] below h = refl
absent low t (e ∷ es) below (rises, _, _, _, later) =
    absent_step low t e.tag (is_tag e.tag t) e (element_at t es) refl below rises (absent (number e.tag + 1) t es (omega (arith, below, rises)) later)

over_step : (t u : Tag) (x : El) (xs : List El) (below : Option El) (b : Bool) → is_tag u t ≡ b → AreElements (number u + 1) (elements_of xs)
    → first_of_two (element_at t xs) (if b then Some x else below) ≡ first_of_two (if b then Some x else element_at t xs) below
over_step t u x xs below true e later = ap (λ o. first_of_two o (Some x)) (absent (number u + 1) t xs (omega (arith, one_number u t e)) later)
over_step t u x xs below false e later = refl

-- of two sets, the elements of the upper one stand at their tags, and those of the lower one elsewhere
pub element_at-laid_over : (low : ℕ) (t : Tag) (xs ys : List El) → AreElements low (elements_of xs) → element_at t (laid_over xs ys) ≡ first_of_two (element_at t xs) (element_at t ys)
element_at-laid_over low t [] ys h = refl
element_at-laid_over low t (x ∷ xs) ys (_, _, _, _, later) =
    element_at-laid_over (number x.tag + 1) t xs (put x ys) later
    ∙ ap (λ o. first_of_two (element_at t xs) o) (element_at-put t x ys)
    ∙ over_step t x.tag x xs (element_at t ys) (is_tag x.tag t) refl later
