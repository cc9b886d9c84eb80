-- A data set that is laid over nothing.
use Rattle.std.proofs.Common.{◌≡◌, ℕ, ◌<◌, ◌≤◌, ◌+◌, Bool, true, false, ◌&&◌, List, [], ◌∷◌, ◌++◌, refl, sym, ap, ◌∙◌, append_assoc, arith}
use Rattle.std.specs.Prelude.{nat_lt, ◌==◌}
use Rattle.std.specs.List.{AllByRecursion}
use Rattle.std.proofs.lemmas.Bool.Decides.{nat_tests}
use Rattle.ups_dataset.specs.declared.tag.Tag.{Tag}
use Rattle.ups_dataset.specs.Data.{El, elements_of, put, laid_over}
use Rattle.ups_dataset.specs.Tag.{number, is_tag}
use Rattle.ups_dataset.specs.Valid.{IsDataSet, AreElements}

both : (p q : Bool) → p && q ≡ true → (p ≡ true) × (q ≡ true)
both true q e = (refl, e)
both false q e = absurd cc

is_false : (b : Bool) → (b ≡ true → ⊥) → b ≡ false
is_false true n = absurd (n refl)
is_false false n = refl

lower : (a b : Tag) → number a < number b → is_tag a b ≡ false
lower a b h = is_false (is_tag a b) (λ e.
    let same = both (a.group == b.group) (a.element == b.element) e in
    let groups : a.group ≡ b.group = grind (arith, nat_tests, same.0) in
    let elements : a.element ≡ b.element = grind (arith, nat_tests, same.1) in
    omega (arith, h, groups, elements))

not_below : (m n : ℕ) → m < n → nat_lt n m ≡ false
not_below m n h = grind (arith, nat_tests)

-- an element above all others goes last
put-last : (x : El) (ys : List El) → AllByRecursion (λ y. number y.tag < number x.tag) ys → put x ys ≡ ys ++ x ∷ []
put-last x [] h = refl
put-last x (y ∷ ys) (h, more) = rw (lower y.tag x.tag h, not_below (number y.tag) (number x.tag) h) (ap (λ l. y ∷ l) (put-last x ys more))

all_below : (low high : ℕ) (ys : List El) → low ≤ high → AllByRecursion (λ y. number y.tag < low) ys → AllByRecursion (λ y. number y.tag < high) ys
all_below low high [] h b = tt
all_below low high (y ∷ ys) h (b, more) = (omega (arith, h, b), all_below low high ys h more)

all_push : (high : ℕ) (ys : List El) (x : El) → AllByRecursion (λ y. number y.tag < high) ys → number x.tag < high → AllByRecursion (λ y. number y.tag < high) (ys ++ x ∷ [])
all_push high [] x h b = (b, tt)
all_push high (y ∷ ys) x (h, more) b = (h, all_push high ys x more b)

laid_behind : (low : ℕ) (xs ys : List El) → AreElements low (elements_of xs) → AllByRecursion (λ y. number y.tag < low) ys → laid_over xs ys ≡ ys ++ xs
laid_behind low [] ys h b = sym (append-nil ys)
  where
    append-nil : (l : List El) → l ++ [] ≡ l
    append-nil [] = refl
    append-nil (y ∷ l) = ap (λ t. y ∷ t) (append-nil l)
laid_behind low (x ∷ xs) ys h b =
    let below = all_below low (number x.tag) ys h.0 b in
    let last : put x ys ≡ ys ++ x ∷ [] = put-last x ys below in
    let later = all_push (number x.tag + 1) ys x (all_below (number x.tag) (number x.tag + 1) ys (omega arith) below) (omega arith) in
    ap (λ l. laid_over xs l) last ∙ laid_behind (number x.tag + 1) xs (ys ++ x ∷ []) h.4 later ∙ append_assoc ys (x ∷ []) xs

pub laid_over_nothing : (xs : List El) → IsDataSet xs → laid_over xs [] ≡ xs
laid_over_nothing xs h = laid_behind 0 xs [] h tt
