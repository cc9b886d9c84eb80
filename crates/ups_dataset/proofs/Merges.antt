-- One set laid over another is both, merged by their tags.
use Rattle.std.proofs.Common.{◌≡◌, ◌≢◌, ◌<◌, ◌≤◌, ◌+◌, ℕ, true, false, nat_lt, ◌-◌, List, [], ◌∷◌, ◌++◌, length, map, take, drop, get_or, refl, sym, ap, subst, ◌∙◌, arith}
use Rattle.std.proofs.lemmas.List.{take_all}
use Rattle.ups_dataset.specs.declared.set.Element.{Element}
use Rattle.ups_dataset.specs.View.{element_view}
use Rattle.ups_dataset.specs.Tag.{IsTag, number, is_tag}
use Rattle.ups_dataset.specs.Data.{El, elements_of, put, laid_over}
use Rattle.ups_dataset.specs.Next.{IsNextElement}
use Rattle.ups_dataset.specs.Valid.{AreElements, IsDataSet}
use Rattle.ups_dataset.proofs.Places.{lower, put_set, same_number, other_tag}

put_above : (x y : El) (ys : List El) → number y.tag + 1 ≤ number x.tag → put x (y ∷ ys) ≡ y ∷ put x ys
put_above x y ys above =
    let below : number y.tag < number x.tag = omega (arith, above) in
    let other : is_tag y.tag x.tag ≡ false = other_tag y.tag x.tag (is_tag y.tag x.tag) refl below in
    let not_lower : nat_lt (number x.tag) (number y.tag) ≡ false = grind (arith, below) in
    rw (other, not_lower) refl

-- higher elements leave the first one in front
pub laid_above : (y : El) (xs ys : List El) (low : ℕ) → number y.tag + 1 ≤ low → AreElements low (elements_of xs) → laid_over xs (y ∷ ys) ≡ y ∷ laid_over xs ys
laid_above y [] ys low above h = refl
laid_above y (x ∷ xs) ys low above (rises, _, _, _, later) =
    ap (λ l. laid_over xs l) (put_above x y ys (omega (arith, above, rises))) ∙ laid_above y xs (put x ys) (number x.tag + 1) (omega (arith, above, rises)) later

-- a data set laid over a data set is one
pub laid_set : (low : ℕ) (xs ys : List El) → AreElements low (elements_of xs) → IsDataSet ys → IsDataSet (laid_over xs ys)
laid_set low [] ys h set = set
laid_set low (x ∷ xs) ys (rises, tag, is, sets, later) set = laid_set (number x.tag + 1) xs (put x ys) later (put_set x 0 ys (omega arith) tag is sets set)

tail_set : (x : El) (xs : List El) → IsDataSet (x ∷ xs) → IsDataSet xs
tail_set x xs (_, _, _, _, later) = lower (number x.tag + 1) 0 (elements_of xs) (omega arith) later

pub next_below : (y : El) (ys : List El) → IsDataSet (y ∷ ys) → IsNextElement [] (y ∷ ys) y [] ys
next_below y ys set = record { laid = refl; above_set = tt; below_set = tail_set y ys set; fewer = omega arith }

pub next_above : (x : El) (xs : List El) → IsDataSet (x ∷ xs) → IsNextElement (x ∷ xs) [] x xs []
next_above x xs (rises, tag, is, sets, later) = record {
  laid = laid_above x xs [] (number x.tag + 1) (omega arith) later;
  above_set = tail_set x xs (rises, tag, is, sets, later);
  below_set = tt;
  fewer = omega arith;
}

pub next_lower : (x y : El) (xs ys : List El) → number y.tag < number x.tag → IsDataSet (x ∷ xs) → IsDataSet (y ∷ ys) → IsNextElement (x ∷ xs) (y ∷ ys) y (x ∷ xs) ys
next_lower x y xs ys below (rises, tag, is, sets, later) set = record {
  laid = laid_above y (x ∷ xs) ys (number y.tag + 1) (omega arith) (omega (arith, below), tag, is, sets, later);
  above_set = (rises, tag, is, sets, later);
  below_set = tail_set y ys set;
  fewer = omega arith;
}

pub next_same : (x y : El) (xs ys : List El) → is_tag y.tag x.tag ≡ true → IsDataSet (x ∷ xs) → IsDataSet (y ∷ ys) → IsNextElement (x ∷ xs) (y ∷ ys) x xs ys
next_same x y xs ys same (rises, tag, is, sets, later) set = record {
  laid = rw same (laid_above x xs ys (number x.tag + 1) (omega arith) later);
  above_set = tail_set x xs (rises, tag, is, sets, later);
  below_set = tail_set y ys set;
  fewer = omega arith;
}

differ_by : (x y : El) → IsTag x.tag → IsTag y.tag → is_tag y.tag x.tag ≡ false → number y.tag ≡ number x.tag → ⊥
differ_by x y ix iy other e = let c : false ≡ true = sym other ∙ same_number y.tag x.tag iy ix e in absurd cc

higher : (x y : El) → IsTag x.tag → IsTag y.tag → is_tag y.tag x.tag ≡ false → number x.tag ≤ number y.tag → nat_lt (number x.tag) (number y.tag) ≡ true
higher x y ix iy other le =
    let not_below : nat_lt (number y.tag) (number x.tag) ≡ false = grind (arith, le) in
    let differ : number y.tag ≢ number x.tag = (λ e. differ_by x y ix iy other e) in
    let below : number x.tag < number y.tag = omega (arith, le, differ) in
    grind (arith, below)

pub next_higher : (x y : El) (xs ys : List El) → is_tag y.tag x.tag ≡ false → number x.tag ≤ number y.tag → IsDataSet (x ∷ xs) → IsDataSet (y ∷ ys) → IsNextElement (x ∷ xs) (y ∷ ys) x xs (y ∷ ys)
next_higher x y xs ys other le (rises, tag, is, sets, later) (rises', tag', is', sets', later') =
    let above : nat_lt (number x.tag) (number y.tag) ≡ true = higher x y tag tag' other le in
    record {
      laid = rw (other, above) (laid_above x xs (y ∷ ys) (number x.tag + 1) (omega arith) later);
      above_set = tail_set x xs (rises, tag, is, sets, later);
      below_set = (rises', tag', is', sets', later');
      fewer = omega arith;
    }

-- what a slice's pattern says of its first element and the others
pub first_and_rest : {A : Type 0} (es : List (Element A)) (e : Element A) → 1 ≤ length es → e ≡ get_or es 0 e → map element_view es ≡ element_view e ∷ map element_view (take (length es - 1) (drop 1 es))
first_and_rest [] e some is = absurd (omega (arith, some))
first_and_rest (x ∷ xs) e some is =
    let rest : take (length (x ∷ xs) - 1) xs ≡ xs = take_all (length (x ∷ xs) - 1) xs (omega arith) in
    (λ i. element_view (sym is i) ∷ map element_view (sym rest i))

pub no_first : {A : Type 0} (es : List (Element A)) → length es < 1 → map element_view es ≡ []
no_first [] none = refl
no_first (x ∷ xs) none = absurd (omega (arith, none))

pub only_below : (above below left : List El) (y : El) → above ≡ [] → below ≡ y ∷ left → IsDataSet below → IsNextElement above below y above left
only_below above below left y a b set = rw (a, b) (next_below y left (subst (λ (l : List El). IsDataSet l) b set))

pub only_above : (above below left : List El) (x : El) → above ≡ x ∷ left → below ≡ [] → IsDataSet above → IsNextElement above below x left below
only_above above below left x a b set = rw (a, b) (next_above x left (subst (λ (l : List El). IsDataSet l) a set))

pub lower_first : (above below above_left below_left : List El) (x y : El) → above ≡ x ∷ above_left → below ≡ y ∷ below_left → number y.tag < number x.tag → IsDataSet above → IsDataSet below → IsNextElement above below y above below_left
lower_first above below above_left below_left x y a b less s t = rw (a, b) (next_lower x y above_left below_left less (subst (λ (l : List El). IsDataSet l) a s) (subst (λ (l : List El). IsDataSet l) b t))

pub same_first : (above below above_left below_left : List El) (x y : El) → above ≡ x ∷ above_left → below ≡ y ∷ below_left → is_tag y.tag x.tag ≡ true → IsDataSet above → IsDataSet below → IsNextElement above below x above_left below_left
same_first above below above_left below_left x y a b same s t = rw (a, b) (next_same x y above_left below_left same (subst (λ (l : List El). IsDataSet l) a s) (subst (λ (l : List El). IsDataSet l) b t))

pub higher_first : (above below above_left below_left : List El) (x y : El) → above ≡ x ∷ above_left → below ≡ y ∷ below_left → is_tag y.tag x.tag ≡ false → number x.tag ≤ number y.tag → IsDataSet above → IsDataSet below → IsNextElement above below x above_left below
higher_first above below above_left below_left x y a b other le s t = rw (a, b) (next_higher x y above_left below_left other le (subst (λ (l : List El). IsDataSet l) a s) (subst (λ (l : List El). IsDataSet l) b t))
