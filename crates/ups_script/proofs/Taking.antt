-- Lines that are taken from a reader.
use Rattle.std.proofs.Common.{◌≡◌, ◌≢◌, ℕ, ◌<◌, ◌≤◌, Bool, true, false, List, [], ◌∷◌, ◌++◌, length, take, All, sym, ap, subst, ◌∙◌, arith, inl, inr, Option, Some, None, length-append, append_assoc, length-take}
use Rattle.std.specs.Prelude.{IfSome, OnSome}
use Rattle.std.specs.Io.{StartsWith}
use Rattle.std.specs.Io.KnownBytes.{Keeps, Consumes, IsAtEnd}
use Rattle.std.specs.Io.BufRead.{DropsConsumable}
use Rattle.std.proofs.KnownBytes.{Consumes-trans}
use Rattle.std.proofs.BufReadLemmas.{Consumes_shown}
use Rattle.std.proofs.lemmas.List.Elements.{All-append}
use Rattle.ups_script.specs.Lines.{HasMore, MeetsEnd, TakesLine, Goes, Lengthens, IsLinePart}

-- a reader that shows nothing is at its end
pub ends_here : (a b : Option (List ℕ)) (shown : List ℕ) → IfSome a (λ xs. length shown ≡ 0 → xs ≡ []) → Keeps a b → length shown ≡ 0 → OnSome a (IsAtEnd b)
ends_here None b shown end kept none = tt
ends_here (Some xs) None shown end kept none = absurd kept
ends_here (Some xs) (Some ys) shown end kept none = kept ∙ end none

-- one that shows something has that left
pub more_here : (a : Option (List ℕ)) (shown : List ℕ) → IfSome a (λ xs. StartsWith xs shown) → 0 < length shown → HasMore a
more_here None shown front some = tt
more_here (Some xs) shown front some = omega (arith, some, ap length front, length-take (length shown) xs)

goes : (a c : Option (List ℕ)) (shown from : List ℕ) (count taken : ℕ) (whole : Bool) → count ≤ length shown → Consumes a c (take taken shown) → (length shown ≡ 0 → OnSome a (IsAtEnd c))
    → IsLinePart shown (length from) count taken whole → Goes a c (take count shown) (from ++ take count shown) whole
goes a c shown from count taken true within moved end (inl fed) = inl (subst (Consumes a c) fed moved)
goes a c shown from count taken true within moved end (inr (same, inl none)) = inr (subst (λ n. Consumes a c (take n shown)) same moved, inl (end none))
goes a c shown from count taken true within moved end (inr (same, inr long)) =
    inr (subst (λ n. Consumes a c (take n shown)) same moved, inr (omega (arith, long, length-append from (take count shown), length-take count shown)))
goes a c shown from count taken false within moved end same = subst (λ n. Consumes a c (take n shown)) same moved

-- what is put behind a line is what is taken
pub lengthens : (a b c : Option (List ℕ)) (buffered : Option ℕ) (shown from line : List ℕ) (count taken : ℕ) (whole : Bool) → count ≤ length shown → taken ≤ length shown
    → IfSome a (λ xs. StartsWith xs shown) → IfSome a (λ xs. length shown ≡ 0 → xs ≡ []) → Keeps a b → IfSome a (λ _. IfSome buffered (λ k. length shown ≤ k)) → DropsConsumable b c buffered taken
    → All (λ x. x ≢ 10) (take count shown) → IsLinePart shown (length from) count taken whole → line ≡ from ++ take count shown → Lengthens a c from line whole
lengthens a b c buffered shown from line count taken whole low within front end kept fits drops none part grown =
    let moved = Consumes_shown a b c buffered shown taken within front end kept fits drops in record {
      more = take count shown;
      grown = grown;
      no_feed = none;
      taken = subst (λ (l : List ℕ). Goes a c (take count shown) l whole) (sym grown) (goes a c shown from count taken whole low moved.0 moved.1 part);
    }

known : (a b c : Option (List ℕ)) (bs : List ℕ) → Consumes a b bs → OnSome b (IsAtEnd c) → OnSome a (IsAtEnd c)
known None b c bs p end = tt
known (Some x) None c bs p end = absurd p
known (Some x) (Some y) c bs p end = end

-- the bytes before, and then the end of the line
pub line_whole : (a b c : Option (List ℕ)) (from line : List ℕ) → Consumes a b from → All (λ x. x ≢ 10) from → Lengthens b c from line true → TakesLine a line c
line_whole a b c from line before clean more = record {
  no_feed = subst (All (λ x. x ≢ 10)) (sym more.grown) (All-append (λ x. x ≢ 10) from more.more clean more.no_feed);
  bytes = meets more.taken;
}
  where
    meets : MeetsEnd b c more.more line → MeetsEnd a c line line
    meets (inl fed) = inl (subst (Consumes a c) (sym (append_assoc from more.more (10 ∷ [])) ∙ ap (λ l. l ++ 10 ∷ []) (sym more.grown)) (Consumes-trans a b c _ _ before fed))
    meets (inr (bare, inl end)) = inr (subst (Consumes a c) (sym more.grown) (Consumes-trans a b c _ _ before bare), inl (known a b c from before end))
    meets (inr (bare, inr long)) = inr (subst (Consumes a c) (sym more.grown) (Consumes-trans a b c _ _ before bare), inr long)
