-- How long a text is that is like a pattern.
use Rattle.std.proofs.Common.{◌≡◌, ◌<◌, ◌≤◌, ◌+◌, ◌||◌, ℕ, Bool, true, false, cond, not, List, [], ◌∷◌, length, refl, sym, ap, subst, ◌∙◌, arith, length-append}
use Rattle.std.specs.List.{count_by, list_any}
use Rattle.std.proofs.lemmas.List.Sums.{sum_by-cons}
use Rattle.ups_match.specs.Likeness.{is_star, IsLike, is_like}
use Rattle.ups_match.specs.Runs.{is_no_star}
use Rattle.ups_match.proofs.PatternRuns.{one_byte, decided}

-- each byte of the pattern but a * stands for one of the text
pub least : (pattern text : List ℕ) → IsLike pattern text → count_by is_no_star pattern ≤ length text
least [] text h = omega arith
least (p ∷ ps) text h = subst (λ (n : ℕ). n ≤ length text) (sym (sum_by-cons (λ x. cond (is_no_star x) 1 0) p ps)) (go (least ps h.1 h.4) (is_star p) refl)
  where
    whole : length text ≡ length h.0 + length h.1
    whole = ap length h.2 ∙ length-append h.0 h.1

    go : count_by is_no_star ps ≤ length h.1 → (q : Bool) → is_star p ≡ q → cond (not q) 1 0 + count_by is_no_star ps ≤ length text
    go rest true is = omega (arith, rest, whole)
    go rest false is = let one = one_byte p h.0 is h.3 in let single : length h.0 ≡ 1 = ap length one.1 in omega (arith, rest, whole, single)

-- so that a text which is shorter needs no look
pub too_short : (pattern text : List ℕ) → length text < count_by is_no_star pattern → false ≡ is_like pattern text
too_short pattern text short = go (is_like pattern text) refl
  where
    go : (q : Bool) → is_like pattern text ≡ q → false ≡ q
    go false e = refl
    go true e = absurd (omega (arith, least pattern text ((decided pattern text).0 e)))

-- tests that say the same of each value
pub any_same : (f g : List ℕ → Bool) → ((x : List ℕ) → f x ≡ g x) → (xs : List (List ℕ)) → list_any f xs ≡ list_any g xs
any_same f g same [] = refl
any_same f g same (x ∷ xs) = ap (λ b. b || list_any f xs) (same x) ∙ ap (λ b. g x || b) (any_same f g same xs)
