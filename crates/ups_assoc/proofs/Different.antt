-- Ids below a number that all differ are no more than that number.
use Rattle.std.proofs.Common.{◌≡◌, ℕ, zero, suc, ◌<◌, ◌≤◌, Bool, true, false, not, cond, eqb, List, [], ◌∷◌, ◌++◌, length, ◌==◌, refl, sym, ap, subst, ◌∙◌, arith}
use Rattle.std.specs.List.{list_any, AllByRecursion}
use Rattle.std.proofs.lemmas.Bool.{eqb-true, eqb-false, and_parts, and_from, or_parts, or_from, not-true, not_from_false}
use Rattle.ups_pdu.specs.Context.{are_different}

pub all_push : {X : Type 0} (P : X → Type 0) (xs : List X) (x : X) → AllByRecursion P xs → P x → AllByRecursion P (xs ++ x ∷ [])
all_push P [] x h p = (p, tt)
all_push P (y ∷ ys) x h p = (h.0, all_push P ys x h.1 p)

abbrev is_in : ℕ → List ℕ → Bool
is_in n xs = list_any (λ m. n == m) xs

-- the others
abbrev without : ℕ → List ℕ → List ℕ
without n [] = []
without n (x ∷ xs) = cond (eqb n x) (without n xs) (x ∷ without n xs)

without-none : (n : ℕ) (xs : List ℕ) → is_in n xs ≡ false → without n xs ≡ xs
without-none n [] h = refl
without-none n (x ∷ xs) h =
    let p = or_parts (eqb n x) (is_in n xs) h in
    ap (λ (b : Bool). cond b (without n xs) (x ∷ without n xs)) p.0 ∙ ap (λ (l : List ℕ). x ∷ l) (without-none n xs p.1)

-- at most one goes
one_goes_at : (n x : ℕ) (xs : List ℕ) (b : Bool) → eqb n x ≡ b → are_different (x ∷ xs) ≡ true → length xs ≤ suc (length (without n xs)) → suc (length xs) ≤ suc (length (cond b (without n xs) (x ∷ without n xs)))
one_goes_at n x xs true e h more =
    let p = and_parts (not (is_in x xs)) (are_different xs) h in
    let none : is_in n xs ≡ false = subst (λ (m : ℕ). is_in m xs ≡ false) (sym (eqb-true n x e)) (not-true (is_in x xs) p.0) in
    omega (arith, ap length (without-none n xs none))
one_goes_at n x xs false e h more = omega arith

one_goes : (n : ℕ) (xs : List ℕ) → are_different xs ≡ true → length xs ≤ suc (length (without n xs))
one_goes n [] h = omega arith
one_goes n (x ∷ xs) h = one_goes_at n x xs (eqb n x) refl h (one_goes n xs (and_parts (not (is_in x xs)) (are_different xs) h).1)

still_out_at : (n x y : ℕ) (xs : List ℕ) (b : Bool) → eqb x y ≡ false → is_in x (without n xs) ≡ false → is_in x (cond b (without n xs) (y ∷ without n xs)) ≡ false
still_out_at n x y xs true e h = h
still_out_at n x y xs false e h = or_from (eqb x y) (is_in x (without n xs)) e h

still_out : (n x : ℕ) (xs : List ℕ) → is_in x xs ≡ false → is_in x (without n xs) ≡ false
still_out n x [] h = refl
still_out n x (y ∷ ys) h =
    let p = or_parts (eqb x y) (is_in x ys) h in
    still_out_at n x y ys (eqb n y) p.0 (still_out n x ys p.1)

still_different_at : (n x : ℕ) (xs : List ℕ) (b : Bool) → is_in x xs ≡ false → are_different (without n xs) ≡ true → are_different (cond b (without n xs) (x ∷ without n xs)) ≡ true
still_different_at n x xs true o h = h
still_different_at n x xs false o h = and_from (not (is_in x (without n xs))) (are_different (without n xs)) (not_from_false (is_in x (without n xs)) (still_out n x xs o)) h

still_different : (n : ℕ) (xs : List ℕ) → are_different xs ≡ true → are_different (without n xs) ≡ true
still_different n [] h = refl
still_different n (x ∷ xs) h =
    let p = and_parts (not (is_in x xs)) (are_different xs) h in
    still_different_at n x xs (eqb n x) (not-true (is_in x xs) p.0) (still_different n xs p.1)

still_below_at : (n x : ℕ) (xs : List ℕ) (b : Bool) → eqb n x ≡ b → x < suc n → AllByRecursion (λ m. m < n) (without n xs) → AllByRecursion (λ m. m < n) (cond b (without n xs) (x ∷ without n xs))
still_below_at n x xs true e l h = h
still_below_at n x xs false e l h = (omega (arith, eqb-false n x e), h)

still_below : (n : ℕ) (xs : List ℕ) → AllByRecursion (λ m. m < suc n) xs → AllByRecursion (λ m. m < n) (without n xs)
still_below n [] h = tt
still_below n (x ∷ xs) h = still_below_at n x xs (eqb n x) refl h.0 (still_below n xs h.1)

pub at_most : (n : ℕ) (xs : List ℕ) → AllByRecursion (λ m. m < n) xs → are_different xs ≡ true → length xs ≤ n
at_most zero [] h d = omega arith
at_most zero (x ∷ xs) h d = absurd (omega (arith, h.0))
at_most (suc n) xs h d =
    let fewer = at_most n (without n xs) (still_below n xs h) (still_different n xs d) in
    omega (arith, fewer, one_goes n xs d)
