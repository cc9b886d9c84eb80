-- Which elements a list has.
use Rattle.std.proofs.Common.{◌≡◌, ◌⊎◌, inl, inr, ℕ, zero, suc, Bool, true, false, cond, List, [], ◌∷◌, map, take, filter, refl, sym, ap, subst, ◌∙◌, arith}
use Rattle.std.specs.Prelude.{slice_index_or}
use Rattle.std.specs.List.{All, AllPairs, Contains}
use Rattle.std.proofs.lemmas.List.Elements.{All-contains, All-contains_itself, All-filter, All-map, All-take, Contains-append_cases, Contains-append_right, Contains-get_or, Contains-push_cases, filter_passes}
use Rattle.std.proofs.lemmas.List.Kept.{AllPairs-cons}

module _ {X : Type 0} where
  pub none_in_nil : (x : X) → Contains [] x → ⊥
  none_in_nil x h = let below = h.1 in absurd (omega arith)

  pub here : (x : X) (xs : List X) → Contains (x ∷ xs) x
  here x xs = (0, omega arith, refl)

  pub there : (y : X) (xs : List X) (x : X) → Contains xs x → Contains (y ∷ xs) x
  there y xs x h = Contains-append_right (y ∷ []) xs x h

  pub here_or_there : (y : X) (xs : List X) (x : X) → Contains (y ∷ xs) x → (y ≡ x) ⊎ Contains xs x
  here_or_there y xs x h = at (Contains-append_cases (y ∷ []) xs x h)
    where
      one : Contains (y ∷ []) x → (y ≡ x) ⊎ Contains xs x
      one g = elim (Contains-push_cases [] y x g) [ inl none ↦ absurd (none_in_nil x none) | inr same ↦ inl same ]

      at : Contains (y ∷ []) x ⊎ Contains xs x → (y ≡ x) ⊎ Contains xs x
      at (inl g) = one g
      at (inr g) = inr g

  -- what a test lets through is there, and passes it
  pub was_there : (p : X → Bool) (xs : List X) (x : X) → Contains (filter p xs) x → Contains xs x
  was_there p xs x h = All-contains (Contains xs) (filter p xs) x (All-filter p (Contains xs) xs (All-contains_itself xs)) h

  pub passes : (p : X → Bool) (xs : List X) (x : X) → Contains (filter p xs) x → p x ≡ true
  passes p xs x h = All-contains (λ y. p y ≡ true) (filter p xs) x (filter_passes p xs) h

  pub let_through : (p : X → Bool) (xs : List X) (x : X) → Contains xs x → p x ≡ true → Contains (filter p xs) x
  let_through p [] x h is = absurd (none_in_nil x h)
  let_through p (y ∷ ys) x h is = at (p y) refl (here_or_there y ys x h) (λ later. let_through p ys x later is)
    where
      at : (b : Bool) → p y ≡ b → (y ≡ x) ⊎ Contains ys x → (Contains ys x → Contains (filter p ys) x) → Contains (cond b (y ∷ filter p ys) (filter p ys)) x
      at true e (inl same) rest = subst (Contains (y ∷ filter p ys)) same (here y (filter p ys))
      at true e (inr later) rest = there y (filter p ys) x (rest later)
      at false e (inl same) rest = absurd (let no : false ≡ true = sym e ∙ (ap p same ∙ is) in cc)
      at false e (inr later) rest = rest later

  -- what is so of each element is so of all
  pub of_each : (P : X → Type 0) (xs : List X) → ((x : X) → Contains xs x → P x) → All P xs
  of_each P xs h k d low = h (slice_index_or xs k d) (Contains-get_or xs k d low)

  -- of those behind the first any two are as before
  pub pairs_behind : (R : X → X → Type 0) (x : X) (xs : List X) → AllPairs R (x ∷ xs) → AllPairs R xs
  pairs_behind R x xs h i j d low in' = h (suc i) (suc j) d (omega (arith, low)) (omega (arith, in'))

  -- the first and each of those behind it
  pub pairs_first : (R : X → X → Type 0) (x : X) (xs : List X) → AllPairs R (x ∷ xs) → All (R x) xs
  pairs_first R x xs h k d in' = h 0 (suc k) d (omega arith) (omega (arith, in'))

  -- of those taken from the front any two are as before
  pub pairs_taken : (R : X → X → Type 0) (n : ℕ) (xs : List X) → AllPairs R xs → AllPairs R (take n xs)
  pairs_taken R zero xs h = λ i j d low in'. absurd (omega (arith, low, in'))
  pairs_taken R (suc n) [] h = h
  pairs_taken R (suc n) (x ∷ xs) h = AllPairs-cons R x (take n xs) (All-take (R x) n xs (pairs_first R x xs h)) (pairs_taken R n xs (pairs_behind R x xs h))

pub pairs_mapped : {X Y : Type 0} (R : X → X → Type 0) (f : Y → X) (ys : List Y) → AllPairs (λ (x y : Y). R (f x) (f y)) ys → AllPairs R (map f ys)
pairs_mapped R f [] h = λ i j d low in'. absurd (omega (arith, low, in'))
pairs_mapped {X} {Y} R f (y ∷ ys) h =
    AllPairs-cons R (f y) (map f ys) (All-map (R (f y)) f ys (pairs_first (λ (x z : Y). R (f x) (f z)) y ys h)) (pairs_mapped R f ys (pairs_behind (λ (x z : Y). R (f x) (f z)) y ys h))

pub mapped : {X Y : Type 0} (f : Y → X) (ys : List Y) (y : Y) → Contains ys y → Contains (map f ys) (f y)
mapped f [] y h = absurd (none_in_nil y h)
mapped f (z ∷ zs) y h = at (here_or_there z zs y h) (λ later. mapped f zs y later)
  where
    at : (z ≡ y) ⊎ Contains zs y → (Contains zs y → Contains (map f zs) (f y)) → Contains (f z ∷ map f zs) (f y)
    at (inl same) rest = subst (λ v. Contains (f z ∷ map f zs) (f v)) same (here (f z) (map f zs))
    at (inr later) rest = there (f z) (map f zs) (f y) (rest later)
