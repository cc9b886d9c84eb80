-- The entries at places, and which of them are in memory.
use Rattle.std.proofs.Common.{◌≡◌, ◌≢◌, ◌≤◌, ◌<◌, ◌+◌, ◌-◌, ◌⊎◌, inl, inr, ℕ, zero, suc, Bool, true, false, ◌||◌, List, [], ◌∷◌, ◌++◌, length, get_or, take, drop, Option, None, Some, refl, sym, ap, ◌∙◌, arith, append_assoc, append-nil, true≢false}
use Rattle.std.specs.Prelude.{nat_eq, nat_le, slice_get, is_some, min}
use Rattle.std.specs.Borrow.{Bor}
use Rattle.std.specs.List.{list_any}
use Rattle.std.specs.Map.{lookup, keys_of}
use Rattle.std.specs.Option.{option_copied}
use Rattle.std.specs.Slice.{IsItemAt}
use Rattle.std.specs.declared.vec.Vec.{Vec}
use Rattle.std.proofs.lemmas.Bool.{eqb-true, eq-eqb, leb-true, le-leb, or_cases, or_left, or_right}
use Rattle.std.proofs.lemmas.List.{take-append-drop, drop_min}
use Rattle.std.proofs.lemmas.List.Folds.{list_any-append}
use Rattle.std.proofs.lemmas.Map.Made.{is_some-lookup}
use Rattle.std.proofs.lemmas.Option.{slice_get_past, slice_get-get_or, slice_get_read, none-some}
use Rattle.std.proofs.Math.Seq.{drop-append-add}
use Rattle.ups_history.specs.Kept.{joined, places_from}

module _ {X : Type 0} where
  -- ENTRIES

  pub at_front : (xs ys : List X) (i : ℕ) (x : X) → slice_get xs i ≡ Some x → slice_get (xs ++ ys) i ≡ Some x
  at_front [] ys i x h = absurd (none-some x h)
  at_front (y ∷ xs) ys zero x h = h
  at_front (y ∷ xs) ys (suc i) x h = at_front xs ys i x h

  pub at_back : (xs ys : List X) (i : ℕ) → slice_get (xs ++ ys) (length xs + i) ≡ slice_get ys i
  at_back [] ys i = let same : 0 + i ≡ i = omega arith in ap (slice_get ys) same
  at_back (x ∷ xs) ys i = let same : length (x ∷ xs) + i ≡ suc (length xs + i) = omega arith in ap (slice_get (x ∷ (xs ++ ys))) same ∙ at_back xs ys i

  pub at_taken : (n : ℕ) (xs : List X) (i : ℕ) (x : X) → slice_get (take n xs) i ≡ Some x → slice_get xs i ≡ Some x
  at_taken n xs i x h = ap (λ ys. slice_get ys i) (sym (take-append-drop n xs)) ∙ at_front (take n xs) (drop n xs) i x h

  -- what `get` gives of a list
  pub got : (xs ys : List X) (i : ℕ) (r : Option (Bor X)) → ys ≡ xs → IsItemAt ys i r → option_copied r ≡ slice_get xs i
  got xs ys i None same h = sym (slice_get_past ys i h.3) ∙ ap (λ zs. slice_get zs i) same
  got xs ys i (Some x) same h = sym (slice_get_read ys (length ys) i x.now refl h.3.0 h.1) ∙ ap (λ zs. slice_get zs i) same

  -- what `pop` gives of a list
  pub popped : (xs : List X) (i : ℕ) (x : X) (r : Option X) → i < length xs → r ≡ Some (get_or xs i x) → r ≡ Some x → slice_get xs i ≡ Some x
  popped xs i x r within value is = slice_get-get_or xs i x within ∙ sym value ∙ is

  -- the recent entries by their places
  pub recent_at : (before recent : List X) (first place : ℕ) → first ≡ length before → first ≤ place → slice_get recent (place - first) ≡ slice_get (before ++ recent) place
  recent_at before recent first place n l =
      let same : length before + (place - first) ≡ place = omega (arith, n, l) in
      sym (at_back before recent (place - first)) ∙ ap (slice_get (before ++ recent)) same

  pub recent_from : (before recent xs part : List X) (first place len cut : ℕ) → first ≡ length before → first ≤ place → xs ≡ recent → len ≡ length recent → cut ≡ min (place - first) len → part ≡ drop cut xs → part ≡ drop place (before ++ recent)
  recent_from before recent xs part first place len cut n l same m is back =
      let there : length before + (place - first) ≡ place = omega (arith, n, l) in
      back ∙ ap (drop cut) same ∙ ap (λ k. drop k recent) (is ∙ ap (min (place - first)) m) ∙ drop_min (place - first) recent ∙ sym (drop-append-add before recent (place - first)) ∙ ap (λ k. drop k (before ++ recent)) there

  -- the entries that were set aside, with those of one more list
  pub joined_more : {Z : Type 0} (vs : List (Vec X Z × Unit {0})) (v : Vec X Z) → joined (vs ++ (v, tt) ∷ []) ≡ joined vs ++ v.items
  joined_more [] v = append-nil v.items
  joined_more (w ∷ vs) v = ap (λ xs. w.0.items ++ xs) (joined_more vs v) ∙ sym (append_assoc w.0.items (joined vs) v.items)

  -- PLACES

  placed : (p n : ℕ) (xs : List X) → list_any (nat_eq p) (places_from n xs) ≡ true → (n ≤ p) × (p < n + length xs)
  placed p n [] h = absurd (true≢false (sym h))
  placed p n (x ∷ xs) h = by (or_cases (nat_eq p n) (list_any (nat_eq p) (places_from (n + 1) xs)) h) (placed p (n + 1) xs)
    where
      by : (nat_eq p n ≡ true) ⊎ (list_any (nat_eq p) (places_from (n + 1) xs) ≡ true) → (list_any (nat_eq p) (places_from (n + 1) xs) ≡ true → (n + 1 ≤ p) × (p < n + 1 + length xs))
          → (n ≤ p) × (p < n + length (x ∷ xs))
      by (inl e) r = let same = eqb-true p n e in (omega (arith, same), omega (arith, same))
      by (inr e) r = let s = r e in (omega (arith, s), omega (arith, s))

  at_place : (p n : ℕ) (xs : List X) → n ≤ p → p < n + length xs → list_any (nat_eq p) (places_from n xs) ≡ true
  at_place p n [] a b = absurd (omega (arith, a, b))
  at_place p n (x ∷ xs) a b = by (nat_eq p n) refl (at_place p (n + 1) xs)
    where
      by : (t : Bool) → nat_eq p n ≡ t → (n + 1 ≤ p → p < n + 1 + length xs → list_any (nat_eq p) (places_from (n + 1) xs) ≡ true) → (t || list_any (nat_eq p) (places_from (n + 1) xs)) ≡ true
      by true e r = refl
      by false e r = let apart : p ≢ n = λ same. true≢false (sym (eq-eqb p n same) ∙ e) in r (omega (arith, a, apart)) (omega (arith, b))

  pub length-places_from : (n : ℕ) (xs : List X) → length (places_from n xs) ≡ length xs
  length-places_from n [] = refl
  length-places_from n (x ∷ xs) = ap suc (length-places_from (n + 1) xs)

  -- MEMORY

  -- the entry at a place is a recent one, is aside, or is an older one
  abbrev pub InMemory : ℕ → ℕ → List X → List (ℕ × X) → ℕ → Type 0
  InMemory first from aside older p = (first ≤ p) ⊎ (((from ≤ p) × (p < from + length aside)) ⊎ ((x : X) × (lookup (nat_eq p) older ≡ Some x)))

  there : (o : Option X) → is_some o ≡ true → (x : X) × (o ≡ Some x)
  there None h = absurd (true≢false (sym h))
  there (Some x) h = (x, refl)

  module _ (first from : ℕ) (aside : List X) (older : List (ℕ × X)) (p : ℕ) where
    abbrev pub is_held : Bool
    is_held = nat_le first p || list_any (nat_eq p) (places_from from aside ++ keys_of older)

    pub held : is_held ≡ true → InMemory first from aside older p
    held h = elim (or_cases (nat_le first p) (list_any (nat_eq p) (places_from from aside ++ keys_of older)) h) [
      | inl a ↦ inl (leb-true first p a)
      | inr a ↦ inr (elim (or_cases (list_any (nat_eq p) (places_from from aside)) (list_any (nat_eq p) (keys_of older)) (sym (list_any-append (nat_eq p) (places_from from aside) (keys_of older)) ∙ a)) [
        | inl b ↦ inl (placed p from aside b)
        | inr b ↦ inr (there (lookup (nat_eq p) older) (is_some-lookup (nat_eq p) older ∙ b))
      ])
    ]

    pub holds : InMemory first from aside older p → is_held ≡ true
    holds (inl a) = or_left (nat_le first p) (list_any (nat_eq p) (places_from from aside ++ keys_of older)) (le-leb first p a)
    holds (inr a) =
        or_right (nat_le first p) (list_any (nat_eq p) (places_from from aside ++ keys_of older)) (list_any-append (nat_eq p) (places_from from aside) (keys_of older) ∙ (elim a [
          | inl b ↦ or_left (list_any (nat_eq p) (places_from from aside)) (list_any (nat_eq p) (keys_of older)) (at_place p from aside b.0 b.1)
          | inr b ↦ or_right (list_any (nat_eq p) (places_from from aside)) (list_any (nat_eq p) (keys_of older)) (sym (is_some-lookup (nat_eq p) older) ∙ ap is_some b.1)
        ]))
