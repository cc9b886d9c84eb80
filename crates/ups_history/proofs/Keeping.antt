-- How a history stays kept, and its entries in memory.
use Rattle.std.proofs.Common.{◌≡◌, ◌≢◌, ◌≤◌, ◌<◌, ◌+◌, ◌-◌, ◌^◌, inl, inr, ℕ, Bool, true, false, cond, List, [], ◌++◌, length, take, drop, Option, None, Some, refl, sym, ap, ◌∙◌, arith, append_assoc, length-append, length-take, length-drop, true≢false}
use Rattle.std.specs.Prelude.{nat_eq, slice_get, IfSome, MatchOption}
use Rattle.std.specs.Map.{lookup}
use Rattle.std.specs.Option.{option_eq}
use Rattle.std.proofs.lemmas.Bool.{eqb-true, eq-eqb, cases_lt}
use Rattle.std.proofs.lemmas.List.{take-append-drop}
use Rattle.std.proofs.lemmas.Option.{none-some, slice_get_cases}
use Rattle.ups_history.specs.Kept.{KeepsHistory}
use Rattle.ups_history.proofs.Places.{at_front, at_back, at_taken, InMemory, is_held, holds}

pub last_is : (from n place : ℕ) (r : Option ℕ) → MatchOption r (n ≡ 0) (λ p. (0 < n) × (p + 1 ≡ from + n)) → option_eq nat_eq r (Some place) ≡ true → (0 < n) × (place + 1 ≡ from + n)
last_is from n place None h same = absurd (true≢false (sym same))
last_is from n place (Some p) h same = let is = eqb-true p place same in (h.0, omega (arith, h.1, is))

module _ {X : Type 0} where
  pub kept_new : (before recent aside : List X) (older : List (ℕ × X)) → before ≡ [] → recent ≡ [] → aside ≡ [] → older ≡ [] → KeepsHistory before recent aside 0 0 older
  kept_new before recent aside older b r a o = record {
    counted = sym (ap length b);
    few = omega arith;
    few_recent = (let none = ap length r in omega (arith, none));
    aside_before = (let none = ap length a in omega (arith, none));
    aside_is = λ k x h. absurd (none-some x (sym (ap (λ xs. slice_get xs k) a) ∙ h));
    older_is = λ p x h. absurd (none-some x (sym (ap (lookup (nat_eq p)) o) ∙ h));
  }

  pub last_held : (first from : ℕ) (aside : List X) (older : List (ℕ × X)) (n : ℕ) (r : Option ℕ) → n ≡ length aside → MatchOption r (n ≡ 0) (λ p. (0 < n) × (p + 1 ≡ from + n)) → IfSome r (λ p. is_held first from aside older p ≡ true)
  last_held first from aside older n None same h = tt
  last_held first from aside older n (Some p) same h = holds first from aside older p (inr (inl (omega (arith, h), omega (arith, h, same))))

  -- the older entries, once one of a place is put among them, or taken out
  abbrev pub IsPut : ℕ → Option X → List (ℕ × X) → List (ℕ × X) → Type 0
  IsPut place o older older' = (q : ℕ) → lookup (nat_eq q) older' ≡ cond (nat_eq place q) o (lookup (nat_eq q) older)

  pub put_among : (place : ℕ) (o : Option X) (same older older' : List (ℕ × X)) → same ≡ older → IsPut place o same older' → IsPut place o older older'
  put_among place o same older older' is put q = put q ∙ ap (λ es. cond (nat_eq place q) o (lookup (nat_eq q) es)) is

  module _ {before recent aside : List X} {first from : ℕ} {older : List (ℕ × X)} (keeps : KeepsHistory before recent aside first from older) where
    -- AN ENTRY THAT IS NOT RECENT

    pub aside_at : (place : ℕ) → from ≤ place → place - from < length aside → slice_get aside (place - from) ≡ slice_get (before ++ recent) place
    aside_at place l w = elim (slice_get_cases aside (place - from)).1 [
      | inl e ↦
          let same : place ≡ from + (place - from) = omega (arith, l) in
          e.2 ∙ sym (at_front before recent place e.0 (ap (slice_get before) same ∙ keeps.aside_is (place - from) e.0 e.2))
      | inr e ↦ absurd (omega (arith, e.0, w))
    ]

    pub older_at : (place : ℕ) (x : X) → lookup (nat_eq place) older ≡ Some x → lookup (nat_eq place) older ≡ slice_get (before ++ recent) place
    older_at place x h = h ∙ sym (at_front before recent place x (keeps.older_is place x h))

    -- AN ENTRY IS PUSHED

    pub kept_pushed : (recent' : List X) → length recent' ≤ 2 ^ 62 → KeepsHistory before recent' aside first from older
    kept_pushed recent' few = record {
      counted = keeps.counted;
      few = keeps.few;
      few_recent = few;
      aside_before = keeps.aside_before;
      aside_is = keeps.aside_is;
      older_is = keeps.older_is;
    }

    -- ENTRIES ARE SET ASIDE

    module _ (before' recent' aside' : List X) (count : ℕ) (front : aside' ≡ take count recent) (back : recent' ≡ drop count recent) (more : before' ≡ before ++ aside') (within : count ≤ length recent) where
      as_many : length aside' ≡ count
      as_many = let n = ap length front in let t = length-take count recent in omega (arith, n, t, within)

      pub kept_set_aside : first + count ≤ 2 ^ 62 → KeepsHistory before' recent' aside' (first + count) first older
      kept_set_aside few = record {
        counted = (let n = ap length more in let a = length-append before aside' in omega (arith, n, a, as_many, keeps.counted));
        few = few;
        few_recent = (let n = ap length back in let d = length-drop count recent in omega (arith, n, d, keeps.few_recent));
        aside_before = omega (arith, as_many);
        aside_is = λ k x h. ap (λ xs. slice_get xs (first + k)) more ∙ ap (λ n. slice_get (before ++ aside') (n + k)) keeps.counted ∙ at_back before aside' k ∙ h;
        older_is = λ p x h. ap (λ xs. slice_get xs p) more ∙ at_front before aside' p x (keeps.older_is p x h);
      }

      pub same_entries : before' ++ recent' ≡ before ++ recent
      same_entries =
          ap (λ xs. xs ++ recent') more ∙ append_assoc before aside' recent' ∙ ap (λ xs. before ++ (xs ++ recent')) front ∙ ap (λ xs. before ++ (take count recent ++ xs)) back
          ∙ ap (λ xs. before ++ xs) (take-append-drop count recent)

      pub held_aside : length aside ≡ 0 → (p : ℕ) → InMemory first from aside older p → InMemory (first + count) first aside' older p
      held_aside none p (inl a) = elim (cases_lt p (first + count)) [
        | inl l ↦ inr (inl (a, omega (arith, l, as_many)))
        | inr l ↦ inl l
      ]
      held_aside none p (inr (inl a)) = absurd (omega (arith, a, none))
      held_aside none p (inr (inr a)) = inr (inr a)

    -- THE CANDIDATE LEAVES

    module _ (place : ℕ) (aside' : List X) (n : ℕ) (popped : aside' ≡ take n aside) (all : n + 1 ≡ length aside) (last : place + 1 ≡ from + length aside) where
      one_less : length aside' + 1 ≡ length aside
      one_less = let p = ap length popped in let t = length-take n aside in omega (arith, p, t, all)

      pub kept_popped : (older' : List (ℕ × X)) → ((p : ℕ) (x : X) → lookup (nat_eq p) older' ≡ Some x → slice_get before p ≡ Some x) → KeepsHistory before recent aside' first from older'
      kept_popped older' is = record {
        counted = keeps.counted;
        few = keeps.few;
        few_recent = keeps.few_recent;
        aside_before = (let b = keeps.aside_before in omega (arith, b, one_less));
        aside_is = λ k x h. keeps.aside_is k x (at_taken n aside k x (ap (λ xs. slice_get xs k) (sym popped) ∙ h));
        older_is = is;
      }

      pub popped_at : (x : X) → slice_get aside n ≡ Some x → slice_get before place ≡ Some x
      popped_at x h = let same : place ≡ from + n = omega (arith, all, last) in ap (slice_get before) same ∙ keeps.aside_is n x h

      pub held_put : (x : X) (older' : List (ℕ × X)) → IsPut place (Some x) older older' → (p : ℕ) → InMemory first from aside older p → InMemory first from aside' older' p
      held_put x older' put p h = by (nat_eq place p) refl h
        where
          by : (b : Bool) → nat_eq place p ≡ b → InMemory first from aside older p → InMemory first from aside' older' p
          by b e (inl a) = inl a
          by true e (inr a) = inr (inr (x, put p ∙ ap (λ t. cond t (Some x) (lookup (nat_eq p) older)) e))
          by false e (inr (inl a)) =
              let apart : p ≢ place = λ same. true≢false (sym (eq-eqb place p (sym same)) ∙ e) in
              inr (inl (a.0, omega (arith, a.1, one_less, last, apart)))
          by false e (inr (inr a)) = inr (inr (a.0, put p ∙ ap (λ t. cond t (Some x) (lookup (nat_eq p) older)) e ∙ a.1))

      pub held_popped : (p : ℕ) → p ≢ place → InMemory first from aside older p → InMemory first from aside' older p
      held_popped p apart (inl a) = inl a
      held_popped p apart (inr (inl a)) = inr (inl (a.0, omega (arith, a.1, one_less, last, apart)))
      held_popped p apart (inr (inr a)) = inr (inr a)

    -- AN OLDER ENTRY IS PUT, OR LEAVES

    pub older_put : (place : ℕ) (x : X) (older' : List (ℕ × X)) → IsPut place (Some x) older older' → slice_get before place ≡ Some x → (p : ℕ) (y : X) → lookup (nat_eq p) older' ≡ Some y → slice_get before p ≡ Some y
    older_put place x older' put is p y h = by (nat_eq place p) refl (sym (put p) ∙ h)
      where
        by : (b : Bool) → nat_eq place p ≡ b → cond b (Some x) (lookup (nat_eq p) older) ≡ Some y → slice_get before p ≡ Some y
        by true e s = ap (slice_get before) (sym (eqb-true place p e)) ∙ is ∙ s
        by false e s = keeps.older_is p y s

    pub kept_taken : (place : ℕ) (older' : List (ℕ × X)) → IsPut place None older older' → KeepsHistory before recent aside first from older'
    kept_taken place older' put = record {
      counted = keeps.counted;
      few = keeps.few;
      few_recent = keeps.few_recent;
      aside_before = keeps.aside_before;
      aside_is = keeps.aside_is;
      older_is = λ p x h. by p x (nat_eq place p) (sym (put p) ∙ h);
    }
      where
        by : (p : ℕ) (x : X) (b : Bool) → cond b None (lookup (nat_eq p) older) ≡ Some x → slice_get before p ≡ Some x
        by p x true s = absurd (none-some x s)
        by p x false s = keeps.older_is p x s

    pub held_taken : (place : ℕ) (older' : List (ℕ × X)) → IsPut place None older older' → (p : ℕ) → p ≢ place → InMemory first from aside older p → InMemory first from aside older' p
    held_taken place older' put p apart (inl a) = inl a
    held_taken place older' put p apart (inr (inl a)) = inr (inl a)
    held_taken place older' put p apart (inr (inr a)) = inr (inr (a.0, put p ∙ by (nat_eq place p) refl ∙ a.1))
      where
        by : (b : Bool) → nat_eq place p ≡ b → cond b None (lookup (nat_eq p) older) ≡ lookup (nat_eq p) older
        by true e = absurd (apart (sym (eqb-true place p e)))
        by false e = refl
