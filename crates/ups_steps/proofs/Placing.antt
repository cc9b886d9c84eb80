-- What the places of steps hold, and what they hold after one of them was written.
use Rattle.std.proofs.Common.{◌≡◌, ◌≤◌, ◌+◌, ℕ, Bool, true, false, not, cond, List, [], ◌∷◌, ◌++◌, filter, length, Option, None, Some, refl, sym, ap, ◌∙◌, subst, true≢false, arith}
use Rattle.std.specs.Prelude.{is_some}
use Rattle.std.specs.List.{IsDistinct, AllByRecursion}
use Rattle.std.specs.Map.{keys_of, lookup, set_value, remove_entry}
use Rattle.std.specs.Str.{bytes_eq}
use Rattle.indexmap.specs.IndexMap.{insert_entry}
use Rattle.ups_life.proofs.Texts.{same_text}
use Rattle.ups_steps.specs.Places.{with_held, held_in}

-- what a place holds, if there is one
abbrev pub held_by : {X : Type 0} → Option (Option X) → Option X
held_by None = None
held_by (Some o) = o

-- the list has no entry under u
abbrev Apart : {X : Type 0} → List ℕ → List (List ℕ × X) → Type 0
Apart u es = AllByRecursion (λ y. bytes_eq u y ≡ false) (keys_of es)

apart_none : {X : Type 0} (u : List ℕ) (hs : List (List ℕ × X)) → Apart u hs → lookup (bytes_eq u) hs ≡ None
apart_none u [] h = refl
apart_none u (e ∷ hs) h = ap (λ b. cond b (Some e.1) (lookup (bytes_eq u) hs)) h.0 ∙ apart_none u hs h.1

module _ {X : Type 0} where
  apart_held : (u : List ℕ) (es : List (List ℕ × Option X)) → Apart u es → Apart u (held_in es)
  apart_held u [] h = tt
  apart_held u (e ∷ es) h = by e.1 (apart_held u es h.1)
    where
      by : (o : Option X) → Apart u (held_in es) → Apart u (with_held e.0 o (held_in es))
      by None r = r
      by (Some x) r = (h.0, r)

  apart_too : (u v : List ℕ) (es : List (List ℕ × Option X)) → bytes_eq u v ≡ true → Apart v es → Apart u es
  apart_too u v es e h = subst (λ w. Apart w es) (sym (same_text u v e)) h

  -- the places under equal UIDs hold none behind the first
  none_behind : (u v : List ℕ) (es : List (List ℕ × Option X)) → bytes_eq u v ≡ true → Apart v es → lookup (bytes_eq u) (held_in es) ≡ None
  none_behind u v es e h = apart_none u (held_in es) (apart_held u es (apart_too u v es e h))

  -- WHAT IS HELD

  pub distinct_held : (es : List (List ℕ × Option X)) → IsDistinct bytes_eq (keys_of es) → IsDistinct bytes_eq (keys_of (held_in es))
  unfolding IsDistinct
  distinct_held [] d = tt
  distinct_held (e ∷ es) d = by e.1 (distinct_held es d.1)
    where
      by : (o : Option X) → IsDistinct bytes_eq (keys_of (held_in es)) → IsDistinct bytes_eq (keys_of (with_held e.0 o (held_in es)))
      by None r = r
      by (Some x) r = (apart_held e.0 es d.0, r)

  pub found : (u : List ℕ) (es : List (List ℕ × Option X)) → IsDistinct bytes_eq (keys_of es) → held_by (lookup (bytes_eq u) es) ≡ lookup (bytes_eq u) (held_in es)
  unfolding IsDistinct
  found u [] d = refl
  found u (e ∷ es) d = by (bytes_eq u e.0) refl e.1 (found u es d.1)
    where
      by : (b : Bool) → bytes_eq u e.0 ≡ b → (o : Option X) → held_by (lookup (bytes_eq u) es) ≡ lookup (bytes_eq u) (held_in es) → held_by (cond b (Some o) (lookup (bytes_eq u) es)) ≡ lookup (bytes_eq u) (with_held e.0 o (held_in es))
      by true p None r = sym (none_behind u e.0 es p d.0)
      by true p (Some x) r = sym (ap (λ b. cond b (Some x) (lookup (bytes_eq u) (held_in es))) p)
      by false p None r = r
      by false p (Some x) r = r ∙ sym (ap (λ b. cond b (Some x) (lookup (bytes_eq u) (held_in es))) p)

  pub few_held : (es : List (List ℕ × Option X)) → length (held_in es) ≤ length es
  few_held [] = omega arith
  few_held (e ∷ es) = by e.1 (few_held es)
    where
      by : (o : Option X) → length (held_in es) ≤ length es → length (with_held e.0 o (held_in es)) ≤ length (e ∷ es)
      by None r = omega (arith, r)
      by (Some x) r = omega (arith, r)

  -- A STEP IS ADDED

  pub removed_free : (u : List ℕ) (es : List (List ℕ × Option X)) → lookup (bytes_eq u) (held_in es) ≡ None → held_in (remove_entry (bytes_eq u) es) ≡ held_in es
  removed_free u [] h = refl
  removed_free u (e ∷ es) h = by (bytes_eq u e.0) refl e.1 (removed_free u es) h
    where
      rest : List (List ℕ × X)
      rest = held_in (remove_entry (bytes_eq u) es)

      by : (b : Bool) → bytes_eq u e.0 ≡ b → (o : Option X) → (lookup (bytes_eq u) (held_in es) ≡ None → rest ≡ held_in es) → lookup (bytes_eq u) (with_held e.0 o (held_in es)) ≡ None
          → held_in (cond b es ((e.0, o) ∷ remove_entry (bytes_eq u) es)) ≡ with_held e.0 o (held_in es)
      by true p None r n = refl
      by true p (Some x) r n = let bad : Some x ≡ None = sym (ap (λ b. cond b (Some x) (lookup (bytes_eq u) (held_in es))) p) ∙ n in absurd cc
      by false p None r n = r n
      by false p (Some x) r n = ap (λ hs. (e.0, x) ∷ hs) (r (sym (ap (λ b. cond b (Some x) (lookup (bytes_eq u) (held_in es))) p) ∙ n))

  pub held_behind : (u : List ℕ) (h : X) (es : List (List ℕ × Option X)) → held_in (es ++ (u, Some h) ∷ []) ≡ held_in es ++ (u, h) ∷ []
  held_behind u h [] = refl
  held_behind u h (e ∷ es) = by e.1 (held_behind u h es)
    where
      by : (o : Option X) → held_in (es ++ (u, Some h) ∷ []) ≡ held_in es ++ (u, h) ∷ [] → with_held e.0 o (held_in (es ++ (u, Some h) ∷ [])) ≡ with_held e.0 o (held_in es) ++ (u, h) ∷ []
      by None r = r
      by (Some x) r = ap (λ hs. (e.0, x) ∷ hs) r

  -- A STEP IS REPLACED

  pub replaced : (u : List ℕ) (h : X) (es : List (List ℕ × Option X)) → IsDistinct bytes_eq (keys_of es) → is_some (lookup (bytes_eq u) (held_in es)) ≡ true
      → held_in (set_value (bytes_eq u) es (Some h)) ≡ insert_entry bytes_eq (held_in es) u h
  unfolding IsDistinct
  replaced u h [] d s = absurd (true≢false (sym s))
  replaced u h (e ∷ es) d s = by (bytes_eq u e.0) refl e.1 (replaced u h es d.1) s
    where
      rest : List (List ℕ × X)
      rest = held_in (set_value (bytes_eq u) es (Some h))

      by : (b : Bool) → bytes_eq u e.0 ≡ b → (o : Option X) → (is_some (lookup (bytes_eq u) (held_in es)) ≡ true → rest ≡ insert_entry bytes_eq (held_in es) u h) → is_some (lookup (bytes_eq u) (with_held e.0 o (held_in es))) ≡ true
          → held_in (cond b ((e.0, Some h) ∷ es) ((e.0, o) ∷ set_value (bytes_eq u) es (Some h))) ≡ insert_entry bytes_eq (with_held e.0 o (held_in es)) u h
      by true p None r s = absurd (true≢false (sym s ∙ ap is_some (none_behind u e.0 es p d.0)))
      by true p (Some x) r s = sym (ap (λ b. cond b ((e.0, h) ∷ held_in es) ((e.0, x) ∷ insert_entry bytes_eq (held_in es) u h)) p)
      by false p None r s = r s
      by false p (Some x) r s =
          ap (λ hs. (e.0, x) ∷ hs) (r (sym (ap (λ b. is_some (cond b (Some x) (lookup (bytes_eq u) (held_in es)))) p) ∙ s))
          ∙ sym (ap (λ b. cond b ((e.0, h) ∷ held_in es) ((e.0, x) ∷ insert_entry bytes_eq (held_in es) u h)) p)

  -- A PLACE IS FREED

  -- a step that is not held is not taken out
  pub none_taken : (u : List ℕ) (hs : List (List ℕ × X)) → lookup (bytes_eq u) hs ≡ None → filter (λ (e : List ℕ × X). not (bytes_eq u e.0)) hs ≡ hs
  none_taken u [] n = refl
  none_taken u (e ∷ hs) n = by (bytes_eq u e.0) n (none_taken u hs)
    where
      left : List (List ℕ × X)
      left = filter (λ (e : List ℕ × X). not (bytes_eq u e.0)) hs

      by : (b : Bool) → cond b (Some e.1) (lookup (bytes_eq u) hs) ≡ None → (lookup (bytes_eq u) hs ≡ None → left ≡ hs) → cond (not b) (e ∷ left) left ≡ e ∷ hs
      by true n r = absurd cc
      by false n r = ap (λ l. e ∷ l) (r n)

  pub freed : (u : List ℕ) (es : List (List ℕ × Option X)) → IsDistinct bytes_eq (keys_of es) → held_in (set_value (bytes_eq u) es None) ≡ filter (λ (e : List ℕ × X). not (bytes_eq u e.0)) (held_in es)
  unfolding IsDistinct
  freed u [] d = refl
  freed u (e ∷ es) d = by (bytes_eq u e.0) refl e.1 (freed u es d.1)
    where
      left : List (List ℕ × X)
      left = filter (λ (e : List ℕ × X). not (bytes_eq u e.0)) (held_in es)

      none : bytes_eq u e.0 ≡ true → held_in es ≡ left
      none p = sym (none_taken u (held_in es) (none_behind u e.0 es p d.0))

      by : (b : Bool) → bytes_eq u e.0 ≡ b → (o : Option X) → held_in (set_value (bytes_eq u) es None) ≡ left
          → held_in (cond b ((e.0, None) ∷ es) ((e.0, o) ∷ set_value (bytes_eq u) es None)) ≡ filter (λ (e : List ℕ × X). not (bytes_eq u e.0)) (with_held e.0 o (held_in es))
      by true p None r = none p
      by true p (Some x) r = none p ∙ sym (ap (λ b. cond (not b) ((e.0, x) ∷ left) left) p)
      by false p None r = r
      by false p (Some x) r = ap (λ hs. (e.0, x) ∷ hs) r ∙ sym (ap (λ b. cond (not b) ((e.0, x) ∷ left) left) p)

  pub one_taken : (u : List ℕ) (hs : List (List ℕ × X)) → IsDistinct bytes_eq (keys_of hs) → length (filter (λ (e : List ℕ × X). not (bytes_eq u e.0)) hs) + cond (is_some (lookup (bytes_eq u) hs)) 1 0 ≡ length hs
  unfolding IsDistinct
  one_taken u [] d = refl
  one_taken u (e ∷ hs) d = by (bytes_eq u e.0) refl (one_taken u hs d.1)
    where
      left : List (List ℕ × X)
      left = filter (λ (e : List ℕ × X). not (bytes_eq u e.0)) hs

      by : (b : Bool) → bytes_eq u e.0 ≡ b → length left + cond (is_some (lookup (bytes_eq u) hs)) 1 0 ≡ length hs
          → length (cond (not b) (e ∷ left) left) + cond (is_some (cond b (Some e.1) (lookup (bytes_eq u) hs))) 1 0 ≡ length (e ∷ hs)
      by true p r =
          let same = ap length (none_taken u hs (apart_none u hs (subst (λ w. AllByRecursion (λ y. bytes_eq w y ≡ false) (keys_of hs)) (sym (same_text u e.0 p)) d.0))) in
          omega (arith, same)
      by false p r = omega (arith, r)

  -- FREE PLACES ARE CLOSED UP

  pub closed_up : (es : List (List ℕ × Option X)) → held_in (filter (λ (e : List ℕ × Option X). is_some e.1) es) ≡ held_in es
  closed_up [] = refl
  closed_up (e ∷ es) = by e.1 (closed_up es)
    where
      left : List (List ℕ × Option X)
      left = filter (λ (e : List ℕ × Option X). is_some e.1) es

      by : (o : Option X) → held_in left ≡ held_in es → held_in (cond (is_some o) ((e.0, o) ∷ left) left) ≡ with_held e.0 o (held_in es)
      by None r = r
      by (Some x) r = ap (λ hs. (e.0, x) ∷ hs) r

  pub as_many_held : (es : List (List ℕ × Option X)) → length (filter (λ (e : List ℕ × Option X). is_some e.1) es) ≡ length (held_in es)
  as_many_held [] = refl
  as_many_held (e ∷ es) = by e.1 (as_many_held es)
    where
      left : List (List ℕ × Option X)
      left = filter (λ (e : List ℕ × Option X). is_some e.1) es

      by : (o : Option X) → length left ≡ length (held_in es) → length (cond (is_some o) ((e.0, o) ∷ left) left) ≡ length (with_held e.0 o (held_in es))
      by None r = r
      by (Some x) r = omega (arith, r)
