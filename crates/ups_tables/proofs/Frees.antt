-- A list of the steps that are freed.
use Rattle.std.proofs.Common.{◌≡◌, ◌<◌, ◌+◌, ℕ, zero, suc, Bool, true, false, ◌||◌, ◌&&◌, not, cond, List, [], ◌∷◌, ◌++◌, length, get_or, take, Option, None, Some, refl, sym, ap, ◌∙◌, subst, arith, true≢false}
use Rattle.std.specs.Prelude.{is_some}
use Rattle.std.specs.List.{IsDistinct}
use Rattle.std.specs.Map.{keys_of, lookup}
use Rattle.std.specs.Option.{option_or}
use Rattle.std.specs.Str.{bytes_eq}
use Rattle.std.proofs.lemmas.List.{take_more}
use Rattle.std.proofs.lemmas.List.Folds.{list_any-append}
use Rattle.ups_life.specs.declared.watching.Subscription.{Subscription}
use Rattle.ups_life.specs.Distinct.{Distinct}
use Rattle.ups_life.specs.Watching.{is_among}
use Rattle.ups_life.proofs.Texts.{same_text, text_is_itself}
use Rattle.ups_keep.specs.declared.due.Final.{Final}
use Rattle.ups_keep.specs.Waits.{steps_of, waits, final_since}
use Rattle.ups_keep.proofs.Waiting.{is_false, other_text, waits_append, distinct_append, distinct_to}
use Rattle.ups_steps.specs.declared.held.HeldRow.{HeldRow}
use Rattle.ups_tables.specs.declared.tables.Tables.{Tables}
use Rattle.ups_tables.specs.Held.{held_at, final_of}
use Rattle.ups_tables.specs.Fit.{has_lock, kept_if, freed_if, holds, AreFreed}

-- of the first steps of a list those that wait as a function says
pub record Found (since : List ℕ → Option ℕ) (us : List (List ℕ)) (xs : List Final) : Type 0 where
  pub once : Distinct (steps_of xs)
  pub waiting : (u : List ℕ) → waits u xs ≡ cond (is_among u us) (since u) None

waits_since : (step u : List ℕ) (o : Option ℕ) → waits u (final_since step o) ≡ cond (bytes_eq step u) o None
waits_since step u None = sym (by (bytes_eq step u))
  where
    by : (b : Bool) → cond {A = Option ℕ} b None None ≡ None
    by true = refl
    by false = refl
waits_since step u (Some m) = refl

once_since : (step : List ℕ) (o : Option ℕ) → Distinct (steps_of (final_since step o))
once_since step None = tt
once_since step (Some m) = (refl, tt)

-- no step of a list stands in it before its place
new_there : (us : List (List ℕ)) (i : ℕ) (d : List ℕ) → Distinct us → i < length us → is_among (get_or us i d) (take i us) ≡ false
new_there [] i d once l = absurd (omega (arith, l))
new_there (u ∷ us) zero d once l = refl
new_there (u ∷ us) (suc i) d once l =
    ap (λ b. b || is_among (get_or us i d) (take i us)) (is_false (bytes_eq u (get_or us i d)) (λ e. true≢false (sym (later us i d (omega (arith, l)) (ap (λ v. bytes_eq v (get_or us i d)) refl)) ∙ ap (λ v. is_among v us) (sym (same_text u (get_or us i d) e)) ∙ once.0)))
    ∙ new_there us i d once.1 (omega (arith, l))
  where
    later : (vs : List (List ℕ)) (k : ℕ) (e : List ℕ) → k < length vs → bytes_eq (get_or vs k e) (get_or vs k e) ≡ bytes_eq (get_or vs k e) (get_or vs k e) → is_among (get_or vs k e) vs ≡ true
    later [] k e l same = absurd (omega (arith, l))
    later (v ∷ vs) zero e l same = ap (λ b. b || is_among v vs) (text_is_itself v)
    later (v ∷ vs) (suc k) e l same = by (bytes_eq v (get_or vs k e)) (later vs k e (omega (arith, l)) refl)
      where
        by : (b : Bool) → is_among (get_or vs k e) vs ≡ true → (b || is_among (get_or vs k e) vs) ≡ true
        by true h = refl
        by false h = h

pub found_next : (since : List ℕ → Option ℕ) (us : List (List ℕ)) (i : ℕ) (step : List ℕ) (o : Option ℕ) (xs ys : List Final) → Distinct us → i < length us → step ≡ get_or us i step → o ≡ since step
    → Found since (take i us) xs → ys ≡ xs ++ final_since step o → Found since (take (i + 1) us) ys
found_next since us i step o xs ys once l is so f step_is = record {
  once = subst (λ zs. Distinct (steps_of zs)) (sym step_is) (distinct_append xs (final_since step o) f.once (once_since step o) apart);
  waiting = λ u.
      ap (waits u) step_is ∙ waits_append u xs (final_since step o) ∙ ap (λ x. option_or x (waits u (final_since step o))) (f.waiting u) ∙ ap (option_or (cond (is_among u (take i us)) (since u) None)) (waits_since step u o)
      ∙ join u (is_among u (take i us)) refl (bytes_eq step u) refl
      ∙ ap (λ b. cond b (since u) None) (sym (ap (is_among u) (take_more us i step l) ∙ list_any-append (λ v. bytes_eq v u) (take i us) (get_or us i step ∷ []) ∙ ap (λ v. is_among u (take i us) || (bytes_eq v u || false)) (sym is)));
}
  where
    new : is_among step (take i us) ≡ false
    new = ap (λ v. is_among v (take i us)) is ∙ new_there us i step once l

    apart : (u : List ℕ) → is_some (waits u (final_since step o)) ≡ true → waits u xs ≡ None
    apart u h = f.waiting u ∙ ap (λ b. cond b (since u) None) (by (bytes_eq step u) refl (sym (ap is_some (waits_since step u o)) ∙ h))
      where
        by : (b : Bool) → bytes_eq step u ≡ b → is_some (cond b o None) ≡ true → is_among u (take i us) ≡ false
        by true e g = ap (λ v. is_among v (take i us)) (sym (same_text step u e)) ∙ new
        by false e g = absurd (true≢false (sym g))

    join : (u : List ℕ) (a : Bool) → is_among u (take i us) ≡ a → (b : Bool) → bytes_eq step u ≡ b → option_or (cond a (since u) None) (cond b o None) ≡ cond (a || (b || false)) (since u) None
    join u true h true e = absurd (true≢false (sym h ∙ ap (λ v. is_among v (take i us)) (sym (same_text step u e)) ∙ new))
    join u true h false e = or_none (since u)
      where
        or_none : (x : Option ℕ) → option_or x None ≡ x
        or_none None = refl
        or_none (Some m) = refl
    join u false h true e = so ∙ ap since (same_text step u e)
    join u false h false e = refl

pub found_none : (since : List ℕ → Option ℕ) (xs : List Final) → xs ≡ [] → Found since [] xs
found_none since xs e = record { once = subst (λ zs. Distinct (steps_of zs)) (sym e) tt; waiting = λ u. ap (waits u) e }

-- EVERYWHERE: what is not held is not freed

among_keys : {X : Type 0} (u : List ℕ) (es : List (List ℕ × X)) → is_among u (keys_of es) ≡ is_some (lookup (bytes_eq u) es)
among_keys u [] = refl
among_keys {X} u (e ∷ es) = ap (λ b. b || is_among u (keys_of es)) (other_text e.0 u) ∙ by (bytes_eq u e.0) (among_keys u es)
  where
    by : (b : Bool) → is_among u (keys_of es) ≡ is_some (lookup (bytes_eq u) es) → (b || is_among u (keys_of es)) ≡ is_some (cond b (Some e.1) (lookup (bytes_eq u) es))
    by true h = refl
    by false h = h

nothing_freed : {A : Type 0} (t : Tables A) (peer : ℕ) (s : Option Subscription) (u : List ℕ) → holds t u ≡ false → freed_if t peer s u ≡ None
nothing_freed {A} t peer s u out = by (held_at u t.steps.entries) out (has_lock t u && not (kept_if t peer s u))
  where
    by : (o : Option (HeldRow A)) → is_some o ≡ false → (b : Bool) → cond b (final_of o) None ≡ None
    by None h true = refl
    by None h false = refl
    by (Some x) h b = absurd (true≢false h)

pub keys_held : {A : Type 0} (t : Tables A) (us : List (List ℕ)) → us ≡ keys_of t.steps.entries → (u : List ℕ) → is_among u us ≡ holds t u
keys_held t us e u = ap (is_among u) e ∙ among_keys u t.steps.entries

pub freed_of_all : {A : Type 0} (t : Tables A) (peer : ℕ) (us us' : List (List ℕ)) (xs : List Final) → us ≡ keys_of t.steps.entries → us' ≡ us → AreFreed t peer None (λ u. is_among u us') xs → AreFreed t peer None (λ u. true) xs
freed_of_all t peer us us' xs e same f = record {
  once = f.once;
  waiting = λ u. f.waiting u ∙ ap (λ b. cond b (freed_if t peer None u) None) (ap (is_among u) same ∙ keys_held t us e u) ∙ by u (holds t u) refl;
}
  where
    by : (u : List ℕ) (b : Bool) → holds t u ≡ b → cond b (freed_if t peer None u) None ≡ freed_if t peer None u
    by u true h = refl
    by u false h = sym (nothing_freed t peer None u h)

pub distinct_keys : {X : Type 0} (us : List (List ℕ)) (es : List (List ℕ × X)) → us ≡ keys_of es → IsDistinct bytes_eq (keys_of es) → Distinct us
distinct_keys us es e d = subst Distinct (sym e) (distinct_to (keys_of es) d)
