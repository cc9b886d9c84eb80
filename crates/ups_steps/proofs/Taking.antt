-- A loop over steps that are taken out, at its next one.
use Rattle.std.proofs.Common.{◌≡◌, ◌<◌, ◌+◌, ℕ, Bool, true, false, not, ◌&&◌, ◌||◌, cond, List, [], ◌∷◌, filter, take, length, get_or, refl, sym, ap, ◌∙◌}
use Rattle.std.specs.Str.{bytes_eq}
use Rattle.std.proofs.lemmas.List.{take_more, map-append}
use Rattle.std.proofs.lemmas.List.Folds.{list_any-append}
use Rattle.ups_life.specs.Watching.{is_among}
use Rattle.ups_keep.specs.declared.due.Final.{Final}
use Rattle.ups_keep.specs.Waits.{steps_of}

pub among_next : (xs : List Final) (i : ℕ) (u : List ℕ) (x : Final) → i < length xs → x.step ≡ (get_or xs i x).step → is_among u (steps_of (take (i + 1) xs)) ≡ (is_among u (steps_of (take i xs)) || (bytes_eq x.step u || false))
among_next xs i u x l is =
    ap (λ ys. is_among u (steps_of ys)) (take_more xs i x l) ∙ ap (is_among u) (map-append (λ (y : Final). y.step) (take i xs) (get_or xs i x ∷ [])) ∙ list_any-append (λ v. bytes_eq v u) (steps_of (take i xs)) ((get_or xs i x).step ∷ [])
    ∙ ap (λ v. is_among u (steps_of (take i xs)) || (bytes_eq v u || false)) (sym is)

filter_both : {X : Type 0} (p q r : X → Bool) (es : List X) → ((e : X) → r e ≡ (q e && p e)) → filter p (filter q es) ≡ filter r es
filter_both p q r [] h = refl
filter_both {X} p q r (e ∷ es) h =
    by (q e) ∙ ap (λ x. cond (q e && p e) (e ∷ x) x) (filter_both p q r es h) ∙ ap (λ b. cond b (e ∷ filter r es) (filter r es)) (sym (h e))
  where
    by : (a : Bool) → filter p (cond a (e ∷ filter q es) (filter q es)) ≡ cond (a && p e) (e ∷ filter p (filter q es)) (filter p (filter q es))
    by true = refl
    by false = refl

pub taken_next : {X : Type 0} (xs : List Final) (i : ℕ) (x : Final) (es es' es2 : List (List ℕ × X)) → i < length xs → x.step ≡ (get_or xs i x).step → es' ≡ filter (λ (e : List ℕ × X). not (is_among e.0 (steps_of (take i xs)))) es
    → es2 ≡ filter (λ (e : List ℕ × X). not (bytes_eq x.step e.0)) es' → es2 ≡ filter (λ (e : List ℕ × X). not (is_among e.0 (steps_of (take (i + 1) xs)))) es
taken_next {X} xs i x es es' es2 l is so_far step =
    step ∙ ap (filter (λ (e : List ℕ × X). not (bytes_eq x.step e.0))) so_far
    ∙ filter_both (λ (e : List ℕ × X). not (bytes_eq x.step e.0)) (λ (e : List ℕ × X). not (is_among e.0 (steps_of (take i xs)))) (λ (e : List ℕ × X). not (is_among e.0 (steps_of (take (i + 1) xs)))) es
    (λ e. ap not (among_next xs i e.0 x l is) ∙ neither (is_among e.0 (steps_of (take i xs))) (bytes_eq x.step e.0))
  where
    neither : (a b : Bool) → not (a || (b || false)) ≡ (not a && not b)
    neither true b = refl
    neither false true = refl
    neither false false = refl

pub taken_none : {X : Type 0} (es : List (List ℕ × X)) → es ≡ filter (λ (e : List ℕ × X). true) es
taken_none [] = refl
taken_none (e ∷ es) = ap (λ r. e ∷ r) (taken_none es)
