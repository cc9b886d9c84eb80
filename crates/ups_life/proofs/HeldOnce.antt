-- The steps held: each was created, and none stands twice.
use Rattle.std.proofs.Common.{◌≡◌, ℕ, Bool, true, false, not, ◌||◌, cond, List, [], ◌∷◌, ◌++◌, filter, refl, sym, ap, ◌∙◌}
use Rattle.std.specs.Str.{bytes_eq}
use Rattle.std.specs.List.{list_any, AllByRecursion}
use Rattle.ups_life.specs.declared.request.Request.{Request}
use Rattle.ups_life.specs.declared.request.Request.TheVariants.{Create, Sweep, Reserve}
use Rattle.ups_life.specs.declared.entry.Entry.{Entry}
use Rattle.ups_cycle.specs.declared.status.Status.TheVariants.{Success}
use Rattle.ups_life.specs.Settings.{Settings}
use Rattle.ups_life.specs.Distinct.{Distinct}
use Rattle.ups_life.specs.Steps.{used, creates, uses_uid}
use Rattle.ups_life.specs.Watching.{is_due, held, held_after, is_held}
use Rattle.ups_life.specs.History.{legal}
use Rattle.ups_life.proofs.Texts.{same_text, text_is_itself}
use Rattle.ups_life.proofs.Accepted.{said, succeeded, legal_tail, created_fresh, neither, differ}

or_true : (b : Bool) → b || true ≡ true
or_true true = refl
or_true false = refl

more_used : {A : Type 0} (es : List (Entry A)) (r : Request A) (us : List (List ℕ)) → AllByRecursion (λ u. used es u ≡ true) us → AllByRecursion (λ u. (uses_uid u r || used es u) ≡ true) us
more_used es r [] h = tt
more_used es r (u ∷ us) (h, more) = (ap (λ b. uses_uid u r || b) h ∙ or_true (uses_uid u r), more_used es r us more)

each_push : {X : Type 0} (P : X → Type 0) (us : List X) (u : X) → AllByRecursion P us → P u → AllByRecursion P (us ++ u ∷ [])
each_push P [] u h p = (p, tt)
each_push P (v ∷ vs) u (q, more) p = (q, each_push P vs u more p)

each_filter : {X : Type 0} (P : X → Type 0) (p : X → Bool) (us : List X) → AllByRecursion P us → AllByRecursion P (filter p us)
each_filter P p [] h = tt
each_filter P p (u ∷ us) (q, more) = at (p u) (each_filter P p us more)
  where
    at : (b : Bool) → AllByRecursion P (filter p us) → AllByRecursion P (cond b (u ∷ filter p us) (filter p us))
    at true m = (q, m)
    at false m = m

used_after : {A : Type 0} (s : Settings) (es : List (Entry A)) (moment : ℕ) (us : List (List ℕ)) (r : Request A) → AllByRecursion (λ u. used es u ≡ true) us → AllByRecursion (λ u. (uses_uid u r || used es u) ≡ true) (held_after s es moment us r)
used_after {A} s es moment us (Create step attributes) h =
    let r : Request A = Create step attributes in
    each_push (λ u. (bytes_eq step u || used es u) ≡ true) us step (more_used es r us h) (ap (λ b. b || used es step) (text_is_itself step))
used_after s es moment us Sweep h = each_filter (λ u. used es u ≡ true) (λ u. not (is_due s es moment u)) us h
used_after s es moment us (Reserve step) h = more_used es (Reserve step) us h
used_after s es moment us r h = h

-- a request that does not use a UID creates no step with it
pub creates_none : {A : Type 0} (u : List ℕ) (r : Request A) → uses_uid u r ≡ false → creates u r ≡ false
creates_none u (Create step attributes) h = h
creates_none u r h = refl

-- each step that is held was created
pub held_used : {A : Type 0} (s : Settings) (es : List (Entry A)) → AllByRecursion (λ u. used es u ≡ true) (held s es)
held_used s [] = tt
held_used s (e ∷ es) = used_after s es e.moment (held s es) e.request (held_used s es)

among_used : {A : Type 0} (es : List (Entry A)) (u : List ℕ) (vs : List (List ℕ)) → AllByRecursion (λ v. used es v ≡ true) vs → list_any (λ v. bytes_eq v u) vs ≡ true → used es u ≡ true
among_used es u [] h any = absurd cc
among_used es u (v ∷ vs) (h, more) any = here (bytes_eq v u) (list_any (λ w. bytes_eq w u) vs) (λ e. ap (used es) (sym (same_text v u e)) ∙ h) (among_used es u vs more) any
  where
    here : {P : Type 0} (b more : Bool) → (b ≡ true → P) → (more ≡ true → P) → b || more ≡ true → P
    here true more now later e = now refl
    here false more now later e = later e

pub is_held_used : {A : Type 0} (s : Settings) (es : List (Entry A)) (u : List ℕ) → is_held s es u ≡ true → used es u ≡ true
is_held_used s es u h = among_used es u (held s es) (held_used s es) h

-- what was created isn't what was not
all_other : {A : Type 0} (es : List (Entry A)) (step : List ℕ) (vs : List (List ℕ)) → used es step ≡ false → AllByRecursion (λ v. used es v ≡ true) vs → AllByRecursion (λ v. bytes_eq step v ≡ false) vs
all_other es step [] fresh h = tt
all_other es step (v ∷ vs) fresh (h, more) = (is_false (bytes_eq step v) (λ e. differ (used es step) fresh (ap (used es) (same_text step v e) ∙ h)), all_other es step vs fresh more)
  where
    is_false : (b : Bool) → (b ≡ true → ⊥) → b ≡ false
    is_false true n = absurd (n refl)
    is_false false n = refl

pub not_among_more : (u step : List ℕ) (us : List (List ℕ)) → list_any (λ v. bytes_eq v u) us ≡ false → bytes_eq step u ≡ false → list_any (λ v. bytes_eq v u) (us ++ step ∷ []) ≡ false
not_among_more u step [] h n = ap (λ b. b || false) n
not_among_more u step (v ∷ vs) h n =
    let none = neither (bytes_eq v u) (list_any (λ w. bytes_eq w u) vs) h in
    ap (λ b. b || list_any (λ w. bytes_eq w u) (vs ++ step ∷ [])) none.0 ∙ not_among_more u step vs none.1 n

distinct_push : (us : List (List ℕ)) (step : List ℕ) → Distinct us → AllByRecursion (λ v. bytes_eq step v ≡ false) us → Distinct (us ++ step ∷ [])
distinct_push [] step d others = (refl, tt)
distinct_push (u ∷ us) step (d, more) (n, others) = (not_among_more u step us d n, distinct_push us step more others)

not_among_filter : (p : List ℕ → Bool) (u : List ℕ) (us : List (List ℕ)) → list_any (λ v. bytes_eq v u) us ≡ false → list_any (λ v. bytes_eq v u) (filter p us) ≡ false
not_among_filter p u [] h = refl
not_among_filter p u (v ∷ vs) h = let none = neither (bytes_eq v u) (list_any (λ w. bytes_eq w u) vs) h in at (p v) none.0 (not_among_filter p u vs none.1)
  where
    at : (b : Bool) → bytes_eq v u ≡ false → list_any (λ w. bytes_eq w u) (filter p vs) ≡ false → list_any (λ w. bytes_eq w u) (cond b (v ∷ filter p vs) (filter p vs)) ≡ false
    at true other none = ap (λ c. c || list_any (λ w. bytes_eq w u) (filter p vs)) other ∙ none
    at false other none = none

distinct_filter : (p : List ℕ → Bool) (us : List (List ℕ)) → Distinct us → Distinct (filter p us)
distinct_filter p [] d = tt
distinct_filter p (u ∷ us) (d, more) = at (p u) (not_among_filter p u us d) (distinct_filter p us more)
  where
    at : (b : Bool) → list_any (λ v. bytes_eq v u) (filter p us) ≡ false → Distinct (filter p us) → Distinct (cond b (u ∷ filter p us) (filter p us))
    at true none m = (none, m)
    at false none m = m

once_after : {A : Type 0} (s : Settings) (es : List (Entry A)) (moment : ℕ) (r : Request A) → said s es r ≡ Success → Distinct (held s es) → Distinct (held_after s es moment (held s es) r)
once_after s es moment (Create step attributes) d once = distinct_push (held s es) step once (all_other es step (held s es) (created_fresh s es step attributes d) (held_used s es))
once_after s es moment Sweep d once = distinct_filter (λ u. not (is_due s es moment u)) (held s es) once
once_after s es moment r d once = once

-- no step is held twice
pub held_once : {A : Type 0} (s : Settings) (es : List (Entry A)) → legal s es ≡ true → Distinct (held s es)
held_once s [] h = tt
held_once s (e ∷ es) h = once_after s es e.moment e.request (succeeded s e es h) (held_once s es (legal_tail s e es h))
