-- What a sweep leaves, and what it removes for ever.
use Rattle.std.proofs.Common.{◌≡◌, ℕ, Bool, true, false, not, ◌&&◌, ◌||◌, cond, List, [], ◌∷◌, ◌++◌, filter, Option, None, Some, refl, ap, ◌∙◌}
use Rattle.std.specs.Prelude.{is_some}
use Rattle.std.specs.List.{list_any}
use Rattle.std.specs.Str.{bytes_eq}
use Rattle.std.proofs.lemmas.List.Folds.{list_any-append}
use Rattle.ups_life.specs.declared.entry.Entry.{Entry}
use Rattle.ups_life.specs.declared.request.Request.{Request}
use Rattle.ups_life.specs.declared.request.Request.TheVariants.{Create, Sweep}
use Rattle.ups_cycle.specs.declared.status.Status.TheVariants.{Success}
use Rattle.ups_life.specs.Settings.{Settings}
use Rattle.ups_cycle.specs.States.{is_final}
use Rattle.ups_life.specs.Steps.{used, uses_uid, state, final_at}
use Rattle.ups_life.specs.Watching.{is_among, is_kept, has_passed, is_due, held_after, held, is_held}
use Rattle.ups_life.specs.History.{legal}
use Rattle.ups_life.proofs.Texts.{same_text}
use Rattle.ups_life.proofs.Accepted.{said, succeeded, legal_tail, created_fresh, differ}
use Rattle.ups_life.proofs.Finals.{ended_is_final}
use Rattle.ups_life.proofs.HeldOnce.{not_among_more}
use Rattle.ups_life.proofs.RowsTell.{any_filter}

or_first : (a b : Bool) → a ≡ true → (a || b) ≡ true
or_first true b h = refl
or_first false b h = absurd cc

or_second : (a b : Bool) → b ≡ true → (a || b) ≡ true
or_second true b h = refl
or_second false b h = h

-- what a test keeps of a list
kept_filter : (p : List ℕ → Bool) (u : List ℕ) (us : List (List ℕ)) → is_among u us ≡ true → p u ≡ true → is_among u (filter p us) ≡ true
kept_filter p u [] h k = absurd cc
kept_filter p u (v ∷ vs) h k = at (p v) refl (bytes_eq v u) refl (λ g. kept_filter p u vs g k) h
  where
    at : (c : Bool) → p v ≡ c → (b : Bool) → bytes_eq v u ≡ b → (is_among u vs ≡ true → is_among u (filter p vs) ≡ true) → (b || is_among u vs) ≡ true → is_among u (cond c (v ∷ filter p vs) (filter p vs)) ≡ true
    at true pv true vu later g = or_first (bytes_eq v u) (is_among u (filter p vs)) vu
    at true pv false vu later g = or_second (bytes_eq v u) (is_among u (filter p vs)) (later g)
    at false pv true vu later g = absurd (differ (p v) pv (ap p (same_text v u vu) ∙ k))
    at false pv false vu later g = later g

-- a step that is held and not due stays
stays : {A : Type 0} (s : Settings) (es : List (Entry A)) (moment : ℕ) (u : List ℕ) (r : Request A) → is_held s es u ≡ true → is_due s es moment u ≡ false → is_among u (held_after s es moment (held s es) r) ≡ true
stays s es moment u (Create v set) h k = list_any-append (λ x. bytes_eq x u) (held s es) (v ∷ []) ∙ or_first (is_held s es u) (list_any (λ x. bytes_eq x u) (v ∷ [])) h
stays s es moment u Sweep h k = kept_filter (λ v. not (is_due s es moment v)) u (held s es) h (ap not k)
stays s es moment u r h k = h

not_due_kept : (a b : Bool) → b ≡ true → (a && not b) ≡ false
not_due_kept true b h = ap not h
not_due_kept false b h = refl

not_due_early : (a b : Bool) → a ≡ false → (a && b) ≡ false
not_due_early true b h = absurd cc
not_due_early false b h = refl

-- a step that a peer keeps by a lock is not removed
pub locked_stays : {A : Type 0} (s : Settings) (e : Entry A) (es : List (Entry A)) (u : List ℕ) → is_held s es u ≡ true → is_kept s es u ≡ true → is_held s (e ∷ es) u ≡ true
locked_stays s e es u h k = stays s es e.moment u e.request h (not_due_kept (has_passed s.keep e.moment (final_at es u)) (is_kept s es u) k)

-- nor is one that is not final, or is so for too short a time
pub early_stays : {A : Type 0} (s : Settings) (e : Entry A) (es : List (Entry A)) (u : List ℕ) → is_held s es u ≡ true → has_passed s.keep e.moment (final_at es u) ≡ false → is_held s (e ∷ es) u ≡ true
early_stays s e es u h k = stays s es e.moment u e.request h (not_due_early (has_passed s.keep e.moment (final_at es u)) (not (is_kept s es u)) k)

not_passed : (seconds moment : ℕ) (since : Option ℕ) → is_some since ≡ false → has_passed seconds moment since ≡ false
not_passed seconds moment None h = refl
not_passed seconds moment (Some x) h = absurd cc

-- a step whose state is not final is held on
pub unfinished_stays : {A : Type 0} (s : Settings) (e : Entry A) (es : List (Entry A)) (u : List ℕ) → legal s (e ∷ es) ≡ true → is_held s es u ≡ true → is_final (state es u) ≡ false → is_held s (e ∷ es) u ≡ true
unfinished_stays s e es u l h unfinished = early_stays s e es u h (not_passed s.keep e.moment (final_at es u) (ended_is_final s es u (legal_tail s e es l) ∙ unfinished))

-- A STEP THAT WAS REMOVED

not_again : {A : Type 0} (s : Settings) (es : List (Entry A)) (moment : ℕ) (u : List ℕ) (r : Request A) → said s es r ≡ Success → used es u ≡ true → is_held s es u ≡ false → is_among u (held_after s es moment (held s es) r) ≡ false
not_again s es moment u (Create v set) d known away = at (bytes_eq v u) refl
  where
    at : (b : Bool) → bytes_eq v u ≡ b → is_among u (held s es ++ v ∷ []) ≡ false
    at true vu = absurd (differ (used es v) (created_fresh s es v set d) (ap (used es) (same_text v u vu) ∙ known))
    at false vu = not_among_more u v (held s es) away vu
not_again s es moment u Sweep d known away = at (is_among u (filter (λ v. not (is_due s es moment v)) (held s es))) refl
  where
    at : (b : Bool) → is_among u (filter (λ v. not (is_due s es moment v)) (held s es)) ≡ b → is_among u (filter (λ v. not (is_due s es moment v)) (held s es)) ≡ false
    at true there = absurd (differ (is_held s es u) away (any_filter (λ v. bytes_eq v u) (λ v. not (is_due s es moment v)) (held s es) there))
    at false there = there
not_again s es moment u r d known away = away

-- a UID stays used
stays_used : {A : Type 0} (later es : List (Entry A)) (u : List ℕ) → used es u ≡ true → used (later ++ es) u ≡ true
stays_used [] es u h = h
stays_used (e ∷ later) es u h = or_second (uses_uid u e.request) (used (later ++ es) u) (stays_used later es u h)

-- a step that was created and is not held is never held again, and its UID stays used
pub stays_away : {A : Type 0} (s : Settings) (later es : List (Entry A)) (u : List ℕ) → legal s (later ++ es) ≡ true → used es u ≡ true → is_held s es u ≡ false → (is_held s (later ++ es) u ≡ false) × (used (later ++ es) u ≡ true)
stays_away s [] es u l known away = (away, known)
stays_away s (e ∷ later) es u l known away =
    let before = stays_away s later es u (legal_tail s e (later ++ es) l) known away in
    (not_again s (later ++ es) e.moment u e.request (succeeded s e (later ++ es) l) before.1 before.0, stays_used (e ∷ later) es u known)
