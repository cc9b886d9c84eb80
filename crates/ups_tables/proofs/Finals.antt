-- When the states of steps that are held became final: what each kind of request makes of it, the least change.
use Rattle.std.proofs.Common.{◌≡◌, ℕ, Bool, true, false, not, ◌&&◌, ◌||◌, cond, List, [], ◌∷◌, Option, None, Some, refl, sym, ap, ◌∙◌}
use Rattle.std.specs.Option.{option_or}
use Rattle.std.specs.Str.{bytes_eq}
use Rattle.ups_dataset.specs.Data.{El}
use Rattle.ups_life.specs.declared.entry.Entry.{Entry}
use Rattle.ups_life.specs.declared.request.Request.{Request}
use Rattle.ups_life.specs.declared.request.Request.TheVariants.{Create, Change, AskCancel, Set, Subscribe, Unsubscribe, Suspend, Ack, Sweep, Reserve}
use Rattle.ups_life.specs.Settings.{Settings}
use Rattle.ups_cycle.specs.States.{is_final}
use Rattle.ups_life.specs.Steps.{used, creates, uses_uid, is_on, is_step, step_of, state, finished, final_at}
use Rattle.ups_life.specs.Watching.{is_due, held_after, held, is_held, is_among, removed}
use Rattle.ups_life.specs.History.{legal}
use Rattle.ups_tables.specs.Live.{final, is_of_no_step}
use Rattle.ups_life.proofs.Texts.{same_text, text_is_itself}
use Rattle.ups_life.proofs.Accepted.{succeeded, legal_tail, neither, differ}
use Rattle.ups_life.proofs.HeldOnce.{is_held_used, creates_none}
use Rattle.ups_life.proofs.OneHolder.{not_on}
use Rattle.ups_keep.proofs.Waiting.{is_false}
use Rattle.ups_tables.proofs.Among.{among_filter, among_push}

-- the state of what was never created is not final
pub never_final : {A : Type 0} (s : Settings) (es : List (Entry A)) (u : List ℕ) → legal s es ≡ true → used es u ≡ false → final_at es u ≡ None
never_final s [] u l f = refl
never_final s (e ∷ es) u l f =
    let fresh = neither (uses_uid u e.request) (used es u) f in
    ap (λ b. cond b (option_or (finished (state es u) e.moment e.request) (final_at es u)) (final_at es u)) (not_on s es u e.request (succeeded s e es l) fresh.1 (creates_none u e.request fresh.0))
    ∙ never_final s es u (legal_tail s e es l) fresh.1

-- what was never created is not held
pub not_held : {A : Type 0} (s : Settings) (es : List (Entry A)) (u : List ℕ) → used es u ≡ false → is_held s es u ≡ false
not_held s es u fresh = is_false (is_held s es u) (λ e. differ (used es u) fresh (is_held_used s es u e))

abbrev final_then : {A : Type 0} → Settings → List (Entry A) → Entry A → List ℕ → Request A → Option ℕ
final_then s es e u r = cond (is_among u (held_after s es e.moment (held s es) r)) (cond (is_on u r) (option_or (finished (state es u) e.moment r) (final_at es u)) (final_at es u)) None

-- a new step isn't final
and_none : (a : Bool) → (a && false) ≡ false
and_none true = refl
and_none false = refl

-- when a step became final that is created
abbrev created_end : {A : Type 0} → List (Entry A) → List ℕ → ℕ → List ℕ → List El → Option ℕ
created_end {A} es u moment step set = let r : Request A = Create step set in finished (state es u) moment r

pub final_create : {A : Type 0} (s : Settings) (e : Entry A) (es : List (Entry A)) (u step : List ℕ) (set : List El) → e.request ≡ Create step set → legal s es ≡ true → used es step ≡ false
    → final s (e ∷ es) u ≡ final s es u
final_create {A} s e es u step set is l fresh =
    ap (λ (r : Request A). final_then s es e u r) is
    ∙ ap (λ b. cond b (cond (bytes_eq step u) (option_or (created_end es u e.moment step set) (final_at es u)) (final_at es u)) None) (among_push u step (held s es))
    ∙ at (bytes_eq step u) refl
  where
    at : (b : Bool) → bytes_eq step u ≡ b → cond (b || is_held s es u) (cond b (option_or (created_end es u e.moment step set) (final_at es u)) (final_at es u)) None ≡ final s es u
    at true same =
        let unused : used es u ≡ false = ap (used es) (sym (same_text step u same)) ∙ fresh in
        ap (λ b. option_or (cond b (Some e.moment) None) (final_at es u)) (and_none (not (is_final (state es u))))
        ∙ never_final s es u l unused ∙ sym (ap (λ b. cond b (final_at es u) None) (not_held s es u unused))
    at false other = refl

-- a request on a step that is held: that step
pub final_on : {A : Type 0} (s : Settings) (e : Entry A) (es : List (Entry A)) (u v : List ℕ) → step_of e.request ≡ Some v → creates v e.request ≡ false → is_held s es v ≡ true
    → final s (e ∷ es) u ≡ cond (bytes_eq v u) (final_at (e ∷ es) v) (final s es u)
final_on {A} s e es u v is old here = same_held ∙ at (bytes_eq v u) refl
  where
    -- no step is created
    kept : (r : Request A) → step_of r ≡ Some v → creates v r ≡ false → is_among u (held_after s es e.moment (held s es) r) ≡ is_held s es u
    kept (Create step set) on none = let same : step ≡ v = cc in absurd (differ (bytes_eq step v) none (ap (λ x. bytes_eq x v) same ∙ text_is_itself v))
    kept (Change step state t) on none = refl
    kept (AskCancel step reasons) on none = refl
    kept (Set step t set) on none = refl
    kept r on none = absurd cc

    same_held : final s (e ∷ es) u ≡ cond (is_held s es u) (final_at (e ∷ es) u) None
    same_held = ap (λ b. cond b (final_at (e ∷ es) u) None) (kept e.request is old)

    at : (b : Bool) → bytes_eq v u ≡ b → cond (is_held s es u) (final_at (e ∷ es) u) None ≡ cond b (final_at (e ∷ es) v) (final s es u)
    at true same =
        let e1 : v ≡ u = same_text v u same in
        ap (λ x. cond (is_held s es x) (final_at (e ∷ es) x) None) (sym e1) ∙ ap (λ b. cond b (final_at (e ∷ es) v) None) here
    at false other =
        let off : is_on u e.request ≡ false = ap (is_step u) is ∙ other in
        ap (λ b. cond (is_held s es u) (cond b (option_or (finished (state es u) e.moment e.request) (final_at es u)) (final_at es u)) None) off

-- a sweep: the steps that it removes
pub final_sweep : {A : Type 0} (s : Settings) (e : Entry A) (es : List (Entry A)) (u : List ℕ) → e.request ≡ Sweep
    → final s (e ∷ es) u ≡ cond (is_among u (removed s es e.moment)) None (final s es u)
final_sweep {A} s e es u is =
    ap (λ (r : Request A). final_then s es e u r) is
    ∙ ap (λ b. cond b (final_at es u) None) (among_filter (λ v. not (is_due s es e.moment v)) u (held s es))
    ∙ at (is_held s es u) (is_due s es e.moment u)
    ∙ ap (λ b. cond b None (final s es u)) (sym (among_filter (is_due s es e.moment) u (held s es)))
  where
    at : (here due : Bool) → cond (here && not due) (final_at es u) None ≡ cond (here && due) None (cond here (final_at es u) None)
    at true true = refl
    at true false = refl
    at false due = refl

-- a request for a watcher, an acknowledgement, and the reservation of a UID: no step
pub final_same : {A : Type 0} (s : Settings) (e : Entry A) (es : List (Entry A)) (u : List ℕ) → is_of_no_step e.request ≡ true → final s (e ∷ es) u ≡ final s es u
final_same {A} s e es u none = at e.request none
  where
    at : (r : Request A) → is_of_no_step r ≡ true → final_then s es e u r ≡ final s es u
    at (Subscribe target receiver lock) h = refl
    at (Unsubscribe place receiver) h = refl
    at (Suspend receiver) h = refl
    at (Ack upto) h = refl
    at (Reserve step) h = refl
    at r h = absurd cc
