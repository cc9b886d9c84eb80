-- A final state stays, and a moment of its end is known of a step only where its state is final.
use Rattle.std.proofs.Common.{◌≡◌, ℕ, Bool, true, false, not, ◌&&◌, cond, List, [], ◌∷◌, Option, None, Some, refl, sym, ap, ◌∙◌}
use Rattle.std.specs.Prelude.{is_some}
use Rattle.std.specs.Option.{option_or}
use Rattle.ups_life.specs.declared.entry.Entry.{Entry}
use Rattle.ups_life.specs.declared.request.Request.{Request}
use Rattle.ups_life.specs.declared.request.Request.TheVariants.{Create, Change, AskCancel, Set}
use Rattle.ups_life.specs.declared.request.Transaction.{Transaction}
use Rattle.ups_life.specs.declared.row.Row.{Row}
use Rattle.ups_cycle.specs.declared.state.StepState.{StepState}
use Rattle.ups_cycle.specs.declared.state.StepState.TheVariants.{Scheduled, InProgress, Completed, Canceled}
use Rattle.ups_cycle.specs.declared.status.Status.TheVariants.{Success, WrongTransactionUid}
use Rattle.ups_life.specs.Settings.{Settings}
use Rattle.ups_cycle.specs.States.{is_final}
use Rattle.ups_cycle.specs.Cycle.{claim_status, complete_status, discontinue_status, wrong_status}
use Rattle.ups_life.specs.Verdict.{is_right, is_proper, is_performed, is_discontinued, change_status}
use Rattle.ups_life.specs.Steps.{is_on, uses_uid, used, canceled, state_then, state, final_at, row_of}
use Rattle.ups_life.specs.Watching.{is_held}
use Rattle.ups_life.specs.History.{legal}
use Rattle.ups_life.proofs.Texts.{same_text}
use Rattle.ups_life.proofs.Accepted.{said, succeeded, legal_tail, created_fresh, was_held, neither}
use Rattle.ups_life.proofs.HeldOnce.{creates_none}
use Rattle.ups_life.proofs.OneHolder.{not_on}

-- what was never created is SCHEDULED
new_is_scheduled : {A : Type 0} (s : Settings) (es : List (Entry A)) (u : List ℕ) → legal s es ≡ true → used es u ≡ false → state es u ≡ Scheduled
new_is_scheduled s [] u h unused = refl
new_is_scheduled s (e ∷ es) u h unused =
    let none = neither (uses_uid u e.request) (used es u) unused in
    ap (λ on. cond on (state_then (state es u) e.request) (state es u)) (not_on s es u e.request (succeeded s e es h) none.1 (creates_none u e.request none.0))
    ∙ new_is_scheduled s es u (legal_tail s e es h) none.1

scheduled_is_open : (now : StepState) → now ≡ Scheduled → is_final now ≡ true → ⊥
scheduled_is_open Scheduled is f = absurd cc
scheduled_is_open now is f = absurd cc

-- a cancel request changes no final state
canceled_so : (now : StepState) → is_final now ≡ true → canceled now ≡ now
canceled_so Scheduled f = absurd cc
canceled_so InProgress f = refl
canceled_so Completed f = refl
canceled_so Canceled f = refl

claim_refused : (proper : Bool) (now : StepState) → is_final now ≡ true → cond proper (claim_status now) WrongTransactionUid ≡ Success → ⊥
claim_refused true Scheduled f e = absurd cc
claim_refused true now f e = absurd cc
claim_refused false now f e = absurd cc

complete_refused : (right performed proper : Bool) (now : StepState) → is_final now ≡ true → cond right (complete_status performed now) (wrong_status proper now) ≡ Success → ⊥
complete_refused true performed proper Scheduled f e = absurd cc
complete_refused true performed proper InProgress f e = absurd cc
complete_refused true performed proper Completed f e = absurd cc
complete_refused true performed proper Canceled f e = absurd cc
complete_refused false performed proper Scheduled f e = absurd cc
complete_refused false performed proper now f e = absurd cc

discontinue_refused : (right discontinued proper : Bool) (now : StepState) → is_final now ≡ true → cond right (discontinue_status discontinued now) (wrong_status proper now) ≡ Success → ⊥
discontinue_refused true discontinued proper Scheduled f e = absurd cc
discontinue_refused true discontinued proper InProgress f e = absurd cc
discontinue_refused true discontinued proper Completed f e = absurd cc
discontinue_refused true discontinued proper Canceled f e = absurd cc
discontinue_refused false discontinued proper Scheduled f e = absurd cc
discontinue_refused false discontinued proper now f e = absurd cc

-- no change of a step is accepted whose state is final
change_refused : {A : Type 0} (r : Row A) (to : StepState) (t : Transaction) → is_final r.state ≡ true → change_status r to t ≡ Success → ⊥
change_refused r Scheduled t f e = absurd cc
change_refused r InProgress t f e = claim_refused (is_proper t) r.state f e
change_refused r Completed t f e = complete_refused (is_right r.transaction t) (is_performed r.attributes) (is_proper t) r.state f e
change_refused r Canceled t f e = discontinue_refused (is_right r.transaction t) (is_discontinued r.attributes) (is_proper t) r.state f e

-- no request that is accepted changes a final state
so_then : {A : Type 0} (s : Settings) (es : List (Entry A)) (u : List ℕ) (r : Request A) → said s es r ≡ Success → is_on u r ≡ true → (used es u ≡ false → state es u ≡ Scheduled) → is_final (state es u) ≡ true
    → state_then (state es u) r ≡ state es u
so_then s es u (Create step set) d on new f = absurd (scheduled_is_open (state es u) (new (ap (used es) (sym (same_text step u on)) ∙ created_fresh s es step set d)) f)
so_then s es u (Change None to t) d on new f = absurd cc
so_then s es u (Change (Some v) to t) d on new f =
    absurd (change_refused (row_of s es v) to t (ap (λ x. is_final (state es x)) (same_text v u on) ∙ f) (was_held (is_held s es v) (row_of s es v) (λ r. change_status r to t) d).1)
so_then s es u (AskCancel step reasons) d on new f = canceled_so (state es u) f
so_then s es u (Set step t set) d on new f = refl
so_then s es u r d on new f = absurd cc

-- a final state stays
pub final_stays : {A : Type 0} (s : Settings) (e : Entry A) (es : List (Entry A)) (u : List ℕ) → legal s (e ∷ es) ≡ true → is_final (state es u) ≡ true → state (e ∷ es) u ≡ state es u
final_stays s e es u h f = at (is_on u e.request) refl
  where
    at : (on : Bool) → is_on u e.request ≡ on → cond on (state_then (state es u) e.request) (state es u) ≡ state es u
    at true on = so_then s es u e.request (succeeded s e es h) on (new_is_scheduled s es u (legal_tail s e es h)) f
    at false on = refl

-- there is a moment of its end exactly where the state of a step is final
pub ended_is_final : {A : Type 0} (s : Settings) (es : List (Entry A)) (u : List ℕ) → legal s es ≡ true → is_some (final_at es u) ≡ is_final (state es u)
ended_is_final s [] u h = refl
ended_is_final s (e ∷ es) u h =
    here (is_on u e.request) e.moment (final_at es u) (state es u) (state_then (state es u) e.request) (λ f. ap is_final (final_stays s e es u h f) ∙ f) (ended_is_final s es u (legal_tail s e es h))
  where
    ended : (moment : ℕ) (was : Option ℕ) (before after : Bool) → (before ≡ true → after ≡ true) → is_some was ≡ before → is_some (option_or (cond (not before && after) (Some moment) None) was) ≡ after
    ended moment was true after stay is = is ∙ sym (stay refl)
    ended moment was false true stay is = refl
    ended moment was false false stay is = is

    here : (on : Bool) (moment : ℕ) (was : Option ℕ) (now next : StepState) → (is_final now ≡ true → is_final (cond on next now) ≡ true) → is_some was ≡ is_final now
        → is_some (cond on (option_or (cond (not (is_final now) && is_final next) (Some moment) None) was) was) ≡ is_final (cond on next now)
    here true moment was now next stay is = ended moment was (is_final now) (is_final next) stay is
    here false moment was now next stay is = is
