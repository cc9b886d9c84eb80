-- Each call of a pass is one of a service whose calls are counted, and of two that claim a step both are the same.
use Rattle.std.proofs.Common.{◌≡◌, ℕ, Bool, true, false, nat_lt, List, Some, ap, subst}
use Rattle.std.specs.Prelude.{MatchBool}
use Rattle.ups_cycle.specs.declared.status.Status.TheVariants.{Success}
use Rattle.ups_life.specs.declared.entry.Entry.{Entry}
use Rattle.ups_life.specs.declared.request.Ask.{Ask}
use Rattle.ups_life.specs.declared.request.Ask.TheVariants.{Do}
use Rattle.ups_life.specs.declared.request.Reply.{Reply}
use Rattle.ups_life.specs.declared.request.Reply.TheVariants.{Status as Answered}
use Rattle.ups_life.specs.Settings.{Settings}
use Rattle.ups_life.specs.Steps.{past, holder}
use Rattle.ups_service.specs.Claiming.{claiming, HasClaimed}
use Rattle.ups_service.specs.Law.{callers, bounded, seen_so, is_legal, BeginsHistory, Grants, Refuses, Serves}
use Rattle.ups_service.proofs.OneClaim.{one_holder}
use Rattle.ups_turn.specs.Pass.{PassView, most_calls, seen_by, IsServed, IsSpent, IsCall}

module _ {A : Type 0} (old : PassView A) (ae : List ℕ) (moment : ℕ) (ask : Ask A) (reply : Reply A) (new : PassView A) where
  granted : IsServed old ae moment ask reply new → Grants old.settings callers old.number (seen_by old) ae moment ask reply (seen_by new)
  granted s = (s.between, s.others, s.legal, s.answers, λ i. seen_so (s.seen i) (bounded (s.calls i) most_calls))

  refused : IsSpent old ask reply new → Refuses (seen_by old) ask reply (seen_by new)
  refused s = (s.0, ap seen_by s.1)

  pub call_serves : IsCall old ae moment ask reply new → Serves old.settings callers old.number (seen_by old) ae moment ask reply (seen_by new)
  call_serves = at (nat_lt old.calls most_calls)
    where
      at : (b : Bool) → MatchBool b (IsServed old ae moment ask reply new) (IsSpent old ask reply new)
          → MatchBool b (Grants old.settings callers old.number (seen_by old) ae moment ask reply (seen_by new)) (Refuses (seen_by old) ask reply (seen_by new))
      at true s = granted s
      at false s = refused s

module _ {A : Type 0} (s : Settings) (u : List ℕ) where
  has_claimed : (old new : PassView A) (ae uid : List ℕ) (moment : ℕ) → old.settings ≡ s → IsCall old ae moment (Do (claiming u uid)) (Answered Success) new → HasClaimed s callers old.number ae moment u (seen_by new)
  has_claimed old new ae uid moment same called = record {
    uid = uid;
    seen = seen_by old;
    call = subst (λ (x : Settings). Serves x callers old.number (seen_by old) ae moment (Do (claiming u uid)) (Answered Success) (seen_by new)) same (call_serves old ae moment (Do (claiming u uid)) (Answered Success) new called);
  }

  pub one_pass : (history : List (Entry A)) (old1 new1 old2 new2 : PassView A) (ae1 ae2 uid1 uid2 : List ℕ) (m1 m2 : ℕ) → is_legal s history → old1.settings ≡ s → old2.settings ≡ s
      → IsCall old1 ae1 m1 (Do (claiming u uid1)) (Answered Success) new1 → IsCall old2 ae2 m2 (Do (claiming u uid2)) (Answered Success) new2 → BeginsHistory new1.seen history → BeginsHistory new2.seen history
      → (new1.seen ≡ new2.seen) × (old1.number ≡ old2.number) × (ae1 ≡ ae2) × (m1 ≡ m2) × (holder (past history) u ≡ Some (record { caller = old1.number; ae = ae1 }))
  one_pass history old1 new1 old2 new2 ae1 ae2 uid1 uid2 m1 m2 legal same1 same2 called1 called2 begins1 begins2 =
      one_holder s u history callers callers old1.number old2.number ae1 ae2 m1 m2 (seen_by new1) (seen_by new2) legal
      (has_claimed old1 new1 ae1 uid1 m1 same1 called1) (has_claimed old2 new2 ae2 uid2 m2 same2 called2) begins1 begins2
