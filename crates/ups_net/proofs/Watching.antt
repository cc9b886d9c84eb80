-- A pass that looks at the history and sweeps.
use Rattle.std.proofs.Common.{◌≡◌, ℕ, suc, Bool, true, false, nat_lt, List, [], ◌∷◌, ◌++◌, refl, sym, ap, ◌∙◌, subst, arith}
use Rattle.std.specs.Prelude.{All, MatchBool, MatchOption, Option, Some, None}
use Rattle.std.proofs.lemmas.List.{append_assoc, append-nil}
use Rattle.std.proofs.lemmas.List.Elements.{All-nil, All-append}
use Rattle.ups_life.specs.declared.entry.Entry.{Entry}
use Rattle.ups_life.specs.declared.request.Ask.{Ask}
use Rattle.ups_life.specs.declared.request.Reply.{Reply}
use Rattle.ups_service.specs.Law.{entered}
use Rattle.ups_turn.specs.Pass.{PassView, most_calls, HasObserved, IsServed, IsSpent, IsCall}
use Rattle.ups_ledger.specs.Keeping.{HasWatched}
use Rattle.ups_net.specs.Sweeping.{LooksIfKept, Sweeps, SweepsOnce}
use Rattle.ups_net.specs.Working.{seen_last}

module _ {A : Type 0} where
  -- nothing was seen
  pub watched_same : (p : PassView A) → HasWatched p p
  watched_same p = record { same = (refl, refl, refl); calls = omega arith; between = []; others = All-nil (λ (e : Entry A). ¬ (e.caller ≡ p.number)); seen = sym (append-nil p.seen) }

  -- one look after another
  pub watched_on : (a b c : PassView A) → HasWatched a b → HasWatched b c → HasWatched a c
  watched_on a b c x y = record {
    same = (y.same.0 ∙ x.same.0, y.same.1 ∙ x.same.1, y.same.2 ∙ x.same.2);
    calls = omega (arith, x.calls, y.calls);
    between = x.between ++ y.between;
    others = All-append (λ (e : Entry A). ¬ (e.caller ≡ a.number)) x.between y.between x.others (subst (λ (n : ℕ). All (λ (e : Entry A). ¬ (e.caller ≡ n)) y.between) x.same.2 y.others);
    seen = y.seen ∙ (ap (λ (l : List (Entry A)). l ++ y.between) x.seen ∙ append_assoc a.seen x.between y.between);
  }

  -- a turn in which some of the work is done that no answer depends on, or none
  pub maintain_watched : (r : Option Bool) (old new : PassView A) → MatchOption r (new ≡ old) (λ (more : Bool). HasObserved old new) → HasWatched old new
  maintain_watched None old new is = subst (HasWatched old) (sym is) (watched_same old)
  maintain_watched (Some more) old new h = record { same = h.same; calls = let next = h.calls in omega (arith, next); between = h.between; others = h.others; seen = h.seen }

  pub looked_same : (keeps : Bool) (p : PassView A) → LooksIfKept keeps p p
  looked_same true p = watched_same p
  looked_same false p = refl

  -- what a pass has seen goes on with a call
  pub called_on : (old new : PassView A) (ae : List ℕ) (moment : ℕ) (ask : Ask A) (reply : Reply A) → IsCall old ae moment ask reply new → (more : List (Entry A)) × (new.seen ≡ old.seen ++ more)
  called_on old new ae moment ask reply = at (nat_lt old.calls most_calls)
    where
      at : (b : Bool) → MatchBool b (IsServed old ae moment ask reply new) (IsSpent old ask reply new) → (more : List (Entry A)) × (new.seen ≡ old.seen ++ more)
      at true s = (s.between ++ entered old.number ae moment ask reply, s.seen ∙ append_assoc old.seen s.between (entered old.number ae moment ask reply))
      at false s = ([], ap (λ (p : PassView A). p.seen) s.1 ∙ sym (append-nil old.seen))

  pub swept_on : (ae : List ℕ) (old new : PassView A) → SweepsOnce ae old new → (more : List (Entry A)) × (new.seen ≡ old.seen ++ more)
  swept_on ae old new once = called_on old new ae once.moment _ once.reply once.call

  -- one sweep more
  pub sweeps_more : (ae : List ℕ) (keeps : Bool) (n : ℕ) (old between looked swept new : PassView A) → Sweeps ae keeps n old between → LooksIfKept keeps between looked → SweepsOnce ae looked swept → HasWatched swept new → Sweeps ae keeps (suc n) old new
  sweeps_more ae keeps n old between looked swept new before looks once lets = (between, looked, swept, before, looks, once, lets)

  -- what the last pass has seen
  pub seen_behind : (front : List (PassView A)) (last : PassView A) → seen_last (front ++ last ∷ []) ≡ last.seen
  seen_behind [] last = refl
  seen_behind (p ∷ []) last = refl
  seen_behind (p ∷ q ∷ ps) last = seen_behind (q ∷ ps) last
