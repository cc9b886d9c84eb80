-- Each pass of a server stays at its desk, whatever its job.
use Rattle.std.proofs.Common.{◌≡◌, ℕ, zero, suc, Bool, true, false, nat_lt, List, [], ◌∷◌, ◌++◌, sym, ap, ◌∙◌, subst, inl, inr, is_some, Some, None}
use Rattle.std.specs.Prelude.{All, MatchBool, length}
use Rattle.std.proofs.lemmas.List.Elements.{All-nil, All-cons, All-head, All-tail, All-append}
use Rattle.atomic_table.specs.Seated.{TableId}
use Rattle.ups_assoc.specs.declared.negotiating.Config.{Config}
use Rattle.ups_life.specs.declared.request.Ask.{Ask}
use Rattle.ups_life.specs.declared.request.Reply.{Reply}
use Rattle.ups_life.specs.Events.{pending}
use Rattle.ups_life.specs.Steps.{past}
use Rattle.ups_peers.specs.declared.limits.ServerLimits.{ServerLimits}
use Rattle.ups_peers.specs.declared.watcher.Watcher.{Watcher}
use Rattle.ups_peers.specs.Limits.{excess}
use Rattle.ups_turn.specs.Pass.{PassView, most_calls, HasObserved, IsServed, IsSpent, IsCall}
use Rattle.ups_net.specs.Delivering.{FindsPending, Visits, DeliversTo, DeliversToAll, DeliversRounds}
use Rattle.ups_net.specs.GivingUp.{CountsExcess, GivesUp, KeepsWithin}
use Rattle.ups_net.specs.Sweeping.{LooksIfKept, Sweeps}
use Rattle.ups_net.specs.Working.{Works, EndThreads, Ran}
use Rattle.ups_net.specs.declared.options.ServerOptions.{ServerOptions}
use Rattle.ups_net.proofs.Served.{stays}

module _ {A : Type 0} where
  called : (old new : PassView A) (ae : List ℕ) (moment : ℕ) (ask : Ask A) (reply : Reply A) → IsCall old ae moment ask reply new → new.table ≡ old.table
  called old new ae moment ask reply = at (nat_lt old.calls most_calls)
    where
      at : (b : Bool) → MatchBool b (IsServed old ae moment ask reply new) (IsSpent old ask reply new) → new.table ≡ old.table
      at true s = s.same.0
      at false s = ap (λ (p : PassView A). p.table) s.1

  looked : (keeps : Bool) (old new : PassView A) → LooksIfKept keeps old new → new.table ≡ old.table
  looked true old new watched = watched.same.0
  looked false old new is = ap (λ (p : PassView A). p.table) is

  swept : (ae : List ℕ) (keeps : Bool) (n : ℕ) (old new : PassView A) → Sweeps ae keeps n old new → new.table ≡ old.table
  swept ae keeps zero old new is = ap (λ (p : PassView A). p.table) is
  swept ae keeps (suc n) old new (between, mid, last, before, looks, once, lets) = lets.same.0 ∙ (called mid last ae once.moment _ once.reply once.call ∙ (looked keeps between mid looks ∙ swept ae keeps n old between before))

  found_out : (ae : List ℕ) (old new : PassView A) (found : Bool) → FindsPending ae old found new → new.table ≡ old.table
  found_out ae old new found = at (nat_lt old.calls most_calls)
    where
      at : (b : Bool) → MatchBool b (HasObserved old new × (found ≡ nat_lt 0 (length (pending new.settings (past new.seen) ae)))) ((found ≡ false) × (new ≡ old)) → new.table ≡ old.table
      at true s = s.0.same.0
      at false s = ap (λ (p : PassView A). p.table) s.1

  counted_excess : (limit : ℕ) (watcher : Watcher) (old new : PassView A) (beyond : ℕ) → CountsExcess limit watcher old beyond new → new.table ≡ old.table
  counted_excess limit watcher old new beyond = at (nat_lt old.calls most_calls)
    where
      at : (b : Bool) → MatchBool b (HasObserved old new × (beyond ≡ excess (is_some watcher.address) limit (length (pending new.settings (past new.seen) watcher.ae)))) ((beyond ≡ 0) × (new ≡ old)) → new.table ≡ old.table
      at true s = s.0.same.0
      at false s = ap (λ (p : PassView A). p.table) s.1

  given_up : (ae : List ℕ) (most : ℕ) (old new : PassView A) → GivesUp ae most old new → new.table ≡ old.table
  given_up ae most old new (asked, None, asks, is) = ap (λ (p : PassView A). p.table) is ∙ called old asked ae asks.moment _ asks.reply asks.call
  given_up ae most old new (asked, Some upto, asks, acks) = called asked new ae acks.moment _ acks.reply acks.call ∙ called old asked ae asks.moment _ asks.reply asks.call

  kept_within : (limit : ℕ) (watcher : Watcher) (old new : PassView A) → KeepsWithin limit watcher old new → new.table ≡ old.table
  kept_within limit watcher old new (counted, beyond, counts, inl is) = ap (λ (p : PassView A). p.table) is ∙ counted_excess limit watcher old counted beyond counts
  kept_within limit watcher old new (counted, beyond, counts, inr (most, some, few, gives)) = given_up watcher.ae most counted new gives ∙ counted_excess limit watcher old counted beyond counts

  visited : (config : Config) (turns : ℕ) (watcher : Watcher) (old new : PassView A) → Visits config turns watcher old new → new.table ≡ old.table
  visited config turns watcher old new (between, found, finds, inl is) = ap (λ (p : PassView A). p.table) is ∙ found_out watcher.ae old between found finds
  visited config turns watcher old new (between, found, finds, inr (some, there, ended, d)) = d.same.0 ∙ found_out watcher.ae old between found finds

  told : (config : Config) (limits : ServerLimits) (watcher : Watcher) (old new : PassView A) → DeliversTo config limits watcher old new → new.table ≡ old.table
  told config limits watcher old new (kept, inl is, visits) = visited config limits.turns watcher kept new visits ∙ ap (λ (p : PassView A). p.table) is
  told config limits watcher old new (kept, inr keeps, visits) = visited config limits.turns watcher kept new visits ∙ kept_within limits.waiting watcher old kept keeps

  told_all : (config : Config) (limits : ServerLimits) (ws : List Watcher) (old new : PassView A) → DeliversToAll config limits ws old new → new.table ≡ old.table
  told_all config limits [] old new is = ap (λ (p : PassView A). p.table) is
  told_all config limits (w ∷ ws) old new (between, one, more) = told_all config limits ws between new more ∙ told config limits w old between one

  told_rounds : (config : Config) (limits : ServerLimits) (ws : List Watcher) (n : ℕ) (old new : PassView A) → DeliversRounds config limits ws n old new → new.table ≡ old.table
  told_rounds config limits ws zero old new is = ap (λ (p : PassView A). p.table) is
  told_rounds config limits ws (suc n) old new (between, before, last) = told_all config limits ws between new last ∙ told_rounds config limits ws n old between before

  works_here : (options : ServerOptions) (b : Bool) (old new : PassView A) → Works options b old new → new.table ≡ old.table
  works_here options true old new w = stays options.config options.limits.turns options.associations old new w
  works_here options false old new w = told_rounds options.config options.limits options.watchers.items options.rounds old new w

  each_here : (options : ServerOptions) (table : TableId) (olds news : List (PassView A)) → EndThreads options true olds news → All (λ (p : PassView A). p.table ≡ table) olds → All (λ (p : PassView A). p.table ≡ table) news
  each_here options table [] [] e h = h
  each_here options table [] (new ∷ news) e h = absurd e
  each_here options table (old ∷ olds) [] e h = absurd e
  each_here options table (old ∷ olds) (new ∷ news) e h =
      All-cons (λ (p : PassView A). p.table ≡ table) new news (works_here options _ old new e.0 ∙ All-head (λ (p : PassView A). p.table ≡ table) old olds h)
      (each_here options table olds news e.1 (All-tail (λ (p : PassView A). p.table ≡ table) old olds h))

  first_ones : (P : PassView A → Type 0) (xs ys : List (PassView A)) → All P (xs ++ ys) → All P xs × All P ys
  first_ones P [] ys h = (All-nil P, h)
  first_ones P (x ∷ xs) ys h = let r = first_ones P xs ys (All-tail P x (xs ++ ys) h) in (All-cons P x xs (All-head P x (xs ++ ys) h) r.0, r.1)

  pub ran_here : (options : ServerOptions) (table : TableId) (keeps begun : Bool) (olds news : List (PassView A)) → Ran options keeps begun olds news → All (λ (p : PassView A). p.table ≡ table) olds → All (λ (p : PassView A). p.table ≡ table) news
  ran_here options table keeps true olds news w h =
      let P : PassView A → Type 0 = λ (p : PassView A). p.table ≡ table in
      let (front, back) = first_ones P w.front (w.sweeper ∷ []) (subst (All P) w.before h) in
      let last = swept options.config.ae keeps options.rounds w.sweeper w.swept w.sweeps ∙ All-head P w.sweeper [] back in
      subst (All P) (sym w.after) (All-append P w.worked (w.swept ∷ []) (each_here options table w.front w.worked w.each front) (All-cons P w.swept [] last (All-nil P)))
  ran_here options table keeps false olds news is h = subst (All (λ (p : PassView A). p.table ≡ table)) (sym is) h
