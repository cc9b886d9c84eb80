use Rattle.std.proofs.Common.{rules, ◌≡◌, ◌++◌, ◌∷◌, [], All, length, map, is_some, refl, sym, ap, ◌∙◌, subst}
use Rattle.ups_ledger.specs.Keeping.{KeepersGoOn}
use Rattle.ups_ledger.proofs.Leaving.{go_same}
use Rattle.ups_net.proofs.Watching.{seen_behind}
use Rattle.std.proofs.lemmas.List.{length-append, length-map, append-nil}
use Rattle.std.proofs.lemmas.List.Elements.{All-tail, All-push, All-same}
use Rattle.std.specs.Vec.Iter.{into_iter_items}
use Rattle.ups_net.specs.Working.{EndsThread, EndThreads, seen_last}
use Rattle.ups_net.proofs.Ending.{first_more, last_more, none_left, ran, ends_length, told_on, none_told, unless_off}
use mir.Syntax.{named}
use denote.Exit.{yes}
use denote.Param.{param}
use denote.Param.Send.{sendable, shr_send, param_send, arg_send}
use Rattle.std.below.core.specs.contracts.clone.Clone+copy.TheImpl as copies
use Rattle.std_heap.specs.contracts.Global as Heap
use Rattle.std_heap.specs.contracts.GlobalAllocator.TheImpl.{ghosts}
use Rattle.ups_turn.specs.contracts.desk.Desk as Desk
use Rattle.ups_turn.proofs.Crosses.{desk_crosses, desk_sync, pass_send}
use Rattle.ups_net.proofs.Crosses.{captures_send, state_lent, start_lent, options_lent, token_send}
use Rattle.ups_net.proofs.workers.fn.run_threads.scope.Goals as goal

pub loop-pass-preserved-then-is_some : goal.loop-pass-preserved-then-is_some
loop-pass-preserved-then-is_some g c =
    let was = c.loop-pass.invariant in
    let steps = c.in-Some.ensures.steps in
    let left = subst (All (λ p. p.table ≡ c.captures.desk.now.table)) steps.0 was.rest in
    let some = sym c.is_some.ensures ∙ c.if-is_some.true in
    record {
      count = search rules;
      places = search rules;
      spare = search rules;
      rest = All-tail (λ p. p.table ≡ c.captures.desk.now.table) c.in-Some.pass (into_iter_items c.next.new.self) left;
      lock = was.lock;
      options = was.options;
      all = subst (λ u. (map (λ h. h.promise.pass.value) c.loop-pass.handles.items ++ u) ++ into_iter_items c.next.new.self ≡ into_iter_items c.into_iter-pass-iterator.result) (sym c.push_reserved-then-is_some.ensures.items)
          (last_more (map (λ h. h.promise.pass.value) c.loop-pass.handles.items) c.in-Some.pass c.loop-pass.unbegun.items _ _ _ steps.0 was.all);
      told = told_on c.loop-pass.off _ _ _ some was.told;
    }

pub loop-pass-preserved-in-Ok-spawn_with : goal.loop-pass-preserved-in-Ok-spawn_with
loop-pass-preserved-in-Ok-spawn_with g c =
    let was = c.loop-pass.invariant in
    let steps = c.in-Some.ensures.steps in
    let left = subst (All (λ p. p.table ≡ c.captures.desk.now.table)) steps.0 was.rest in
    let h = c.in-Ok-spawn_with.handle in
    let is = c.in-Ok-spawn_with.ensures.ok in
    let none = none_told c.loop-pass.off _ _ (sym c.is_some.ensures ∙ c.if-is_some.false) was.told in
    let pass : h.promise.pass.value ≡ c.in-Some.pass = ap (λ q. q.pass.value) is ∙ c.of.ensures in
    let options : h.promise.options.value ≡ c.captures.options.now = ap (λ q. q.options.value) is ∙ c.of-in-loop-pass.ensures in
    let start : h.promise.start.value.id ≡ c.captures.start.now.id = ap (λ q. q.start.value.id) is ∙ ap (λ l. l.id) c.of-in-loop-pass-2.ensures in
    record {
      count = search rules;
      places = search rules;
      spare = search rules;
      rest = All-tail (λ p. p.table ≡ c.captures.desk.now.table) c.in-Some.pass (into_iter_items c.next.new.self) left;
      lock = All-same (λ h. h.promise.start.value.id ≡ c.captures.start.now.id) _ _ c.push_reserved-in-Ok-spawn_with.ensures.items (All-push (λ h. h.promise.start.value.id ≡ c.captures.start.now.id) c.loop-pass.handles.items h was.lock start);
      options = All-same (λ h. h.promise.options.value ≡ c.captures.options.now) _ _ c.push_reserved-in-Ok-spawn_with.ensures.items (All-push (λ h. h.promise.options.value ≡ c.captures.options.now) c.loop-pass.handles.items h was.options options);
      all = subst (λ l. (map (λ h. h.promise.pass.value) l ++ c.loop-pass.unbegun.items) ++ into_iter_items c.next.new.self ≡ into_iter_items c.into_iter-pass-iterator.result) (sym c.push_reserved-in-Ok-spawn_with.ensures.items)
          (first_more (λ h. h.promise.pass.value) c.loop-pass.handles.items h c.loop-pass.unbegun.items _ _ _ none (steps.0 ∙ ap (λ p. p ∷ into_iter_items c.next.new.self) (sym pass)) was.all);
      told = was.told;
    }

pub loop-pass-preserved : goal.loop-pass-preserved
loop-pass-preserved g c =
    let was = c.loop-pass.invariant in
    let steps = c.in-Some.ensures.steps in
    let left = subst (All (λ p. p.table ≡ c.captures.desk.now.table)) steps.0 was.rest in
    let same : c.spawn_with-pass.result.0 ≡ c.in-Some.pass =
    subst (λ b. EndsThread c.in-Err.refused.value.5.now b c.in-Err.refused.value.4 c.spawn_with-pass.result.0) (sym c.agrees.ensures ∙ c.tell-token.ensures.told) c.spawn_with-pass.ensures.ends ∙ ap (λ f. f.4) c.in-Err.ensures.err in
    record {
      count = search rules;
      places = search rules;
      spare = search rules;
      rest = All-tail (λ p. p.table ≡ c.captures.desk.now.table) c.in-Some.pass (into_iter_items c.next.new.self) left;
      lock = was.lock;
      options = was.options;
      all = subst (λ u. (map (λ h. h.promise.pass.value) c.loop-pass.handles.items ++ u) ++ into_iter_items c.next.new.self ≡ into_iter_items c.into_iter-pass-iterator.result) (sym c.push_reserved-in-Err.ensures.items)
          (last_more (map (λ h. h.promise.pass.value) c.loop-pass.handles.items) c.spawn_with-pass.result.0 c.loop-pass.unbegun.items _ _ _ (steps.0 ∙ ap (λ p. p ∷ into_iter_items c.next.new.self) (sym same)) was.all);
      told = (c.tell-token.ensures.lock, c.tell-token.ensures.told);
    }

pub put_back-requires-2 : goal.put_back-requires-2
put_back-requires-2 g c =
    let was = c.loop-pass.invariant in
    let (rest, is, ends) = c.join_all.ensures.ends c.captures.options.now was.options in
    let many = ends_length c.captures.options.now c.settle-token.result.value (map (λ h. h.promise.pass.value) c.loop-pass.handles.items) rest ends in
    let mapped = length-map c.loop-pass.handles.items (λ h. h.promise.pass.value) in
    let now = ap length is ∙ length-append c.captures.back.items rest in
    record { room = search rules }

pub push_reserved-requires-2 : goal.push_reserved-requires-2
push_reserved-requires-2 g c =
    let was = c.loop-pass.invariant in
    let (rest, is, ends) = c.join_all.ensures.ends c.captures.options.now was.options in
    let many = ends_length c.captures.options.now c.settle-token.result.value (map (λ h. h.promise.pass.value) c.loop-pass.handles.items) rest ends in
    let mapped = length-map c.loop-pass.handles.items (λ h. h.promise.pass.value) in
    let now = ap length is ∙ length-append c.captures.back.items rest in
    let then = ap length c.put_back-2.ensures.all ∙ length-append c.join_all.new.passes.items c.loop-pass.unbegun.items in
    search rules

pub returns : goal.returns
returns g c =
    let was = c.loop-pass.invariant in
    let none = none_left c.loop-pass.pass-iterator c.in-None.ensures.steps.0 in
    let gave : into_iter_items c.into_iter-pass-iterator.result ≡ c.captures.passes.items = search rules in
    let all = sym (append-nil _) ∙ (ap (λ l. (map (λ h. h.promise.pass.value) c.loop-pass.handles.items ++ c.loop-pass.unbegun.items) ++ l) (sym none) ∙ (was.all ∙ gave)) in
    let (rest, is, ends) = c.join_all.ensures.ends c.captures.options.now was.options in
    let begun = c.value-begun.ensures in
    let ended = subst (λ b. EndThreads c.captures.options.now b (map (λ h. h.promise.pass.value) c.loop-pass.handles.items) rest) (sym begun) ends in
    let back = c.push_reserved-2.ensures.items ∙ ap (λ l. l ++ c.sweep_begun-swept.result.0 ∷ []) (c.put_back-2.ensures.all ∙ ap (λ l. l ++ c.loop-pass.unbegun.items) (is ∙ ap (λ l. l ++ rest) c.requires.empty.0)) in
    record {
      ran = ran c.captures.options.now (is_some c.captures.keeper) c.value-begun.result.now (map (λ h. h.promise.pass.value) c.loop-pass.handles.items) c.loop-pass.unbegun.items rest c.captures.passes.items c.push_reserved-2.new.self.items c.captures.sweeper c.sweep_begun-swept.result.0
          all ended back (λ b. unless_off c.loop-pass.off (λ t. t.value) c.settle-token.result.value _ _ c.settle-token.ensures.told was.told (sym begun ∙ b)) c.sweep_begun-swept.ensures.sweeps;
      keeps = c.sweep_begun-swept.ensures.keeps;
      goes_on = subst (KeepersGoOn g.L.Ledger c.captures.keeper c.captures.sweeper.seen c.sweep_begun-swept.result.1) (sym (ap seen_last c.push_reserved-2.ensures.items ∙ seen_behind c.put_back-2.new.passes.items c.sweep_begun-swept.result.0)) c.sweep_begun-swept.ensures.goes_on;
    }

pub returns-in_default : goal.returns-in_default
returns-in_default g c = record {
  ran = c.push_reserved.ensures.items ∙ ap (λ l. l ++ c.captures.sweeper ∷ []) (c.put_back.ensures.all ∙ ap (λ l. l ++ c.captures.passes.items) c.requires.empty.0);
  keeps = refl;
  goes_on = subst (KeepersGoOn g.L.Ledger c.captures.keeper c.captures.sweeper.seen c.captures.keeper) (sym (ap seen_last c.push_reserved.ensures.items ∙ seen_behind c.put_back.new.passes.items c.captures.sweeper)) (go_same g.L.Ledger c.captures.keeper c.captures.sweeper.seen);
}

-- what is captured, in its order, each reference at its lifetime: by hand, since a search does not find it with a state over a
-- type parameter
pub spawn_with-requires-send-F : goal.spawn_with-requires-send-F
spawn_with-requires-send-F g l κs within =
    let rt = shr_send (named 6) κs.1.1.1.1.1.1.0 (param 3 g.row.R) l.requires.sync in
    let start = start_lent (named 7) κs.1.1.1.1.1.1.1.0 in
    let state = state_lent (param 1 g.row.K) g.K.Keeping.had (named 8) κs.1.1.1.1.1.1.1.1.0 in
    let desk = shr_send (named 9) κs.1.1.1.1.1.1.1.1.1.0 (Desk.the_row (param 0 g.row.M) Heap.the_row g.M.SharedService ghosts (copies.ghosts Heap.the_row)) (desk_sync (param 0 g.row.M) g.M.SharedService (copies.ghosts Heap.the_row) l.requires.send) in
    let pass = pass_send (param 0 g.row.M) g.M.SharedService l.requires.send in
    let options = options_lent (named 10) κs.1.1.1.1.1.1.1.1.1.1.0 in
    param_send 2 _ (arg_send _ yes _ (captures_send _ (_ ∷ _ ∷ _ ∷ _ ∷ _ ∷ _ ∷ []) (rt, (start, (state, (desk, (pass, (options, tt))))))))

pub spawn_with-requires-send-T : goal.spawn_with-requires-send-T
spawn_with-requires-send-T g l κs within = search (sendable, desk_crosses, token_send) depth 30
