use Rattle.std.proofs.Common.{rules, ◌≡◌, ◌++◌, ◌∷◌, [], All, map, refl, sym, ap, ◌∙◌, subst}
use Rattle.std.proofs.lemmas.List.{append_assoc, append-nil}
use Rattle.std.proofs.lemmas.List.Elements.{All-head, All-tail}
use Rattle.std.specs.Vec.Iter.{into_iter_items}
use Rattle.ups_net.specs.Working.{EndsThread, EndThreads}
use Rattle.ups_net.proofs.Ending.{none_left}
use Rattle.ups_net.proofs.workers.join_all.Goals as goal

pub loop-handle-init : goal.loop-handle-init
loop-handle-init g c = record {
  room = search rules;
  capacity = refl;
  lock = search rules;
  ends = λ options all. ([], sym (append-nil c.args.passes.now.items), search rules, λ more h. search rules);
}

pub loop-handle-preserved : goal.loop-handle-preserved
loop-handle-preserved g c =
    let steps = c.in-Some.ensures.steps in
    let h = c.in-Some.handle in
    let was = c.loop-handle.invariant in
    let locked : All (λ h. h.promise.start.value.id ≡ c.args.token.now.of) (h ∷ into_iter_items c.next.new.self) = subst (All (λ h. h.promise.start.value.id ≡ c.args.token.now.of)) steps.0 was.lock in
    record {
      room = search rules;
      capacity = search rules;
      lock = All-tail (λ h. h.promise.start.value.id ≡ c.args.token.now.of) h (into_iter_items c.next.new.self) locked;
      ends = λ options all.
          let e = was.ends options all in
          let left : All (λ h. h.promise.options.value ≡ options) (h ∷ into_iter_items c.next.new.self) = subst (All (λ h. h.promise.options.value ≡ options)) steps.0 e.2 in
          let own : EndsThread options c.args.token.now.value h.promise.pass.value c.join-pass.result.0 =
          subst (λ o. EndsThread o c.args.token.now.value h.promise.pass.value c.join-pass.result.0) (All-head (λ h. h.promise.options.value ≡ options) h (into_iter_items c.next.new.self) left)
          (subst (λ b. EndsThread h.promise.options.value b h.promise.pass.value c.join-pass.result.0) (sym c.agrees.ensures) c.join-pass.ensures.1) in (
            e.0 ++ c.join-pass.result.0 ∷ [],
            c.push_reserved.ensures.items ∙ (ap (λ l. l ++ c.join-pass.result.0 ∷ []) e.1 ∙ append_assoc c.args.passes.now.items e.0 (c.join-pass.result.0 ∷ [])),
            All-tail (λ h. h.promise.options.value ≡ options) h (into_iter_items c.next.new.self) left,
            λ more k. subst (λ l. EndThreads options c.args.token.now.value (map (λ h. h.promise.pass.value) c.args.handles.items) l) (sym (append_assoc e.0 (c.join-pass.result.0 ∷ []) more))
                (e.3 (c.join-pass.result.0 ∷ more) (subst (λ l. EndThreads options c.args.token.now.value (map (λ h. h.promise.pass.value) l) (c.join-pass.result.0 ∷ more)) (sym steps.0) (own, k))),
          );
    }

pub returns-clause-ends : goal.returns-clause-ends
returns-clause-ends g c = λ options all.
    let e = c.loop-handle.invariant.ends options all in
    let none : into_iter_items c.loop-handle.handle-iterator ≡ [] = none_left c.loop-handle.handle-iterator c.in-None.ensures.steps.0 in (
      e.0,
      e.1,
      subst (λ l. EndThreads options c.args.token.now.value (map (λ h. h.promise.pass.value) c.args.handles.items) l) (append-nil e.0)
          (e.3 [] (subst (λ l. EndThreads options c.args.token.now.value (map (λ h. h.promise.pass.value) l) []) (sym none) tt)),
    )
