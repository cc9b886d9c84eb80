use Rattle.std.proofs.Common.{refl, ap, map, ◌∙◌}
use Rattle.std.proofs.lemmas.List.{take_all}
use Rattle.ups_assoc.specs.declared.negotiating.AcceptedContext.{AcceptedContext}
use Rattle.ups_assoc.proofs.Going.{map_next}
use Rattle.ups_assoc.proofs.assembling.ids_of.Goals as goal

pub loop-context-preserved : goal.loop-context-preserved
loop-context-preserved g c =
    map_next (λ (x : AcceptedContext). x.id) c.args.contexts.now c.loop-context.context-index _ _ c.loop-context.ids.items c.push.new.self.items
    c.loop-context-test.true refl c.loop-context.invariant c.in_ok-push.ensures.items

pub returns : goal.returns
returns g c =
    c.loop-context.invariant ∙ ap (map (λ (x : AcceptedContext). x.id)) (take_all c.loop-context.context-index c.args.contexts.now c.loop-context-test.false)
