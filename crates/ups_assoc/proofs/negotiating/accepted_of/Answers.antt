use Rattle.std.proofs.Common.{ap, ◌∙◌}
use Rattle.std.specs.List.{flat_map}
use Rattle.std.specs.Option.{option_to_list}
use Rattle.std.proofs.lemmas.List.{take_all}
use Rattle.ups_pdu.specs.declared.associate.ProposedContext.{ProposedContext}
use Rattle.ups_assoc.specs.Contexts.{accepted}
use Rattle.ups_assoc.proofs.Going.{flat_map_next}
use Rattle.ups_assoc.proofs.negotiating.accepted_of.Goals as goal

pub loop-context-preserved : goal.loop-context-preserved
loop-context-preserved g c =
    flat_map_next (λ (x : ProposedContext g.row.A.Denot). option_to_list (accepted x)) c.args.proposed.now c.loop-context.context-index c.context-item.result (option_to_list c.accepted.result) c.loop-context.contexts.items c.put_accepted.new.contexts.items
    c.loop-context-test.true c.context-item.is (ap option_to_list c.accepted.ensures) c.loop-context.invariant c.in_ok-put_accepted.ensures

pub returns : goal.returns
returns g c =
    c.loop-context.invariant ∙ ap (flat_map (λ (x : ProposedContext g.row.A.Denot). option_to_list (accepted x))) (take_all c.loop-context.context-index c.args.proposed.now c.loop-context-test.false)
