use Rattle.std.proofs.Common.{sym, ◌∙◌, ap, arith}
use Rattle.std.specs.Option.{option_map}
use Rattle.ups_match.specs.Class.{first_view}
use Rattle.ups_index.specs.Slots.{seen_step}
use Rattle.ups_index.proofs.Placed.{visit_empty, visit_here}
use Rattle.ups_index.proofs.slots.visit.Goals as goal

pub returns-in_ok-add_step-in-Some-clause-found : goal.returns-in_ok-add_step-in-Some-clause-found
returns-in_ok-add_step-in-Some-clause-found g c =
    visit_here (first_view c.args.first.now) c.args.slots.now.slots c.args.next c.args.place (seen_step c.in-Some.indexed.now) c.args.steps.now.items c.add_step.new.steps.items c.requires.found c.requires.none (omega arith)
    (sym c.get.ensures ∙ ap (option_map (λ x. seen_step x.now)) c.in-Some.is) c.in_ok-add_step-in-Some.ensures

pub returns-in-None-clause-found : goal.returns-in-None-clause-found
returns-in-None-clause-found g c =
    visit_empty (first_view c.args.first.now) c.args.slots.now.slots c.args.next c.args.place c.args.steps.now.items c.requires.found c.requires.none (omega arith) (sym c.get.ensures ∙ ap (option_map (λ x. seen_step x.now)) c.in-None.is)
