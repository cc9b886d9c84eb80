use Rattle.std.proofs.Common.{sym, ap, ◌∙◌}
use Rattle.std.proofs.lemmas.List.Folds.{list_any_at}
use Rattle.std.specs.Str.{bytes_eq}
use Rattle.ups_life.proofs.Texts.{text_is_itself}
use Rattle.ups_tables.specs.Fit.{freed_if}
use Rattle.ups_tables.proofs.Frees.{found_none, found_next}
use Rattle.ups_tables.proofs.freeing.freed_steps.Goals as goal

pub freed_since-since-requires-clause-here : goal.freed_since-since-requires-clause-here
freed_since-since-requires-clause-here g c =
    let u = c.step-item.result in
    c.requires.here u (list_any_at (λ v. bytes_eq v u) c.args.steps.now c.loop-step.step-index u c.loop-step-test.true (ap (λ v. bytes_eq v u) (sym c.step-item.is) ∙ text_is_itself u))

pub loop-step-init : goal.loop-step-init
loop-step-init g c = found_none (freed_if c.args.tables.now c.args.peer c.args.subscription) c.new-found.result.items c.new-found.ensures.items

pub loop-step-preserved : goal.loop-step-preserved
loop-step-preserved g c = found_next (freed_if c.args.tables.now c.args.peer c.args.subscription) c.args.steps.now c.loop-step.step-index c.step-item.result c.freed_since-since.result c.loop-step.found.items c.add_since.new.found.items
    c.requires.once c.loop-step-test.true c.step-item.is c.freed_since-since.ensures c.loop-step.invariant c.in_ok-add_since.ensures
