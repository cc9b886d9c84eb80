use Rattle.std.proofs.Common.{sym, ap, ◌∙◌}
use Rattle.ups_dataset.specs.View.{value_view}
use Rattle.ups_life.specs.Values.{one_item_says, has_item_with}
use Rattle.ups_rules.proofs.Items.{not_one}
use Rattle.ups_rules.proofs.values.has_item_with.Goals as goal

pub returns-in_default-value : goal.returns-in_default-value
returns-in_default-value g c =
    sym (ap (has_item_with c.args.tags.now) c.in-Some.ensures
    ∙ ap (λ v. one_item_says c.args.tags.now (value_view v)) c.in-Items.is
    ∙ not_one c.args.tags.now c.in-Items.items.items (λ e. c.if-len-eq1.false (c.len.ensures ∙ c.in-Items.items.ok.0 ∙ e)))
