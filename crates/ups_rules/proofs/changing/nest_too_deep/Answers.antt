use Rattle.std.proofs.Common.{◌∙◌}
use Rattle.ups_rules.proofs.Cancels.{any_deep}
use Rattle.ups_rules.proofs.changing.nest_too_deep.Goals as goal

pub returns : goal.returns
returns g c = c.has_deep_reason.ensures ∙ any_deep c.elements.result.now c.args.reasons.now c.elements.ensures
