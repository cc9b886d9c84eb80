use Rattle.std.proofs.Common.{sym, ap, ◌∙◌}
use Rattle.ups_keep.specs.Due.{DueView, due_until}
use Rattle.ups_keep.proofs.Dues.{none_up_to}
use Rattle.ups_keep.proofs.due.Due.is_any.Goals as goal

pub returns-clause-none : goal.returns-clause-none
returns-clause-none g c = λ h. ap (λ (d : DueView). due_until c.args.moment d.steps) (sym c.self.view_is) ∙ none_up_to c.args.moment c.self.inside.steps.items c.self.invariant (sym c.is_any.ensures ∙ h)
