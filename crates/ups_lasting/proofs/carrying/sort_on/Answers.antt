use Rattle.std.proofs.Common.{refl, ◌∙◌}
use Rattle.ups_lasting.proofs.carrying.sort_on.Goals as goal

pub returns-in-Ok : goal.returns-in-Ok
returns-in-Ok g c = record { sorting = λ s content i. (i.0, c.in-Ok.ensures ∙ i.1); same = refl }
