use Rattle.std.proofs.Common.{ap, refl, ◌∙◌}
use Rattle.ups_life.specs.Settings.{Settings}
use Rattle.ups_life.specs.Steps.{past}
use Rattle.ups_compact.specs.Compacting.{steps_needed}
use Rattle.ups_lasting.proofs.carrying.begin_sorting.Goals as goal

pub returns : goal.returns
returns g c = record {
  sorting = λ s content i. (i, c.new.ensures ∙ (c.in-Ok.ensures.needed ∙ ap (λ (x : Settings). steps_needed x (past c.args.whole.history)) i.settings));
  same = refl;
}
