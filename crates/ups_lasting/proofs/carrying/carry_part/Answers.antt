use Rattle.std.proofs.Common.{ap, ◌∙◌}
use Rattle.ups_life.specs.Steps.{past}
use Rattle.ups_lasting.proofs.carrying.carry_part.Goals as goal

pub returns-clause-carried : goal.returns-clause-carried
returns-clause-carried c = λ front es written are ok was. ap past c.let_go.ensures.history ∙ c.in_ok-carry_all.ensures.carried front es written are ok was
