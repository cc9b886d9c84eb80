use Rattle.std.proofs.Common.{◌∙◌}
use Rattle.ups_lasting.proofs.surveying.survey_part.Goals as goal

pub returns-clause-entered : goal.returns-clause-entered
returns-clause-entered c = λ es written are. c.let_go.ensures.history ∙ c.in_ok-survey_all.ensures.entered es written are
