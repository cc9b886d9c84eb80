use Rattle.ups_session.proofs.Telling.{timed}
use Rattle.ups_session.proofs.environment.BorrowedEnvironmentEnvironment.answer.Goals as goal

pub answer-requires-clause-timed : goal.answer-requires-clause-timed
answer-requires-clause-timed g c = timed _ _ _ c.now-moment.ensures.tells
