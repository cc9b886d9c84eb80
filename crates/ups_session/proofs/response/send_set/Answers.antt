use Rattle.ups_session.proofs.Spoken.{says_lost}
use Rattle.ups_session.proofs.response.send_set.Goals as goal

pub returns-then-size-from : goal.returns-then-size-from
returns-then-size-from g c = says_lost _ _ _
