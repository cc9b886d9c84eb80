use Rattle.ups_net.proofs.Watching.{maintain_watched}
use Rattle.ups_net.proofs.sweeping.maintain_once.Goals as goal

pub returns-clause-watched : goal.returns-clause-watched
returns-clause-watched g c = maintain_watched c.maintain-more.result _ _ c.maintain-more.ensures.pass

pub returns-clause-stays : goal.returns-clause-stays
returns-clause-stays g c = (maintain_watched c.maintain-more.result _ _ c.maintain-more.ensures.pass).same.0
