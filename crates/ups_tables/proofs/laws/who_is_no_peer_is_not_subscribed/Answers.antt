use Rattle.ups_tables.proofs.Outside.{no_global, no_live}
use Rattle.ups_tables.proofs.laws.who_is_no_peer_is_not_subscribed.Goals as goal

pub returns-clause-everywhere : goal.returns-clause-everywhere
returns-clause-everywhere g c = no_global

pub returns-clause-steps : goal.returns-clause-steps
returns-clause-steps g c = no_live
