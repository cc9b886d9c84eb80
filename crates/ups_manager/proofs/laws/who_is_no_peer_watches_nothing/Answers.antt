use Rattle.ups_manager.proofs.Outsiders.{watches_nothing, is_told_nothing}
use Rattle.ups_manager.proofs.laws.who_is_no_peer_watches_nothing.Goals as goal

pub returns-clause-watched : goal.returns-clause-watched
returns-clause-watched g c = watches_nothing

pub returns-clause-events : goal.returns-clause-events
returns-clause-events g c = is_told_nothing
