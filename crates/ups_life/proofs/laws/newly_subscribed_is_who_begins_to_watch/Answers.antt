use Rattle.ups_life.proofs.Newly.{newly_are_subscribed, subscribed_is_newly}
use Rattle.ups_life.proofs.laws.newly_subscribed_is_who_begins_to_watch.Goals as goal

pub returns-clause-each : goal.returns-clause-each
returns-clause-each g c = newly_are_subscribed

pub returns-clause-all : goal.returns-clause-all
returns-clause-all g c = subscribed_is_newly
