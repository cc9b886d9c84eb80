use Rattle.ups_life.proofs.Newly.{newly_subscribed, newly_told, still_subscribed, not_subscribed, only_so_subscribed}
use Rattle.ups_life.proofs.laws.a_filter_follows_changes.Goals as goal

pub returns-clause-subscribed : goal.returns-clause-subscribed
returns-clause-subscribed g c = newly_subscribed

pub returns-clause-only : goal.returns-clause-only
returns-clause-only g c = only_so_subscribed

pub returns-clause-told : goal.returns-clause-told
returns-clause-told g c = newly_told

pub returns-clause-stays : goal.returns-clause-stays
returns-clause-stays g c = still_subscribed

pub returns-clause-not_again : goal.returns-clause-not_again
returns-clause-not_again g c = not_subscribed
