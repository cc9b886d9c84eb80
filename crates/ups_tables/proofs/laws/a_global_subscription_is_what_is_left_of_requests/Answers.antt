use Rattle.ups_tables.proofs.Living.{cover-global}
use Rattle.ups_tables.proofs.laws.a_global_subscription_is_what_is_left_of_requests.Goals as goal

pub returns : goal.returns
returns g c = cover-global
