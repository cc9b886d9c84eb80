use Rattle.ups_life.proofs.Receiving.{received_shows}
use Rattle.ups_life.proofs.laws.what_is_received_and_pending_shows_all.Goals as goal

pub returns : goal.returns
returns g c = received_shows
