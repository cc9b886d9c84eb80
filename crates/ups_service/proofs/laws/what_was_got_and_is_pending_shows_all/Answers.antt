use Rattle.ups_service.proofs.Got.{got_shows}
use Rattle.ups_service.proofs.laws.what_was_got_and_is_pending_shows_all.Goals as goal

pub returns : goal.returns
returns g c = got_shows
