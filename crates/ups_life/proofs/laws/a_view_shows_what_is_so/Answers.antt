use Rattle.ups_life.proofs.Viewing.{view_is_so, watched_views}
use Rattle.ups_life.proofs.laws.a_view_shows_what_is_so.Goals as goal

pub returns-clause-one : goal.returns-clause-one
returns-clause-one g c = view_is_so

pub returns-clause-each : goal.returns-clause-each
returns-clause-each g c = watched_views
