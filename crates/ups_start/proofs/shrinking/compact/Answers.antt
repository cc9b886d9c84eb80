use Rattle.ups_store.specs.Shown.{shown_by}
use Rattle.ups_start.proofs.shrinking.compact.Goals as goal

pub returns-clause-compacted : goal.returns-clause-compacted
returns-clause-compacted g c = (c.in_ok-shrunk.shrunk.store, λ clean. (c.in_ok-shrunk.ensures.compacted clean, c.in_ok-shrunk.ensures.kept clean))

pub returns-clause-permits : goal.returns-clause-permits
returns-clause-permits g c = (shown_by c.in_ok-replay.replay, c.in_ok-replay.ensures.found, c.in_ok-shrunk.shrunk.store, c.in_ok-shrunk.ensures.permits)
