use Rattle.ups_store.specs.Shown.{shown_by}
use Rattle.ups_start.proofs.terms.look.Goals as goal

pub returns : goal.returns
returns g c = λ fixed. (shown_by c.in_ok-replay.replay, c.in_ok-replay.ensures.found, c.check_terms.new.replay, c.in_ok-check_terms.ensures.permits fixed)
