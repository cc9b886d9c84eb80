use Rattle.ups_compact.proofs.Needed.{needed_lose_nothing}
use Rattle.ups_compact.proofs.Shifted.{stands_compacted}
use Rattle.ups_compact.proofs.laws.with_the_steps_needed_nothing_is_lost.Goals as goal

pub returns : goal.returns
returns g c = record {
  needed = needed_lose_nothing;
  stands = stands_compacted;
}
