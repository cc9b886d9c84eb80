use Rattle.ups_compact.proofs.Lifted.{stands_itself, stands_through}
use Rattle.ups_compact.proofs.laws.what_stands_for_it_stands_for_its_log.Goals as goal

pub returns : goal.returns
returns g c = record {
  itself = stands_itself;
  through = stands_through;
}
