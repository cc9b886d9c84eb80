use Rattle.ups_compact.proofs.Lifted.{legal_lifted, stands_lifted}
use Rattle.ups_compact.proofs.laws.a_log_accepts_what_stands_for_it_accepts.Goals as goal

pub returns : goal.returns
returns g c = record {
  legal = legal_lifted;
  stands = stands_lifted;
}
