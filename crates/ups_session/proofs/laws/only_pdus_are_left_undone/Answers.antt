use Rattle.ups_session.proofs.Between.{undone}
use Rattle.ups_session.proofs.laws.only_pdus_are_left_undone.Goals as goal

pub returns : goal.returns
returns g c = undone
