use Rattle.ups_assoc.proofs.Pieces.{whole_again}
use Rattle.ups_assoc.proofs.cutting.a_cut_message_is_whole_again.Goals as goal

pub returns : goal.returns
returns g c = whole_again g.row.A.Denot
