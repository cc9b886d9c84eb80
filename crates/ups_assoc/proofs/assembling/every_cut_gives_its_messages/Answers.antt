use Rattle.ups_assoc.proofs.Cuts.{every_cut}
use Rattle.ups_assoc.proofs.assembling.every_cut_gives_its_messages.Goals as goal

pub returns : goal.returns
returns g c = every_cut g.row.A.Denot
