use Rattle.ups_assoc.proofs.Shapes.{every_message}
use Rattle.ups_assoc.proofs.assembling.every_message_is_of_its_fragments.Goals as goal

pub returns : goal.returns
returns g c = every_message g.row.A.Denot
