use Rattle.ups_dimse.proofs.Unique.{one_command}
use Rattle.ups_dimse.proofs.reading.command_is_unique.Goals as goal

pub returns : goal.returns
returns g c = λ bytes x y p q. one_command bytes x y p q
