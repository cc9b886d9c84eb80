use Rattle.ups_dimse.proofs.Failing.{one_fault}
use Rattle.ups_dimse.proofs.reading.fault_is_unique.Goals as goal

pub returns : goal.returns
returns g c = λ bytes f h p q. one_fault bytes f h p q
