use Rattle.ups_service.proofs.Legality.{lacking_enters_nothing}
use Rattle.ups_service.proofs.laws.want_of_memory_enters_nothing.Goals as goal

pub returns : goal.returns
returns g c = lacking_enters_nothing
