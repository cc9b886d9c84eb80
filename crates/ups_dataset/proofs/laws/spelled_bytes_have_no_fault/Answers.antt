use Rattle.ups_dataset.proofs.Whole.{spelled_fault}
use Rattle.ups_dataset.proofs.laws.spelled_bytes_have_no_fault.Goals as goal

pub returns : goal.returns
returns c = spelled_fault
