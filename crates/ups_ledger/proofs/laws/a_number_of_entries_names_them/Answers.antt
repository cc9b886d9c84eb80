use Rattle.ups_ledger.proofs.Growing.{named_first}
use Rattle.ups_ledger.proofs.laws.a_number_of_entries_names_them.Goals as goal

pub returns : goal.returns
returns c = named_first
