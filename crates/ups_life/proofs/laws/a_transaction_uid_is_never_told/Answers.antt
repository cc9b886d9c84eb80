use Rattle.ups_life.proofs.Untold.{row_lacks, answer_lacks}
use Rattle.ups_life.proofs.laws.a_transaction_uid_is_never_told.Goals as goal

pub returns-clause-shown : goal.returns-clause-shown
returns-clause-shown g c = row_lacks

pub returns-clause-found : goal.returns-clause-found
returns-clause-found g c = answer_lacks
