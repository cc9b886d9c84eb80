use Rattle.ups_ledger.proofs.Leaving.{are_kept_longer, are_safe_longer}
use Rattle.ups_ledger.proofs.laws.a_ledger_has_the_first_of_a_longer_history.Goals as goal

pub returns-clause-kept : goal.returns-clause-kept
returns-clause-kept g c = are_kept_longer g.L.Ledger

pub returns-clause-safe : goal.returns-clause-safe
returns-clause-safe g c = are_safe_longer g.L.Ledger
