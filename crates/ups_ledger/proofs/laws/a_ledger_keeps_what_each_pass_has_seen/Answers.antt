use Rattle.ups_ledger.proofs.Leaving.{keeps_seen}
use Rattle.ups_ledger.proofs.laws.a_ledger_keeps_what_each_pass_has_seen.Goals as goal

pub returns : goal.returns
returns g c = keeps_seen g.L.Ledger
