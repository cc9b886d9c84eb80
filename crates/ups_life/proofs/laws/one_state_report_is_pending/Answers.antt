use Rattle.ups_life.proofs.Current.{one_pending}
use Rattle.ups_life.proofs.laws.one_state_report_is_pending.Goals as goal

pub returns : goal.returns
returns g c = one_pending
