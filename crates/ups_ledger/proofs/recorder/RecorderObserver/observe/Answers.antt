use Rattle.std.proofs.Common.{refl}
use Rattle.ups_ledger.proofs.recorder.RecorderObserver.observe.Goals as goal

pub returns : goal.returns
returns g c = record { from = refl; most = refl; records = c.records_from.ensures }
