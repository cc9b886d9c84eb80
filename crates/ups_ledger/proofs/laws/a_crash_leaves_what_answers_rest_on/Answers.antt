use Rattle.ups_ledger.proofs.Leaving.{leaves_rests}
use Rattle.ups_ledger.proofs.laws.a_crash_leaves_what_answers_rest_on.Goals as goal

pub returns : goal.returns
returns g c = λ ledger watched seen history committed rests records leaves watches begins few within first after. leaves_rests g.L.Ledger ledger watched seen history committed rests records leaves watches begins few within first after
