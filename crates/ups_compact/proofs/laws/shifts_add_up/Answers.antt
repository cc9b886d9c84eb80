use Rattle.ups_compact.proofs.Onward.{no_shift, both_shifts}
use Rattle.ups_compact.proofs.laws.shifts_add_up.Goals as goal

pub returns : goal.returns
returns g c = record {
  none = no_shift;
  both = both_shifts;
}
