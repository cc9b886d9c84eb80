use mathlib.Core.Logic.{∥∥₁_map}
use Rattle.ups_lasting.proofs.laws.a_crash_leaves_what_stands_for_the_log.Goals as goal

pub returns : goal.returns
returns g c = λ l first found can. ∥∥₁_map (l.left first found can) (λ x. (x.0, record { found = found; can_leave = can; are = x.1 }, x.2))
