use Rattle.std.proofs.Common.{Some}
use Rattle.ups_pdu.proofs.Contents.{only_from_optional}
use Rattle.ups_pdu.proofs.item.only.Goals as goal

pub returns-in_err-optional : goal.returns-in_err-optional
returns-in_err-optional g c = rw c.from_residual.ensures (λ found h x s. c.in_err-optional.ensures found h (Some x) s)

pub returns : goal.returns
returns g c = λ found h. only_from_optional g.T.Spelled.spells found _ (c.in_ok-optional.ensures found h)
