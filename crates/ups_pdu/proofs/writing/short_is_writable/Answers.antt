use Rattle.ups_pdu.proofs.Fitting.{fits_from_spelled}
use Rattle.ups_pdu.proofs.Sizes.{within_from_short}
use Rattle.ups_pdu.proofs.writing.short_is_writable.Goals as goal

pub returns : goal.returns
returns g c = λ bytes pdu s short. fits_from_spelled bytes pdu s (within_from_short bytes pdu s short)
