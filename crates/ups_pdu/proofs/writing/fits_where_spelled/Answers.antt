use Rattle.ups_pdu.specs.Written.{written_pdu}
use Rattle.ups_pdu.proofs.Again.{written_again}
use Rattle.ups_pdu.proofs.Fitting.{fits_from_spelled, within_from_fits}
use Rattle.ups_pdu.proofs.writing.fits_where_spelled.Goals as goal

pub returns : goal.returns
returns g c = λ pdu. (λ h. ((written_pdu pdu, written_again pdu h), within_from_fits pdu h), λ s. fits_from_spelled s.0.0 pdu s.0.1 s.1)
