use Rattle.std.proofs.Common.{◌<◌, ◌^◌, arith, length}
use Rattle.std.specs.List.{flat_map}
use Rattle.ups_pdu.specs.Written.{written_pdv}
use Rattle.ups_pdu.proofs.Again.{pdvs_fit}
use Rattle.ups_pdu.proofs.writing.put_body.Goals as goal

pub put_pdvs-requires : goal.put_pdvs-requires
put_pdvs-requires g c =
    let fits = rw c.in-Data.is at c.requires in
    let short : length (flat_map written_pdv c.in-Data.pdvs) < 2 ^ 32 = omega (arith, fits.1) in
    rw c.as_slice.ensures (pdvs_fit c.in-Data.pdvs short)
