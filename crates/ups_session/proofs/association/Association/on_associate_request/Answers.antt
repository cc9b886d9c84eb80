use Rattle.ups_session.proofs.Accepting.{accepting}
use Rattle.ups_session.proofs.association.Association.on_associate_request.Goals as goal

pub on_outcome-requires : goal.on_outcome-requires
on_outcome-requires g c =
    let (bytes, spells) = c.requires.spelled in
    record { accepting = accepting c.args.config.now.ae c.args.request.now c.in-Ok.outcome c.in-Ok.ensures.outcome (c.in-Ok.ensures.fits bytes spells) }
