use Rattle.std.proofs.Common.{FitsSigned, w16, rules, refl}
use Rattle.std.proofs.lemmas.Int.{to_z-of_z}
use Rattle.ups_start.proofs.Permitted.{permits_text}
use Rattle.ups_start.proofs.terms.check_text.Goals as goal

pub returns : goal.returns
returns c =
    let fits : FitsSigned w16 c.offset.result = search rules in
    let found = c.in-None.ensures.none.0 refl in
    let permits = rw (to_z-of_z w16 c.offset.result fits) at found in
    permits_text c.args.manager.now.settings c.in-Ok.old c.args.text.now c.keep.result c.offset.result c.peers.result.now c.in-Ok.ensures c.keep.ensures c.offset.ensures.value c.peers.ensures permits
