use Rattle.std.proofs.Common.{FitsSigned, w16, rules}
use Rattle.std.proofs.lemmas.Int.{to_z-of_z}
use Rattle.ups_match.specs.Class.{first_key}
use Rattle.ups_match.proofs.keys.Keys.first.Goals as goal

pub returns : goal.returns
unfolding first_key
returns g c =
    let fits : FitsSigned w16 c.self.inside.offset = search rules in
    rw (← c.self.view_is) (rw (to_z-of_z w16 c.args.offset c.ranges.offset, to_z-of_z w16 c.self.inside.offset fits) at c.first_among.ensures)
