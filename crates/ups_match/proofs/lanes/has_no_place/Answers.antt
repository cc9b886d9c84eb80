use Rattle.std.proofs.Common.{sym, ◌∙◌, eqb, arith, w8}
use Rattle.std.proofs.lemmas.Bool.{eqb-true}
use Rattle.std.proofs.lemmas.Simd.{bitmask_splat}
use Rattle.ups_match.proofs.LanePlaces.{no_lane}
use Rattle.ups_match.proofs.lanes.has_no_place.Goals as goal

pub returns : goal.returns
returns c none k low =
    no_lane c.args.places (sym (bitmask_splat w8 eqb c.args.places 64 255 c.fits-places.0 (omega arith)) ∙ eqb-true _ _ none) k
