use Rattle.std.proofs.Common.{cond, eqb, get_or, replicate, sym, subst, take, w8}
use Rattle.std.proofs.lemmas.Simd.{length-chunk, tops_compared}
use Rattle.std.specs.Simd.Lanes.{sel_l}
use Rattle.ups_match.specs.Lanes.{HasLanes}
use Rattle.ups_match.proofs.LanePlaces.{selected}
use Rattle.ups_match.proofs.lanes.places_with.Goals as goal

pub returns : goal.returns
returns c =
    let text = c.args.text.now in
    let places = c.args.places in
    let byte = c.args.byte in
    subst (λ ms. HasLanes (sel_l ms places (replicate 64 0)) (λ k. cond (eqb (get_or text k 0) byte) (get_or places k 0) 0))
    (sym (tops_compared w8 eqb (take 64 text) (replicate 64 byte))) (selected text places byte (length-chunk 0 64 text c.requires) c.fits-places.0)
