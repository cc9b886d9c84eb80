use Rattle.std.proofs.Common.{refl}
use Rattle.std.proofs.lemmas.Simd.{get_or-replicate}
use Rattle.ups_match.proofs.lanes.all_places.Goals as goal

pub returns : goal.returns
returns c = record { long = refl; each = λ k low. get_or-replicate 64 k 255 0 low }
