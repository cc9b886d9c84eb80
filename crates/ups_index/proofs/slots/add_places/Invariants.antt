use Rattle.std.proofs.Common.{take}
use Rattle.ups_index.proofs.Placed.{HasPlacesWithin, KeepsPlaces}
use Rattle.ups_index.proofs.slots.add_places.Given as goal

abbrev pub invariant-loop-post : goal.invariant-loop-post
invariant-loop-post g l = record {
  has : HasPlacesWithin l.low l.high (take l.post-index l.posts) l.places.items;
  keeps : KeepsPlaces l.fn.places.items l.places.items;
}
