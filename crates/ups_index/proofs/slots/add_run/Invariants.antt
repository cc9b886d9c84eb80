use Rattle.ups_index.proofs.Placed.{HasPlacesBut, KeepsPlaces}
use Rattle.ups_index.proofs.slots.add_run.Given as goal

abbrev pub invariant-loop-post : goal.invariant-loop-post
invariant-loop-post g l = record {
  has : HasPlacesBut l.post-iterator l.fn.run l.places.items;
  keeps : KeepsPlaces l.fn.places.items l.places.items;
}
