use Rattle.std.proofs.Common.{◌≡◌, take}
use Rattle.std.specs.List.{filter_map}
use Rattle.ups_match.specs.Class.{first_view}
use Rattle.ups_index.specs.Kept.{in_class}
use Rattle.ups_index.proofs.Placed.{Ahead}
use Rattle.ups_index.proofs.slots.steps_at.Given as goal

abbrev pub invariant-loop-place : goal.invariant-loop-place
invariant-loop-place g l = record {
  found : l.steps.items ≡ filter_map (in_class (first_view l.first)) (take l.next l.slots.slots);
  ahead : Ahead (first_view l.first) l.slots.slots l.places l.next l.place-index;
}
