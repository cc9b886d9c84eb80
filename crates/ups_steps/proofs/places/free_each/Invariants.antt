use Rattle.std.proofs.Common.{◌≡◌, ℕ, List, not, filter, take, length}
use Rattle.indexmap.specs.IndexMap.{spare}
use Rattle.ups_life.specs.Watching.{is_among}
use Rattle.ups_keep.specs.Waits.{steps_of}
use Rattle.ups_steps.specs.declared.held.HeldRow.{HeldRow}
use Rattle.ups_steps.specs.Parts.{PartsCover}
use Rattle.ups_steps.specs.Places.{held_in}
use Rattle.ups_steps.proofs.places.free_each.Given as goal

abbrev pub invariant-loop-step : goal.invariant-loop-step
invariant-loop-step g l = record {
  steps : held_in l.places.entries ≡ filter (λ (e : List ℕ × HeldRow g.row.A.Denot). not (is_among e.0 (steps_of (take l.step-index l.steps)))) (held_in l.fn.places.entries);
  count : l.left ≡ length (held_in l.places.entries);
  len : length l.places.entries ≡ length l.fn.places.entries;
  spare : spare l.places ≡ spare l.fn.places;
  covers : PartsCover l.fn.parts.items l.fn.places.entries → PartsCover l.parts.items l.places.entries;
}
