use Rattle.std.proofs.Common.{◌≡◌, ◌≤◌, ◌*◌, ◌++◌, drop, length}
use Rattle.ups_rows.specs.Answering.{rows_of_parts}
use Rattle.ups_steps.specs.Held.{attributes_held}
use Rattle.ups_steps.specs.Parts.{PartsCover}
use Rattle.ups_steps.specs.Places.{held_in}
use Rattle.ups_steps.proofs.parts.share_parts.Given as goal

abbrev pub invariant-loop-k : goal.invariant-loop-k
invariant-loop-k g l = record {
  rows : rows_of_parts l.shared.items ++ attributes_held (held_in (drop (64 * l.k) l.places.entries)) ≡ attributes_held (held_in l.places.entries);
  covers : PartsCover l.parts.items l.places.entries;
  next : l.k ≤ length l.parts.items;
}
