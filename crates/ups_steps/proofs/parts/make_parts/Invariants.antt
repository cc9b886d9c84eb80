use Rattle.std.proofs.Common.{◌≤◌, length}
use Rattle.ups_steps.specs.Parts.{PartsCover}
use Rattle.ups_steps.proofs.parts.make_parts.Given as goal

abbrev pub invariant-loop-k : goal.invariant-loop-k
invariant-loop-k g l = record {
  covers : PartsCover l.parts.items l.places.entries;
  next : l.k ≤ length l.parts.items;
}
