use Rattle.std.proofs.Common.{◌≡◌, ◌≤◌, ◌+◌, All, length, vec_capacity}
use Rattle.std.specs.Vec.Iter.{into_iter_items, into_iter_len}
use Rattle.passes.proofs.race.meet_all.Given as goal

abbrev pub invariant-loop-one : goal.invariant-loop-one
invariant-loop-one l = record {
  room : length l.passes.items + into_iter_len l.one-iterator + 1 ≤ vec_capacity l.passes;
  here : All (λ p. p.table ≡ l.desk.table) l.passes.items;
  left : All (λ d. d.0.table ≡ l.desk.table) (into_iter_items l.one-iterator);
  last : l.last.table ≡ l.desk.table;
}
