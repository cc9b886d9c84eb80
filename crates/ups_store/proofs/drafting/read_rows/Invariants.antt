use Rattle.std.proofs.Common.{◌≡◌, take, drop}
use Rattle.sqlite_trees.specs.View.{IsClean, IsQuiet, KeepsSchema, KeepsCommitted}
use Rattle.ups_store.specs.Rows.{requests_in_tree}
use Rattle.ups_store.proofs.drafting.read_rows.Given as goal

abbrev pub invariant-loop-at : goal.invariant-loop-at
invariant-loop-at g l =
    let old = g.S.Store.view l.fn.store in
    let now = g.S.Store.view l.store in
    record {
      quiet : IsQuiet g.S.Store.view g.S.Store.faults g.S.Store.recovers g.S.Store.is_shielded l.fn.store l.store;
      kept : KeepsCommitted old now;
      schema : KeepsSchema old now;
      same : IsClean now → now ≡ old;
      found : IsClean now → l.found.items ≡ take l.at (drop l.fn.from (requests_in_tree old.trees l.fn.table));
    }
