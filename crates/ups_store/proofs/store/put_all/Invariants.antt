use Rattle.std.proofs.Common.{◌≡◌, map, take, false}
use Rattle.sqlite_trees.specs.declared.store.Shape.TheVariants.{Table}
use Rattle.sqlite_trees.specs.View.{IsClean, IsQuiet, KeepsSchema, KeepsCommitted}
use Rattle.ups_store.specs.Rows.{stored_in_run}
use Rattle.ups_store.specs.Held.{Adds, LeavesOthers}
use Rattle.ups_store.proofs.store.put_all.Given as goal

abbrev pub invariant-loop-at : goal.invariant-loop-at
invariant-loop-at g l =
    let old = g.S.Store.view l.fn.store in
    let now = g.S.Store.view l.store in
    record {
      quiet : IsQuiet g.S.Store.view g.S.Store.faults g.S.Store.recovers g.S.Store.is_shielded l.fn.store l.store;
      kept : KeepsCommitted old now;
      schema : KeepsSchema old now;
      table : IsClean now → now.shape l.fn.table ≡ Table;
      sound : IsClean now → old.is_broken ≡ false;
      added : IsClean now → Adds old now l.fn.table (map (stored_in_run l.fn.run) (take l.at l.records)) l.fn.count;
      others : IsClean now → LeavesOthers old now l.fn.table;
    }
