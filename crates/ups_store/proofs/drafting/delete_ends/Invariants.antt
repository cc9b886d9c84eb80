use Rattle.std.proofs.Common.{◌≡◌, false}
use Rattle.sqlite_trees.specs.declared.store.Shape.TheVariants.{Table}
use Rattle.sqlite_trees.specs.View.{IsClean, IsQuiet, KeepsSchema, KeepsCommitted}
use Rattle.ups_store.specs.Drafting.{Cuts}
use Rattle.ups_store.proofs.drafting.delete_ends.Given as goal

abbrev pub invariant-loop-gone : goal.invariant-loop-gone
invariant-loop-gone g l =
    let old = g.S.Store.view l.fn.store in
    let now = g.S.Store.view l.store in
    record {
      quiet : IsQuiet g.S.Store.view g.S.Store.faults g.S.Store.recovers g.S.Store.is_shielded l.fn.store l.store;
      kept : KeepsCommitted old now;
      schema : KeepsSchema old now;
      table : IsClean now → now.shape l.fn.table ≡ Table;
      cuts : IsClean now → Cuts old now l.fn.table l._gone false;
    }
