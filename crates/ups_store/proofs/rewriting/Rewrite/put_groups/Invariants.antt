use Rattle.std.proofs.Common.{◌≡◌, ◌++◌, map, take}
use Rattle.sqlite_trees.specs.View.{IsClean, IsQuiet, KeepsSchema}
use Rattle.ups_store.specs.Rows.{stored_in_run, requests_in}
use Rattle.ups_store.specs.Rewriting.{records_of}
use Rattle.ups_store.proofs.rewriting.Rewrite.put_groups.Given as goal

abbrev pub invariant-loop-at : goal.invariant-loop-at
invariant-loop-at g l =
    let old = g.S.Store.view l.fn.self.store in
    let now = g.S.Store.view l.self.store in
    record {
      quiet : IsQuiet g.S.Store.view g.S.Store.faults g.S.Store.recovers g.S.Store.is_shielded l.fn.self.store l.self.store;
      schema : KeepsSchema old now;
      added : IsClean now → requests_in now.trees ≡ requests_in old.trees ++ map (stored_in_run l.fn.run) (records_of (take l.at l.groups));
    }
