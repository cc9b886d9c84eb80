use Rattle.std.proofs.Common.{rules, ◌≡◌, false, IsTrue, sym, ap, ◌∙◌}
use Rattle.sqlite_trees.specs.Tree.{Trees}
use Rattle.sqlite_trees.specs.Objects.{catalog_tree}
use Rattle.sqlite_trees.specs.declared.store.Shape.TheVariants.{Table}
use Rattle.ups_store.specs.Held.{AreTables}
use Rattle.ups_store.specs.Rows.{table_in}
use Rattle.ups_store.proofs.Steps.{clean_before}
use Rattle.ups_store.proofs.reopening.reopened.Goals as goal

pub over-requires-clause-fresh : goal.over-requires-clause-fresh
over-requires-clause-fresh g c clean =
    let old = g.S.Store.view c.args.store in
    let v = g.S.Store.view c.crash_and_reopen.new.self in
    let is_fresh = c.in_ok-crash_and_reopen.ensures.fresh in
    let has : AreTables v = search rules in
    let sound : v.is_broken ≡ false = is_fresh.sound clean in
    let alike = g.met.S.Store.unaltered c.crash_and_reopen.new.self sound (ap (λ (db : Trees). db catalog_tree) is_fresh.clean) in
    let shaped : v.shape c.in_ok-table.table ≡ Table = search rules in
    let tabled : table_in v.trees ≡ c.in_ok-table.table = c.in_ok-table.ensures clean in
    let numbered : IsTrue old.is_numbered = c.requires (clean_before old v c.crash_and_reopen.ensures.clean clean) in
    record {
      tables = record {
        requests = has.requests;
        runs = has.runs;
        alike = sym alike.0;
        numbered = is_fresh.numbered ∙ numbered;
        unreal = has.unreal;
        first_unreal = has.first_unreal;
        last_unreal = has.last_unreal;
        typed = sym alike.1;
      };
      shaped = ap v.shape tabled ∙ shaped;
      sound = sound;
      same = is_fresh.clean;
    }
