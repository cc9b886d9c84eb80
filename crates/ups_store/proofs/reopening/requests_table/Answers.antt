use Rattle.std.proofs.Common.{sym, ap, ◌∙◌}
use Rattle.sqlite_trees.specs.Objects.{catalog_tree}
use Rattle.ups_store.specs.Rows.{table_listed}
use Rattle.ups_store.proofs.Relisted.{table_cut}
use Rattle.ups_store.proofs.reopening.requests_table.Goals as goal

pub returns : goal.returns
returns g c clean = sym (c.table_in.ensures ∙ ap table_listed (c.as_slice.ensures.value ∙ c.in_ok-rows.ensures clean) ∙ table_cut ((g.S.Store.view c.args.store.now).trees catalog_tree))
