use Rattle.std.proofs.Common.{◌≡◌, [], ℕ, map, ap, ◌∙◌, inl, inr}
use Rattle.sqlite_trees.specs.Objects.{catalog_tree}
use Rattle.sqlite_trees.specs.Tree.{Trees}
use Rattle.sqlite_trees.specs.View.{IsClean}
use Rattle.ups_store.specs.Found.{HasNone}
use Rattle.ups_store.specs.Rows.{request_in, requests_in, requests_in_tree, table_in}
use Rattle.ups_store.specs.Shown.{shown_by, all_of}
use Rattle.ups_store.proofs.Opened.{if_ok}
use Rattle.ups_store.proofs.Tables.{IsLow, low_table, requests_at}
use Rattle.ups_start.proofs.making.create.Goals as goal

none_in : (db : Trees) → HasNone db → requests_in db ≡ []
none_in db none = go (low_table (db catalog_tree))
  where
    go : IsLow (table_in db) → requests_in db ≡ []
    go (inl is) = requests_at db 0 is ∙ ap (map request_in) none.0
    go (inr is) = requests_at db 2 is ∙ ap (map request_in) none.2

pub returns : goal.returns
returns g c = record { none = if_ok _ (λ r. IsClean (shown_by r) → all_of r ≡ []) c.create.result (λ r made clean. none_in (shown_by r).committed (made clean).1) c.create.ensures.made; made = c.create.ensures.made }
