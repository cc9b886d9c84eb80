use Rattle.std.proofs.Common.{◌≡◌, ◌∙◌, ℕ, List, [], ◌∷◌, length, refl, sym, ap, subst, arith, eqb-true}
use Rattle.sqlite_value.specs.Order.{Row}
use Rattle.sqlite_pool.specs.Stored.{Recovers}
use Rattle.sqlite_pool.specs.File.{in_use}
use Rattle.sqlite_store.specs.Db.{rows_at}
use Rattle.sqlite_store.specs.Unopened.{image}
use Rattle.sqlite_trees.specs.declared.store.Shape.TheVariants.{Table}
use Rattle.ups_store.specs.Format.{format_in}
use Rattle.ups_store.specs.Found.{ListsNothing, HoldsOnly}
use Rattle.ups_store.proofs.Opened.{only_format}
use Rattle.ups_store.proofs.opening.format_of.Goals as goal

none_in : (rows : List Row) → length rows ≡ 0 → rows ≡ []
none_in [] h = refl
none_in (row ∷ rows) h = absurd (omega (arith, h))

pub returns-in-Ok-clause-nothing : goal.returns-in-Ok-clause-nothing
returns-in-Ok-clause-nothing g c clean none =
    let it = c.args.files.now in
    let rows = c.in-Ok.rows in
    let catalog = c.in-Ok.ensures.ok clean in
    subst (λ (n : ℕ). ListsNothing n (image it)) c.requires.size
    (catalog.pages, catalog.found, sym catalog.lists ∙ none_in rows.items (sym rows.ok.0 ∙ eqb-true rows.len 0 (sym c.is_empty.ensures ∙ c.if-is_empty.true)))

pub returns-in-Ok-2-clause-format : goal.returns-in-Ok-2-clause-format
returns-in-Ok-2-clause-format g c clean =
    let it = c.args.files.now in
    let rows = c.in-Ok.rows in
    let catalog = c.in-Ok.ensures.ok clean in
    subst (HoldsOnly (image it)) (ap format_in (sym c.as_slice.ensures.value) ∙ sym c.format_in.ensures)
    (only_format (image it) catalog.pages rows.items (subst (λ (n : ℕ). Recovers n (image it) catalog.pages) c.requires.size catalog.found)
    (subst (λ (n : ℕ). rows.items ≡ rows_at n (in_use n catalog.pages) Table 1) c.requires.size catalog.lists))

pub returns-in-Ok-2-clause-falls : goal.returns-in-Ok-2-clause-falls
returns-in-Ok-2-clause-falls g c clean = (c.in-Ok-2.ensures.honest clean, (c.in-Ok-2.ensures.kept clean).counts)
