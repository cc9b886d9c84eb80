use Rattle.std.proofs.Common.{◌≡◌, ℕ, map, take, length, ◌∷◌, [], refl, ap, ◌∙◌}
use Rattle.sqlite_store.specs.Catalog.{wanted_of}
use Rattle.sqlite_trees.specs.declared.schema.Object.{Object}
use Rattle.ups_store.specs.declared.format.Format.{Format}
use Rattle.ups_store.specs.declared.format.Format.TheVariants.{First, Second, Third, Exchanged}
use Rattle.ups_store.specs.Format.{request_table, run_table, first_name, last_name, tables_of}
use Rattle.ups_store.proofs.opening.unopened.Goals as goal

-- as many of the three tables as the format has
some_tables : (format : Format) (a b c : Object) → wanted_of a ≡ request_table (first_name format) → wanted_of b ≡ run_table format → wanted_of c ≡ request_table (last_name format)
    → map wanted_of (take (length (tables_of format)) (a ∷ (b ∷ (c ∷ [])))) ≡ tables_of format
some_tables First a b c p q r = rw (p, q) refl
some_tables Second a b c p q r = rw (p, q) refl
some_tables Third a b c p q r = rw (p, q, r) refl
some_tables Exchanged a b c p q r = rw (p, q, r) refl

pub returns-in-Ok-with_sums-clause-table : goal.returns-in-Ok-with_sums-clause-table
returns-in-Ok-with_sums-clause-table g c =
    let a = c.first_table.result in
    let b = c.run_table.result in
    let d = c.last_table.result in
    c.in-Ok-with_sums.ensures.schema ∙ ap (λ (n : ℕ). map wanted_of (take n (a ∷ (b ∷ (d ∷ []))))) c.table_count.ensures ∙ some_tables c.args.format a b d c.first_table.ensures c.run_table.ensures.wanted c.last_table.ensures
