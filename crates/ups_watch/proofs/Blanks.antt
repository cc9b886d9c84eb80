-- Blank rows: one more, one less.
use Rattle.std.proofs.Common.{◌≡◌, ℕ, List, [], ◌∷◌, ◌++◌, None, length, refl, sym, ap, ◌∙◌, arith, length-append}
use Rattle.std.proofs.lemmas.List.{get_or_append_left, get_or_push, length-replicate}
use Rattle.ups_watch.specs.Rows.{Cells}
use Rattle.ups_watch.specs.Table.{AreBlank}

module _ (n : ℕ) (rows : List Cells) (row : Cells) (blank : AreBlank n (rows ++ row ∷ [])) where
  pub blank_left : AreBlank n rows
  blank_left k l = let w = length-append rows (row ∷ []) in sym (get_or_append_left rows (row ∷ []) [] k l) ∙ blank k (omega (arith, l, w))

  pub blank_taken : length row ≡ n
  blank_taken = let w = length-append rows (row ∷ []) in ap length (sym (get_or_push rows row [] (length rows) refl) ∙ blank (length rows) (omega (arith, w))) ∙ length-replicate n None
