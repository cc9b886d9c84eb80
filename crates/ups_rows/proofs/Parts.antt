-- The rows of parts, one part after another.
use Rattle.std.proofs.Common.{◌≡◌, ℕ, ◌+◌, ◌<◌, ◌≤◌, Bool, List, [], ◌∷◌, ◌++◌, length, take, drop, get_or, Option, None, Some, refl, sym, ap, ◌∙◌, append_assoc, arith}
use Rattle.std.proofs.lemmas.List.{take_more, drop_more, append-nil, length-append, length-map, take-append-drop}
use Rattle.std.specs.Prelude.{slice_get}
use Rattle.ups_dataset.specs.Data.{El}
use Rattle.ups_life.specs.declared.row.Row.{Row}
use Rattle.ups_rows.specs.Answering.{answers_among, attributes_of_rows, rows_of_parts}
use Rattle.ups_rows.proofs.Adding.{answered-append}

parts-append : (ps qs : List (List (List El))) → rows_of_parts (ps ++ qs) ≡ rows_of_parts ps ++ rows_of_parts qs
parts-append [] qs = refl
parts-append (p ∷ ps) qs = ap (λ rows. p ++ rows) (parts-append ps qs) ∙ sym (append_assoc p (rows_of_parts ps) (rows_of_parts qs))

-- a part has as many rows as it was made of
pub as_many : {A : Type 0} (rows : List (Row A)) (part : List (List El)) → attributes_of_rows rows ≡ part → length rows ≡ length part
as_many {A} rows part is = sym (length-map rows (λ (r : Row A). r.attributes)) ∙ ap length is

-- one more part behind the others
pub parts_more : (ps : List (List (List El))) (p : List (List El)) → rows_of_parts (ps ++ p ∷ []) ≡ rows_of_parts ps ++ p
parts_more ps p = parts-append ps (p ∷ []) ∙ ap (λ rows. rows_of_parts ps ++ rows) (append-nil p)

module _ (parts : List (List (List El))) (i : ℕ) (part : List (List El)) (low : i < length parts) (is : part ≡ get_or parts i part) where
  -- the rows up to the next part, and with it
  pub up_to_next : rows_of_parts (take (i + 1) parts) ≡ rows_of_parts (take i parts) ++ part
  up_to_next = ap rows_of_parts (take_more parts i part low) ∙ parts_more (take i parts) (get_or parts i part) ∙ ap (λ p. rows_of_parts (take i parts) ++ p) (sym is)

  -- the rows from the next part on
  pub from_next : rows_of_parts (drop i parts) ≡ part ++ rows_of_parts (drop (i + 1) parts)
  from_next = ap rows_of_parts (drop_more parts i part low) ∙ ap (λ p. p ++ rows_of_parts (drop (i + 1) parts)) (sym is)

  -- the rows of the next part are answered
  pub answered_next : (says : List El → Bool) (keys : List El) (start before after : List (List El)) → before ≡ start ++ answers_among says keys (rows_of_parts (take i parts)) → after ≡ before ++ answers_among says keys part
      → after ≡ start ++ answers_among says keys (rows_of_parts (take (i + 1) parts))
  answered_next says keys start before after was more =
      let done = answers_among says keys (rows_of_parts (take i parts)) in
      more ∙ ap (λ l. l ++ answers_among says keys part) was ∙ append_assoc start done (answers_among says keys part)
      ∙ ap (λ l. start ++ l) (sym (ap (answers_among says keys) up_to_next ∙ answered-append says keys (rows_of_parts (take i parts)) part))

  -- they are counted
  pub counted_next : length (rows_of_parts (take (i + 1) parts)) ≡ length (rows_of_parts (take i parts)) + length part
  counted_next = ap length up_to_next ∙ length-append (rows_of_parts (take i parts)) part

  -- they are some of all
  pub some_of_all : length (rows_of_parts (take i parts)) + length part ≤ length (rows_of_parts parts)
  some_of_all =
      let all = ap length (sym (parts-append (take (i + 1) parts) (drop (i + 1) parts)) ∙ ap rows_of_parts (take-append-drop (i + 1) parts)) in
      let both = length-append (rows_of_parts (take (i + 1) parts)) (rows_of_parts (drop (i + 1) parts)) in
      omega (arith, all, both, counted_next)

-- the first row of the first list that has one
pub first_here : (xs ys : List (List El)) (x : List El) → Some x ≡ slice_get xs 0 → Some x ≡ slice_get (xs ++ ys) 0
first_here [] ys x is = absurd cc
first_here (y ∷ xs) ys x is = is

pub none_here : (xs : List (List El)) → None ≡ slice_get xs 0 → xs ≡ []
none_here [] is = refl
none_here (y ∷ xs) is = absurd cc
