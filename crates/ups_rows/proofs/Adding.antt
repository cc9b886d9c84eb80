-- The answers of rows, one after another.
use Rattle.std.proofs.Common.{◌≡◌, ℕ, ◌+◌, ◌<◌, Bool, true, false, cond, List, [], ◌∷◌, ◌++◌, length, map, filter, take, get_or, refl, sym, ap, ◌∙◌, append_assoc}
use Rattle.std.proofs.lemmas.List.{take_more, map-append}
use Rattle.std.proofs.lemmas.List.Elements.{filter-append}
use Rattle.ups_dataset.specs.Data.{El, answer}
use Rattle.ups_life.specs.declared.row.Row.{Row}
use Rattle.ups_rows.specs.Answering.{answers_among, attributes_of_rows}

pub answered-append : (says : List El → Bool) (keys : List El) (rs qs : List (List El)) → answers_among says keys (rs ++ qs) ≡ answers_among says keys rs ++ answers_among says keys qs
answered-append says keys rs qs = ap (map (λ r. answer r keys)) (filter-append says rs qs) ∙ map-append (λ r. answer r keys) (filter says rs) (filter says qs)

answered_one : (says : List El → Bool) (keys r : List El) → answers_among says keys (r ∷ []) ≡ cond (says r) (answer r keys ∷ []) []
answered_one says keys r = by (says r)
  where
    by : (b : Bool) → map (λ r. answer r keys) (cond b (r ∷ []) []) ≡ cond b (answer r keys ∷ []) []
    by true = refl
    by false = refl

module _ {A : Type 0} (says : List El → Bool) (keys : List El) where
  -- the next row is answered
  pub answered_more : (rows : List (Row A)) (i : ℕ) (row : Row A) (start before after : List (List El)) → i < length rows → row ≡ get_or rows i row
      → before ≡ start ++ answers_among says keys (attributes_of_rows (take i rows)) → after ≡ before ++ cond (says row.attributes) (answer row.attributes keys ∷ []) []
      → after ≡ start ++ answers_among says keys (attributes_of_rows (take (i + 1) rows))
  answered_more rows i row start before after low is was more =
      let one = cond (says row.attributes) (answer row.attributes keys ∷ []) [] in
      let done = answers_among says keys (attributes_of_rows (take i rows)) in
      let next : attributes_of_rows (take (i + 1) rows) ≡ attributes_of_rows (take i rows) ++ row.attributes ∷ [] =
      ap attributes_of_rows (take_more rows i row low ∙ ap (λ (r : Row A). take i rows ++ r ∷ []) (sym is)) ∙ map-append (λ (r : Row A). r.attributes) (take i rows) (row ∷ []) in
      more ∙ ap (λ (l : List (List El)). l ++ one) was ∙ append_assoc start done one
      ∙ ap (λ (l : List (List El)). start ++ l) (sym (ap (answers_among says keys) next ∙ answered-append says keys (attributes_of_rows (take i rows)) (row.attributes ∷ []) ∙ ap (λ (l : List (List El)). done ++ l) (answered_one says keys row.attributes)))
