-- What stands in a set weighs less.
use Rattle.std.proofs.Common.{◌≡◌, ◌<◌, ◌≤◌, ◌+◌, ℕ, zero, suc, List, [], ◌∷◌, length, map, get_or, ap, arith}
use Rattle.ups_dataset.specs.declared.set.Element.{Element}
use Rattle.ups_dataset.specs.Data.{El, elements_of, items_of, weight, weight_data, weight_elements, weight_items}
use Rattle.ups_dataset.specs.View.{element_view, value_view}

-- an item less than its sequence
pub item_weight : (sets : List (List El)) (i : ℕ) (set : List El) → i < length sets → set ≡ get_or sets i set → weight set + 1 ≤ weight_items (items_of sets)
item_weight [] i set low is = absurd (omega (arith, low))
item_weight (x ∷ xs) zero set low is = omega (arith, ap (λ (l : List El). weight l) is)
item_weight (x ∷ xs) (suc i) set low is = omega (arith, item_weight xs i set (omega (arith, low)) is)

-- an element no more than its set
in_weight : {A : Type 0} (es : List (Element A)) (i : ℕ) (e : Element A) → i < length es → e ≡ get_or es i e → weight_data (value_view e.value) ≤ weight_elements (elements_of (map element_view es))
in_weight [] i e low is = absurd (omega (arith, low))
in_weight (x ∷ xs) zero e low is = omega (arith, ap (λ (y : Element _). weight_data (value_view y.value)) is)
in_weight (x ∷ xs) (suc i) e low is = omega (arith, in_weight xs i e (omega (arith, low)) is)

pub element_weight : {A : Type 0} (es : List (Element A)) (set : List El) (i : ℕ) (e : Element A) → map element_view es ≡ set → i < length es → e ≡ get_or es i e → weight_data (value_view e.value) ≤ weight set
element_weight es set i e v low is = omega (arith, in_weight es i e low is, ap (λ (l : List El). weight l) v)
