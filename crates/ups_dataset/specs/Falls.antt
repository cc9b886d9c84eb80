-- Each set within a set weighs less than it, and the weight bounds the depth.
use Rattle.std.specs.Prelude.{◌+◌, ◌≤◌, List, [], ◌∷◌, map, max}
use Rattle.std.proofs.Common.{arith}
use Rattle.std.specs.declared.alloc.Allocator.{Ghosts}
use denote.Param.Weighed.{most}
use Rattle.ups_dataset.specs.declared.set.Value.{Value}
use Rattle.ups_dataset.specs.declared.set.Value.TheVariants as variants
use Rattle.ups_dataset.specs.declared.set.Element.{Element}
use Rattle.ups_dataset.specs.declared.set.DataSet.TheDeep.{deep-Element, deep-Value}
use Rattle.ups_dataset.specs.Data.{El, items_of, weight, weight_items, weight_data, weight_elements, elements_of}
use Rattle.ups_dataset.specs.View.{element_view, value_view}

pub sets_fall : (v : List (List El)) → most (λ s. weight s + 1) v ≤ weight_items (items_of v)
sets_fall [] = omega arith
sets_fall (s ∷ ss) = omega (arith, sets_fall ss)

pub value_falls : {A : Type 0} (heap : Ghosts A) (v : Value A) → deep-Value A heap v ≤ weight_data (value_view v)
value_falls heap (variants.Bytes b) = omega arith
value_falls heap (variants.Items v) = omega (arith, sets_fall v.items)

pub elements_fall : {A : Type 0} (heap : Ghosts A) (es : List (Element A)) → max (most (λ e. deep-Element A heap e) es) 0 ≤ weight_elements (elements_of (map element_view es))
elements_fall heap [] = omega arith
elements_fall heap (e ∷ es) = omega (arith, value_falls heap e.value, elements_fall heap es)
