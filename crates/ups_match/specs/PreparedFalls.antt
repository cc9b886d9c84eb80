-- The depth of prepared keys is at most the weight of their view, so that recursion into items ends.
use Rattle.std.specs.Prelude.{◌≤◌, List, [], ◌∷◌, map, max}
use Rattle.std.proofs.Common.{arith}
use Rattle.std.specs.declared.alloc.Allocator.{Ghosts}
use denote.Param.Weighed.{most}
use Rattle.ups_dataset.specs.Data.{weight_data, weight_elements, elements_of}
use Rattle.ups_match.specs.declared.prepared.PreparedKey.{PreparedKey}
use Rattle.ups_match.specs.declared.prepared.PreparedValue.{PreparedValue}
use Rattle.ups_match.specs.declared.prepared.PreparedValue.TheVariants as variants
use Rattle.ups_match.specs.declared.prepared.Prepared.TheDeep.{deep-PreparedKey, deep-PreparedValue}
use Rattle.ups_match.specs.Prepared.{key_view, prepared_view}

pub prepared_value_falls : {A : Type 0} (heap : Ghosts A) (v : PreparedValue A) → deep-PreparedValue A heap v ≤ weight_data (prepared_view v)
prepared_value_falls heap (variants.Uids list) = omega arith
prepared_value_falls heap (variants.Text text) = omega arith
prepared_value_falls heap (variants.Item keys) = omega arith

pub keys_fall : {A : Type 0} (heap : Ghosts A) (ks : List (PreparedKey A)) → max (most (λ k. deep-PreparedKey A heap k) ks) 0 ≤ weight_elements (elements_of (map key_view ks))
keys_fall heap [] = omega arith
keys_fall heap (k ∷ ks) = omega (arith, prepared_value_falls heap k.value, keys_fall heap ks)
