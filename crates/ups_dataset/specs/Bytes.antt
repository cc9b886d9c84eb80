-- The bytes of a value, in place or on the heap.
use Rattle.std.specs.Prelude.{ℕ, List}
use Rattle.ups_dataset.specs.declared.value_bytes.Held.{Held}
use Rattle.ups_dataset.specs.declared.value_bytes.Held.TheVariants as variants

abbrev pub held_bytes : {A : Type 0} → Held A → List ℕ
held_bytes (variants.InPlace few) = few
held_bytes (variants.OnHeap vec) = vec.items
