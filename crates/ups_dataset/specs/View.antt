-- The view of a data set as a value.
use Rattle.ups_dataset.specs.declared.set.Value.{Value}
use Rattle.ups_dataset.specs.declared.set.Value.TheVariants as variants
use Rattle.ups_dataset.specs.declared.set.Element.{Element}
use Rattle.ups_dataset.specs.Data.{Data, bytes, items, El, items_of}

abbrev pub value_view : {A : Type 0} → Value A → Data
value_view (variants.Bytes b) = bytes b
value_view (variants.Items v) = items (items_of v.items)

abbrev pub element_view : {A : Type 0} → Element A → El
element_view e = record { tag = e.tag; vr = e.vr; value = value_view e.value }
