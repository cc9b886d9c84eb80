-- Prepared keys as the elements and values that contracts see.
use Rattle.ups_dataset.specs.declared.vr.Vr.TheVariants.{Un}
use Rattle.ups_dataset.specs.Data.{Data, bytes, items, no_items, item, El, elements_of}
use Rattle.ups_match.specs.declared.prepared.PreparedKey.{PreparedKey}
use Rattle.ups_match.specs.declared.prepared.PreparedValue.{PreparedValue}
use Rattle.ups_match.specs.declared.prepared.PreparedValue.TheVariants as variants

abbrev pub prepared_view : {A : Type 0} → PreparedValue A → Data
prepared_view (variants.Uids list) = bytes list
prepared_view (variants.Text text) = bytes text.items
prepared_view (variants.Item keys) = items (item (elements_of keys) no_items)

abbrev pub key_view : {A : Type 0} → PreparedKey A → El
key_view key = record { tag = key.tag; vr = Un; value = prepared_view key.value }
