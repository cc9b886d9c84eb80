-- There is one item at the front of bytes.
use Rattle.std.proofs.Common.{◌≡◌, ℕ, ◌<◌, List, ◌∷◌, ◌++◌, length, refl, sym, ap, ◌∙◌, arith}
use Rattle.std.specs.Int.{w16, to_be_bytes}
use Rattle.std.proofs.lemmas.List.{length-append}
use Rattle.ups_pdu.specs.Item.{Item, IsItem}
use Rattle.ups_pdu.proofs.Parts.{same_parts, same_be_2}
use Rattle.ups_pdu.proofs.Sequence.{IsOneWay}

one_item : (bytes : List ℕ) (x y : Item) (r s : List ℕ) → IsItem bytes x r → IsItem bytes y s → (x ≡ y) × (r ≡ s)
one_item bytes x y r s p q =
    let e : x.kind ∷ p.reserved ∷ to_be_bytes w16 (length x.content) ++ (x.content ++ r) ≡ y.kind ∷ q.reserved ∷ to_be_bytes w16 (length y.content) ++ (y.content ++ s) = sym p.parts ∙ q.parts in
    let first : x.kind ≡ y.kind = cc in
    let later : to_be_bytes w16 (length x.content) ++ (x.content ++ r) ≡ to_be_bytes w16 (length y.content) ++ (y.content ++ s) = cc in
    let outer = same_parts (to_be_bytes w16 (length x.content)) (to_be_bytes w16 (length y.content)) (x.content ++ r) (y.content ++ s) refl later in
    let inner = same_parts x.content y.content r s (same_be_2 (length x.content) (length y.content) p.fits q.fits outer.0) outer.1 in
    (λ i. record { kind = first i; content = inner.0 i }, inner.1)

pub item_way : IsOneWay IsItem
item_way = record { one = one_item; some = λ bytes x r p. omega (arith, ap length p.parts) }

pub item_shorter : (bytes : List ℕ) (x : Item) (r : List ℕ) → IsItem bytes x r → length r < length bytes
item_shorter bytes x r p = omega (arith, ap length p.parts, length-append x.content r)
