-- A tag, and a number, have one spelling in bytes.
use Rattle.std.proofs.Common.{◌≡◌, ℕ, ◌^◌, ◌<◌, List, ◌++◌, refl, sym, ◌∙◌}
use Rattle.std.specs.Int.{w16, w32, to_le_bytes}
use Rattle.ups_pdu.proofs.Parts.{same_parts, same_le_2, same_le_4}
use Rattle.ups_dataset.specs.declared.tag.Tag.{Tag}
use Rattle.ups_dataset.specs.Tag.{IsTag, tag_bytes}

pub same_long : (m n : ℕ) (x y text : List ℕ) → m < 2 ^ 32 → n < 2 ^ 32 → text ≡ to_le_bytes w32 m ++ x → text ≡ to_le_bytes w32 n ++ y → (m ≡ n) × (x ≡ y)
same_long m n x y text lm ln p q = let parts = same_parts (to_le_bytes w32 m) (to_le_bytes w32 n) x y refl (sym p ∙ q) in (same_le_4 m n lm ln parts.0, parts.1)

pub same_short : (m n : ℕ) (x y text : List ℕ) → m < 2 ^ 16 → n < 2 ^ 16 → text ≡ to_le_bytes w16 m ++ x → text ≡ to_le_bytes w16 n ++ y → (m ≡ n) × (x ≡ y)
same_short m n x y text lm ln p q = let parts = same_parts (to_le_bytes w16 m) (to_le_bytes w16 n) x y refl (sym p ∙ q) in (same_le_2 m n lm ln parts.0, parts.1)

-- four bytes stand for one tag
pub same_tag : (j k : Tag) (x y text : List ℕ) → IsTag j → IsTag k → text ≡ tag_bytes j ++ x → text ≡ tag_bytes k ++ y → (j ≡ k) × (x ≡ y)
same_tag j k x y text lj lk p q =
    let tags = same_parts (tag_bytes j) (tag_bytes k) x y refl (sym p ∙ q) in
    let halves = same_parts (to_le_bytes w16 j.group) (to_le_bytes w16 k.group) (to_le_bytes w16 j.element) (to_le_bytes w16 k.element) refl tags.0 in
    let groups = same_le_2 j.group k.group lj.group lk.group halves.0 in
    let elements = same_le_2 j.element k.element lj.element lk.element halves.1 in
    ((λ i. record { group = groups i; element = elements i }), tags.1)
