use Rattle.std.proofs.Common.{◌≡◌, ℕ, List, [], ◌∷◌, false, nat_eq, length, arith, rules}
use Rattle.std.specs.Prelude.{◌==◌}
use Rattle.ups_dataset.specs.Data.{El, items_of}
use Rattle.ups_match.specs.Matching.{universal_items}
use Rattle.std.proofs.lemmas.Bool.Decides.{nat_tests}
use Rattle.ups_match.proofs.KeyWalks.{element_weight}
use Rattle.ups_match.proofs.universal.+universal.Goals as goal

pub all_universal-is_universal_key-requires : goal.all_universal-is_universal_key-requires
all_universal-is_universal_key-requires g t c = λ κs within. (omega (arith, c.decreases, element_weight c.elements-key-items.result.now c.args.keys.now c.loop-key.key-index c.key-item.result c.elements-key-items.ensures (search rules) c.key-item.is), within)

-- no single item
few : (ss : List (List El)) (n : ℕ) → n ≡ length ss → false ≡ (length ss == 0) → (n ≡ 1 → ⊥) → nat_eq n 1 ≡ universal_items (items_of ss)
few [] n e some h = cc
few (s ∷ []) n e some h = absurd (h e)
few (s ∷ r ∷ ss) n e some h = grind (arith, nat_tests)

pub is_universal-returns-else-len-eq1 : goal.is_universal-returns-else-len-eq1
is_universal-returns-else-len-eq1 g t c =
    let same : c.len.result ≡ length c.in-Items.sets.items = search rules in
    let some : false ≡ (length c.in-Items.sets.items == 0) = search rules in
    rw c.in-Items.is (few c.in-Items.sets.items c.len.result same some c.if-len-eq1.false)
