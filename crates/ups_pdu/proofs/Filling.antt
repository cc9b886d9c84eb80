-- Things that fill the bytes, from the first on.
use Rattle.std.proofs.Common.{ℕ, ◌<◌, List, [], ◌∷◌, length, ap, subst, arith}
use Rattle.ups_pdu.specs.Each.{Each}
use Rattle.ups_pdu.specs.Item.{Item, IsItem}
use Rattle.ups_pdu.specs.Lengths.{AreFilled, IsFilledItem, AnyContent}
use Rattle.ups_pdu.proofs.Sequence.{IsOneWay, splits}
use Rattle.ups_pdu.proofs.ItemWays.{item_way}

abbrev Fill : {X : Type 0} → (List ℕ → X → List ℕ → Type 0) → List ℕ → Type 0
Fill {X} Front bytes = (xs : List X) × Each Front bytes xs

-- filled bytes that are not none begin with a thing
pub fill_none : {X : Type 0} (Front : List ℕ → X → List ℕ → Type 0) (bytes : List ℕ) → 0 < length bytes → ((x : X) → (rest : List ℕ) → Front bytes x rest → ⊥) → Fill Front bytes → ⊥
fill_none Front bytes some none ([], e) = omega (arith, ap length e)
fill_none Front bytes some none (x ∷ xs, (r, first, more)) = none x r first

pub fill_back : {X : Type 0} (Front : List ℕ → X → List ℕ → Type 0) (bytes : List ℕ) (x : X) (rest : List ℕ) → Front bytes x rest → Fill Front rest → Fill Front bytes
fill_back Front bytes x rest is (xs, each) = (x ∷ xs, (rest, is, each))

pub fill_on : {X : Type 0} (Front : List ℕ → X → List ℕ → Type 0) → IsOneWay Front → (bytes : List ℕ) (x : X) (rest : List ℕ) → Front bytes x rest → Fill Front bytes → Fill Front rest
fill_on Front way bytes x rest is (xs, each) = let s = splits Front way bytes x rest is xs each in (s.tail, s.more)

pub not_filled : (Filled : ℕ → List ℕ → Type 0) (bytes : List ℕ) → 0 < length bytes → ((item : Item) → (rest : List ℕ) → IsItem bytes item rest → ⊥) → AreFilled Filled bytes → ⊥
not_filled Filled bytes some none f = fill_none (IsFilledItem Filled) bytes some (λ x r p. none x r p.is) f

pub never_filled : (Filled : ℕ → List ℕ → Type 0) (bytes : List ℕ) (item : Item) (rest : List ℕ) → IsItem bytes item rest → (Filled item.kind item.content → ⊥) → AreFilled Filled bytes → ⊥
never_filled Filled bytes item rest is unfilled ([], e) = omega (arith, item_way.some bytes item rest is, ap length e)
never_filled Filled bytes item rest is unfilled (x ∷ xs, (r, first, more)) =
    let same = item_way.one bytes x item r rest first.is is in
    unfilled (subst (λ (y : Item). Filled y.kind y.content) same.0 first.filled)

pub filled_back : (Filled : ℕ → List ℕ → Type 0) (bytes : List ℕ) (item : Item) (rest : List ℕ) → IsItem bytes item rest → Filled item.kind item.content → AreFilled Filled rest → AreFilled Filled bytes
filled_back Filled bytes item rest is filled f = fill_back (IsFilledItem Filled) bytes item rest (record { is = is; filled = filled }) f

pub filled_on : (Filled : ℕ → List ℕ → Type 0) (bytes : List ℕ) (item : Item) (rest : List ℕ) → IsItem bytes item rest → AreFilled Filled bytes → AreFilled Filled rest
filled_on Filled bytes item rest is ([], e) = absurd (omega (arith, item_way.some bytes item rest is, ap length e))
filled_on Filled bytes item rest is (x ∷ xs, (r, first, more)) =
    let same = item_way.one bytes x item r rest first.is is in
    (xs, subst (λ (l : List ℕ). Each (IsFilledItem Filled) l xs) same.1 more)

-- filled items are items
pub items_of_filled : (Filled : ℕ → List ℕ → Type 0) (bytes : List ℕ) (items : List Item) → Each (IsFilledItem Filled) bytes items → Each IsItem bytes items
items_of_filled Filled bytes [] e = e
items_of_filled Filled bytes (x ∷ xs) (r, first, more) = (r, first.is, items_of_filled Filled r xs more)

-- items that ask nothing of their contents fill the bytes where items do
pub filled_from_items : (bytes : List ℕ) (items : List Item) → Each IsItem bytes items → Each (IsFilledItem AnyContent) bytes items
filled_from_items bytes [] e = e
filled_from_items bytes (x ∷ xs) (r, first, more) = (r, record { is = first; filled = tt }, filled_from_items r xs more)
