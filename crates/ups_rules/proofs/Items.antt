-- What an item says.
use Rattle.std.proofs.Common.{◌≡◌, ◌∷◌, [], Bool, true, false, cond, List, length, refl}
use Rattle.std.specs.Prelude.{Some}
use Rattle.ups_dataset.specs.declared.tag.Tag.{Tag}
use Rattle.ups_dataset.specs.Tag.{is_tag}
use Rattle.ups_dataset.specs.Data.{El, items, items_of, element_at, elements_of}
use Rattle.ups_life.specs.Values.{has_text, is_said, is_said_in, one_item_says}

pub said_in : (set : List El) (tag : Tag) → is_said_in (elements_of set) tag ≡ is_said (element_at tag set)
said_in [] tag = refl
said_in (e ∷ es) tag = here (is_tag e.tag tag) (said_in es tag)
  where
    here : (b : Bool) → is_said_in (elements_of es) tag ≡ is_said (element_at tag es) → cond b (has_text e.value) (is_said_in (elements_of es) tag) ≡ is_said (cond b (Some e) (element_at tag es))
    here true same = refl
    here false same = same

-- a sequence of no item, or of more than one
pub not_one : (tags : List Tag) (sets : List (List El)) → (length sets ≡ 1 → ⊥) → one_item_says tags (items (items_of sets)) ≡ false
not_one tags [] n = refl
not_one tags (x ∷ []) n = absurd (n refl)
not_one tags (x ∷ y ∷ rest) n = refl
