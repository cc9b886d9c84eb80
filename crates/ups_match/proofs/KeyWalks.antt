-- Sets and items, one after another.
use Rattle.std.proofs.Common.{◌≡◌, ◌<◌, ◌≤◌, ◌+◌, ◌&&◌, ℕ, ℤ, zero, suc, Bool, true, false, cond, List, [], ◌∷◌, length, map, drop, get_or, refl, sym, ap, ◌∙◌, arith, add-one, drop-cons}
use Rattle.std.specs.Prelude.{Option, None, Some, ◌||◌, if◌then◌else◌}
use Rattle.std.specs.Option.{option_map}
use Rattle.ups_dataset.specs.declared.tag.Tag.{Tag}
use Rattle.ups_dataset.specs.declared.set.Element.{Element}
use Rattle.ups_dataset.specs.Tag.{is_tag}
use Rattle.ups_dataset.specs.Data.{El, Elements, element, element_at, elements_of, items_of, weight, weight_data, weight_elements}
use Rattle.ups_dataset.specs.View.{element_view, value_view}
use Rattle.ups_match.specs.declared.fault.KeyFault.{KeyFault}
use Rattle.ups_match.specs.declared.fault.KeyFault.TheVariants.{TwoItems}
use Rattle.ups_match.specs.Matching.{value_at, items_fault, keys_fault, key_fault, first_key_fault, is_universal_key, value_matches, all_match}
use Rattle.ups_match.specs.Values.{is_no_key}

-- the elements from one on
pub from_here : {A : Type 0} (es : List (Element A)) (i : ℕ) (e : Element A) → i < length es → e ≡ get_or es i e → elements_of (map element_view (drop i es)) ≡ element e.tag e.vr (value_view e.value) (elements_of (map element_view (drop (i + 1) es)))
from_here es i e low is =
    rw (add-one, drop-cons es i e) (ap (λ (x : Element _). element x.tag x.vr (value_view x.value) (elements_of (map element_view (drop (suc i) es)))) (sym is))

pub value_at_is : (tag : Tag) (row : List El) → value_at tag (elements_of row) ≡ option_map (λ e. e.value) (element_at tag row)
value_at_is tag [] = refl
value_at_is tag (e ∷ es) = here (is_tag e.tag tag) (value_at_is tag es)
  where
    here : (b : Bool) → value_at tag (elements_of es) ≡ option_map (λ e. e.value) (element_at tag es) → cond b (Some e.value) (value_at tag (elements_of es)) ≡ option_map (λ e. e.value) (cond b (Some e) (element_at tag es))
    here true same = refl
    here false same = same

pub many_fail : (offset : ℤ) (ss : List (List El)) → 1 < length ss → items_fault offset (items_of ss) ≡ Some TwoItems
many_fail offset [] h = absurd (omega arith)
many_fail offset (s ∷ []) h = absurd (omega arith)
many_fail offset (s ∷ r ∷ ss) h = refl

-- the fault of a key is that of the keys from it on
pub fault_here : {A : Type 0} (offset : ℤ) (es : List (Element A)) (i : ℕ) (e : Element A) (fault : KeyFault) → i < length es → e ≡ get_or es i e → Some fault ≡ (if is_no_key e.tag then None else key_fault offset e.tag (value_view e.value)) → Some fault ≡ keys_fault offset (elements_of (map element_view (drop i es)))
fault_here offset es i e fault low is h =
    ap (λ (o : Option KeyFault). first_key_fault o (keys_fault offset (elements_of (map element_view (drop (i + 1) es))))) h ∙ sym (ap (keys_fault offset) (from_here es i e low is))

-- where a key doesn't match, the keys from it on don't
pub no_match_here : {A : Type 0} (offset : ℤ) (row : Elements) (es : List (Element A)) (i : ℕ) (e : Element A) → i < length es → e ≡ get_or es i e → (is_universal_key e.tag (value_view e.value) || value_matches offset e.tag (value_view e.value) (value_at e.tag row)) ≡ false → false ≡ all_match offset (elements_of (map element_view (drop i es))) row
no_match_here offset row es i e low is h =
    sym (ap (λ (b : Bool). b && all_match offset (elements_of (map element_view (drop (i + 1) es))) row) h) ∙ sym (ap (λ (k : Elements). all_match offset k row) (from_here es i e low is))

-- an element weighs no more than its set
in_weight : {A : Type 0} (es : List (Element A)) (i : ℕ) (e : Element A) → i < length es → e ≡ get_or es i e → weight_data (value_view e.value) ≤ weight_elements (elements_of (map element_view es))
in_weight [] i e low is = absurd (omega (arith, low))
in_weight (x ∷ xs) zero e low is = omega (arith, ap (λ (y : Element _). weight_data (value_view y.value)) is)
in_weight (x ∷ xs) (suc i) e low is = omega (arith, in_weight xs i e (omega (arith, low)) is)

pub element_weight : {A : Type 0} (es : List (Element A)) (set : List El) (i : ℕ) (e : Element A) → map element_view es ≡ set → i < length es → e ≡ get_or es i e → weight_data (value_view e.value) ≤ weight set
element_weight es set i e v low is = omega (arith, in_weight es i e low is, ap (λ (l : List El). weight l) v)
