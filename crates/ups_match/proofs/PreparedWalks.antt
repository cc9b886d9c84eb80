-- Prepared keys, one after another.
use Rattle.std.proofs.Common.{◌≡◌, ◌<◌, ◌≤◌, ◌+◌, ◌&&◌, ℕ, ℤ, zero, suc, Bool, true, false, List, [], ◌∷◌, ◌++◌, length, map, drop, get_or, refl, sym, ap, ◌∙◌, arith, add-one, drop-cons}
use Rattle.std.specs.Prelude.{Option, None, Some, ◌||◌}
use Rattle.std.specs.Option.{option_map}
use Rattle.ups_dataset.specs.declared.tag.Tag.{Tag}
use Rattle.ups_dataset.specs.declared.vr.Vr.TheVariants.{Un}
use Rattle.ups_dataset.specs.declared.set.Element.{Element}
use Rattle.ups_dataset.specs.Data.{Data, El, Elements, element, elements_of, weight, weight_data, weight_elements}
use Rattle.ups_dataset.specs.View.{element_view}
use Rattle.ups_dataset.specs.View as data_set
use Rattle.std.proofs.lemmas.List.{drop_all}
use Rattle.ups_match.specs.declared.prepared.PreparedKey.{PreparedKey}
use Rattle.ups_match.specs.declared.prepared.PreparedValue.{PreparedValue}
use Rattle.ups_match.specs.declared.prepared.PreparedValue.TheVariants as variants
use Rattle.ups_match.specs.Matching.{is_universal_key, value_matches, value_at, all_match}
use Rattle.ups_match.specs.Met.{all_met, value_met, key_met}
use Rattle.ups_match.specs.Prepared.{key_view, prepared_view}
use Rattle.ups_match.proofs.KeyWalks.{from_here}

-- the keys from one on
prepared_from_here : {A : Type 0} (ks : List (PreparedKey A)) (i : ℕ) (k : PreparedKey A) → i < length ks → k ≡ get_or ks i k → elements_of (map key_view (drop i ks)) ≡ element k.tag Un (prepared_view k.value) (elements_of (map key_view (drop (i + 1) ks)))
prepared_from_here ks i k low is =
    rw (add-one, drop-cons ks i k) (ap (λ (x : PreparedKey _). element x.tag Un (prepared_view x.value) (elements_of (map key_view (drop (suc i) ks)))) (sym is))

-- where a key isn't met, the keys from it on aren't
pub not_met_here : {A : Type 0} (offset : ℤ) (row : Elements) (ks : List (PreparedKey A)) (i : ℕ) (k : PreparedKey A) → i < length ks → k ≡ get_or ks i k → value_met offset k.tag (prepared_view k.value) (value_at k.tag row) ≡ false → false ≡ all_met offset (elements_of (map key_view (drop i ks))) row
not_met_here offset row ks i k low is h =
    sym (ap (λ (b : Bool). b && all_met offset (elements_of (map key_view (drop (i + 1) ks))) row) h) ∙ sym (ap (λ (es : Elements). all_met offset es row) (prepared_from_here ks i k low is))

-- what isn't stored meets no key
pub none_met : {A : Type 0} (offset : ℤ) (tag : Tag) (value : PreparedValue A) → false ≡ value_met offset tag (prepared_view value) None
none_met offset tag (variants.Uids list) = refl
none_met offset tag (variants.Text text) = refl
none_met offset tag (variants.Item keys) = refl

-- a key weighs no more than its set
prepared_in_weight : {A : Type 0} (ks : List (PreparedKey A)) (i : ℕ) (k : PreparedKey A) → i < length ks → k ≡ get_or ks i k → weight_data (prepared_view k.value) ≤ weight_elements (elements_of (map key_view ks))
prepared_in_weight [] i k low is = absurd (omega (arith, low))
prepared_in_weight (x ∷ xs) zero k low is = omega (arith, ap (λ (y : PreparedKey _). weight_data (prepared_view y.value)) is)
prepared_in_weight (x ∷ xs) (suc i) k low is = omega (arith, prepared_in_weight xs i k (omega (arith, low)) is)

pub prepared_weight : {A : Type 0} (ks : List (PreparedKey A)) (set : List El) (i : ℕ) (k : PreparedKey A) → map key_view ks ≡ set → i < length ks → k ≡ get_or ks i k → weight_data (prepared_view k.value) ≤ weight set
prepared_weight ks set i k v low is = omega (arith, prepared_in_weight ks i k low is, ap (λ (l : List El). weight l) v)

both : (a b c : Bool) → ((a && b) && c) ≡ (a && (b && c))
both true b c = refl
both false b c = refl

and_true : (a : Bool) → (a && true) ≡ a
and_true true = refl
and_true false = refl

-- with one key more
with_key : {A : Type 0} (offset : ℤ) (row : Elements) (ks : List (PreparedKey A)) (k : PreparedKey A) → all_met offset (elements_of (map key_view (ks ++ k ∷ []))) row ≡ (all_met offset (elements_of (map key_view ks)) row && value_met offset k.tag (prepared_view k.value) (value_at k.tag row))
with_key offset row [] k = and_true (value_met offset k.tag (prepared_view k.value) (value_at k.tag row))
with_key offset row (x ∷ xs) k =
    ap (λ (b : Bool). value_met offset x.tag (prepared_view x.value) (value_at x.tag row) && b) (with_key offset row xs k)
    ∙ sym (both (value_met offset x.tag (prepared_view x.value) (value_at x.tag row)) (all_met offset (elements_of (map key_view xs)) row) (value_met offset k.tag (prepared_view k.value) (value_at k.tag row)))

-- a key is prepared where it isn't universal
abbrev pub Puts : {A : Type 0} → Tag → Option (PreparedValue A) → List (PreparedKey A) → List (PreparedKey A) → Type 0
Puts tag None before after = after ≡ before
Puts tag (Some value) before after = after ≡ before ++ record { tag = tag; value = value } ∷ []

put_met : {A : Type 0} (tag : Tag) (value : Option (PreparedValue A)) (before after : List (PreparedKey A)) → Puts tag value before after → (offset : ℤ) (row : Elements) → all_met offset (elements_of (map key_view after)) row ≡ (all_met offset (elements_of (map key_view before)) row && key_met offset tag (option_map prepared_view value) (value_at tag row))
put_met tag None before after put offset row =
    ap (λ (ks : List (PreparedKey _)). all_met offset (elements_of (map key_view ks)) row) put ∙ sym (and_true (all_met offset (elements_of (map key_view before)) row))
put_met tag (Some value) before after put offset row =
    ap (λ (ks : List (PreparedKey _)). all_met offset (elements_of (map key_view ks)) row) put ∙ with_key offset row before (record { tag = tag; value = value })

-- the keys before one are prepared, so that they and the keys from it on say what all keys say
pub record AreSoFar {A : Type 0} (prepared : List (PreparedKey A)) (es : List (Element A)) (i : ℕ) (keys : List El) : Type 0 where
  pub same : (offset : ℤ) (row : Elements) → (all_met offset (elements_of (map key_view prepared)) row && all_match offset (elements_of (map element_view (drop i es))) row) ≡ all_match offset (elements_of keys) row

pub one_more : {A : Type 0} (es : List (Element A)) (i : ℕ) (e : Element A) (keys : List El) (value : Option (PreparedValue A)) (before after : List (PreparedKey A)) → AreSoFar before es i keys → i < length es → e ≡ get_or es i e → ((offset : ℤ) → (stored : Option Data) → key_met offset e.tag (option_map prepared_view value) stored ≡ (is_universal_key e.tag (data_set.value_view e.value) || value_matches offset e.tag (data_set.value_view e.value) stored)) → Puts e.tag value before after → AreSoFar after es (i + 1) keys
one_more es i e keys value before after so_far low is prepared put = record {
  same = λ offset row.
      let met = all_met offset (elements_of (map key_view before)) row in
      let rest = all_match offset (elements_of (map element_view (drop (i + 1) es))) row in
      ap (λ (b : Bool). b && rest) (put_met e.tag value before after put offset row)
      ∙ both met (key_met offset e.tag (option_map prepared_view value) (value_at e.tag row)) rest
      ∙ ap (λ (b : Bool). met && (b && rest)) (prepared offset (value_at e.tag row))
      ∙ sym (ap (λ (k : Elements). met && all_match offset k row) (from_here es i e low is))
      ∙ so_far.same offset row;
}

-- and all of them are
pub are_all : {A : Type 0} (es : List (Element A)) (i : ℕ) (keys : List El) (prepared : List (PreparedKey A)) → AreSoFar prepared es i keys → length es ≤ i → (offset : ℤ) (row : Elements) → all_met offset (elements_of (map key_view prepared)) row ≡ all_match offset (elements_of keys) row
are_all es i keys prepared so_far all offset row =
    sym (ap (λ (l : List (Element _)). all_met offset (elements_of (map key_view prepared)) row && all_match offset (elements_of (map element_view l)) row) (drop_all i es all) ∙ and_true (all_met offset (elements_of (map key_view prepared)) row))
    ∙ so_far.same offset row
