-- What a data set answers to a data set is one.
use Rattle.std.proofs.Common.{◌≡◌, ◌+◌, ℕ, Bool, true, false, if◌then◌else◌, Option, Some, None, List, [], ◌∷◌, refl, subst, arith}
use Rattle.std.specs.Option.{unwrap_or}
use Rattle.ups_dataset.specs.declared.tag.Tag.{Tag}
use Rattle.ups_dataset.specs.declared.vr.Vr.{Vr}
use Rattle.ups_dataset.specs.Tag.{IsTag, number, is_tag}
use Rattle.ups_dataset.specs.Data.{Data, bytes, items, El, elements_of, element_at, without_value, answer_to, answer}
use Rattle.ups_dataset.specs.Valid.{IsValue, IsElement, HoldsSets, AreElements, IsDataSet}
use Rattle.ups_dataset.proofs.Places.{lower, one_number}

-- an element that may stand at this place of a data set
record Stands (place : ℕ) (e : El) : Type 0 where
  at : number e.tag ≡ place
  tag : IsTag e.tag
  element : IsElement e
  sets : HoldsSets e.value

found_step : (t u : Tag) (b : Bool) (x e : El) (rest : Option El) → is_tag u t ≡ b → (if b then Some x else rest) ≡ Some e → Stands (number u) x → (rest ≡ Some e → Stands (number t) e) → Stands (number t) e
found_step t u true x e rest is h here later =
    let same : x ≡ e = cc in
    subst (λ n. Stands n e) (one_number u t is) (subst (λ (y : El). Stands (number u) y) same here)
found_step t u false x e rest is h here later = later h

-- what is found in a data set may stand in one, at the place of the tag that was asked for
found : (low : ℕ) (t : Tag) (e : El) (es : List El) → AreElements low (elements_of es) → element_at t es ≡ Some e → Stands (number t) e
found low t e [] h f = let c : None ≡ Some e = f in absurd cc
found low t e (x ∷ es) (_, tag, is, sets, later) f =
    found_step t x.tag (is_tag x.tag t) x e (element_at t es) refl f (record { at = refl; tag = tag; element = is; sets = sets }) (λ g. found (number x.tag + 1) t e es later g)

no_value : (vr : Vr) (d : Data) → IsValue vr d → IsValue vr (without_value d)
no_value vr (bytes b) (other, _, _) = (other, refl, λ short. omega arith)
no_value vr (items is) (same, _) = (same, omega arith)

no_sets : (d : Data) → HoldsSets (without_value d)
no_sets (bytes b) = tt
no_sets (items is) = tt

answered : (row : List El) (key : El) (o : Option El) → element_at key.tag row ≡ o → IsDataSet row → IsTag key.tag → IsElement key
    → Stands (number key.tag) (unwrap_or o (record { tag = key.tag; vr = key.vr; value = without_value key.value }))
answered row key (Some e) is set tag key_is = found 0 key.tag e row set is
answered row key None is set tag key_is = record {
  at = refl;
  tag = tag;
  element = record { no_mark = key_is.no_mark; no_group_length = key_is.no_group_length; value = no_value key.vr key.value key_is.value };
  sets = no_sets key.value;
}

pub answer_set : (low : ℕ) (row keys : List El) → IsDataSet row → AreElements low (elements_of keys) → AreElements low (elements_of (answer row keys))
answer_set low row [] set h = tt
answer_set low row (k ∷ ks) set (rises, tag, is, sets, later) =
    let a = answered row k (element_at k.tag row) refl set tag is in
    (omega (arith, rises, a.at), a.tag, a.element, a.sets, lower (number k.tag + 1) (number (answer_to row k).tag + 1) (elements_of (answer row ks)) (omega (arith, a.at)) (answer_set (number k.tag + 1) row ks set later))
