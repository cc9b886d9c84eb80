-- How deep items nest, counted one after the other.
use Rattle.std.proofs.Common.{◌≡◌, ◌<◌, ◌≤◌, ◌+◌, ℕ, List, [], ◌∷◌, ◌++◌, length, map, max, take, get_or, sym, ap, ◌∙◌, arith}
use Rattle.std.proofs.lemmas.List.{take_more, map-append}
use Rattle.ups_dataset.specs.Limits.{max_depth}
use Rattle.ups_dataset.specs.declared.set.Element.{Element}
use Rattle.ups_dataset.specs.declared.vr.Vr.{Vr}
use Rattle.ups_dataset.specs.Tag.{number}
use Rattle.ups_dataset.specs.Data.{Data, bytes, items, Elements, no_elements, element, El, elements_of, items_of}
use Rattle.ups_dataset.specs.Valid.{depth_data, depth_items, depth_elements, IsValue, AreElements}
use Rattle.ups_dataset.specs.View.{element_view, value_view}

depth_within : (vr : Vr) (d : Data) → IsValue vr d → depth_data d ≤ max_depth
depth_within vr (bytes b) h = omega arith
depth_within vr (items is) (_, h) = h

-- no data set nests too deep
pub within : (low : ℕ) (es : Elements) → AreElements low es → depth_elements es ≤ max_depth
within low no_elements h = omega arith
within low (element tag vr d more) (_, _, is, _, later) = omega (arith, depth_within vr d is.value, within (number tag + 1) more later)

depth_next : (xs : List El) (x : El) → depth_elements (elements_of (xs ++ x ∷ [])) ≡ max (depth_elements (elements_of xs)) (depth_data x.value)
depth_next [] x = omega arith
depth_next (y ∷ ys) x = omega (arith, depth_next ys x)

depth_next_item : (ss : List (List El)) (s : List El) → depth_items (items_of (ss ++ s ∷ [])) ≡ max (depth_items (items_of ss)) (depth_elements (elements_of s) + 1)
depth_next_item [] s = omega arith
depth_next_item (x ∷ ss) s = omega (arith, depth_next_item ss s)

pub depth_more : {A : Type 0} (es : List (Element A)) (i : ℕ) (e : Element A) (deepest depth : ℕ) → i < length es → e ≡ get_or es i e → deepest ≡ depth_elements (elements_of (map element_view (take i es))) → depth ≡ depth_data (value_view e.value)
    → max deepest depth ≡ depth_elements (elements_of (map element_view (take (i + 1) es)))
depth_more es i e deepest depth low is so_far here =
    let more : take (i + 1) es ≡ take i es ++ e ∷ [] = take_more es i e low ∙ ap (λ x. take i es ++ x ∷ []) (sym is) in
    (λ j. max (so_far j) (here j)) ∙ sym (depth_next (map element_view (take i es)) (element_view e))
    ∙ ap (λ (l : List El). depth_elements (elements_of l)) (sym (map-append element_view (take i es) (e ∷ [])))
    ∙ ap (λ (l : List (Element _)). depth_elements (elements_of (map element_view l))) (sym more)

pub depth_more_items : (ss : List (List El)) (i : ℕ) (s : List El) (deepest depth : ℕ) → i < length ss → s ≡ get_or ss i s → deepest ≡ depth_items (items_of (take i ss)) → depth ≡ depth_elements (elements_of s) → max deepest (depth + 1) ≡ depth_items (items_of (take (i + 1) ss))
depth_more_items ss i s deepest depth low is so_far here =
    let more : take (i + 1) ss ≡ take i ss ++ s ∷ [] = take_more ss i s low ∙ ap (λ x. take i ss ++ x ∷ []) (sym is) in
    (λ j. max (so_far j) (here j + 1)) ∙ sym (depth_next_item (take i ss) s) ∙ ap (λ (l : List (List El)). depth_items (items_of l)) (sym more)
