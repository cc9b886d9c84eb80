-- A loop that builds what stands one after the other.
use Rattle.std.proofs.Common.{true, false, ◌≡◌, ◌≤◌, ◌+◌, ◌++◌, ℕ, Bool, List, [], ◌∷◌, length, arith, refl, ap, ◌∙◌, subst, if◌then◌else◌}
use Rattle.ups_dataset.specs.declared.tag.Tag.{Tag}
use Rattle.ups_dataset.specs.declared.vr.Vr.{Vr}
use Rattle.ups_pdu.specs.declared.syntax.TransferSyntax.{TransferSyntax}
use Rattle.ups_dataset.specs.declared.head.Reach.{Reach}
use Rattle.ups_dataset.specs.declared.fault.SetFault.{SetFault}
use Rattle.ups_dataset.specs.Tag.{number, is_group_length, item_delimitation, sequence_delimitation}
use Rattle.ups_dataset.specs.Head.{IsKnown, IsSequenceItem, Ends, Spans}
use Rattle.ups_dataset.specs.Data.{Data, Items, no_items, item, Elements, no_elements, element, El, elements_of, items_of}
use Rattle.ups_dataset.specs.Spelling.{SpellsElements, SpellsItems, kept, kept_data, kept_items}
use Rattle.ups_dataset.specs.Failing.{ElementsFail, ItemsFail, behind_value, behind_item}
use Rattle.ups_dataset.specs.Building.{keeps, BuildsValue, BuildsElements, BuildsItems}
use Rattle.ups_dataset.specs.Limits.{max_depth}
use Rattle.ups_dataset.specs.Valid.{AreElements, IsDataSet}
use Rattle.ups_dataset.proofs.Fitting.{fit_elements}
use Rattle.ups_dataset.proofs.Goods.{known_rises, known_shorter, mark_shorter, data_shorter, elements_shorter, spans_shorter, item_deep}

abbrev pub joined : List El → Elements → Elements
joined [] es = es
joined (x ∷ xs) es = element x.tag x.vr x.value (joined xs es)

abbrev pub joined_items : List (List El) → Items → Items
joined_items [] is = is
joined_items (s ∷ ss) is = item (elements_of s) (joined_items ss is)

joined_end : (xs : List El) → joined xs no_elements ≡ elements_of xs
joined_end [] = refl
joined_end (x ∷ xs) = ap (λ l. element x.tag x.vr x.value l) (joined_end xs)

joined_next : (xs : List El) (x : El) (es : Elements) → joined xs (element x.tag x.vr x.value es) ≡ joined (xs ++ x ∷ []) es
joined_next [] x es = refl
joined_next (y ∷ ys) x es = ap (λ l. element y.tag y.vr y.value l) (joined_next ys x es)

joined_items_end : (xs : List (List El)) → joined_items xs no_items ≡ items_of xs
joined_items_end [] = refl
joined_items_end (x ∷ xs) = ap (λ l. item (elements_of x) l) (joined_items_end xs)

joined_items_next : (xs : List (List El)) (x : List El) (is : Items) → joined_items xs (item (elements_of x) is) ≡ joined_items (xs ++ x ∷ []) is
joined_items_next [] x is = refl
joined_items_next (y ∷ ys) x is = ap (λ l. item (elements_of y) l) (joined_items_next ys x is)

-- what is spelled from here on is, behind what was built, spelled from the start; and what fails fails from the start
pub record ElementsGrow (syntax : TransferSyntax) (level : ℕ) (reach : Reach) (text : List ℕ) (from : ℕ) (rest : List ℕ) (xs : List El) : Type 0 where
  pub spelled : (es : Elements) (end : List ℕ) → SpellsElements syntax level reach from rest es end → (fs : Elements) × SpellsElements syntax level reach 0 text fs end × (kept fs ≡ joined xs (kept es))
  pub fails : (fault : SetFault) → ElementsFail syntax level reach from rest fault → ElementsFail syntax level reach 0 text fault
  pub left : length rest ≤ length text

pub record ItemsGrow (syntax : TransferSyntax) (level : ℕ) (reach : Reach) (text rest : List ℕ) (xs : List (List El)) : Type 0 where
  pub spelled : (is : Items) (end : List ℕ) → SpellsItems syntax level reach rest is end → (js : Items) × SpellsItems syntax level reach text js end × (kept_items js ≡ joined_items xs (kept_items is))
  pub fails : (fault : SetFault) → ItemsFail syntax level reach rest fault → ItemsFail syntax level reach text fault
  pub left : length rest ≤ length text

grow : (syntax : TransferSyntax) (level : ℕ) (reach : Reach) (text : List ℕ) (from : ℕ) (rest : List ℕ) (xs ys : List El) (tag : Tag) (vr : Vr) (len : ℕ) (after : List ℕ) (value : Data) (kept_vr : Vr) (next : List ℕ)
    → ((end : List ℕ) → Ends item_delimitation reach rest end → ⊥) → IsKnown syntax from rest tag vr len after → (b : BuildsValue syntax level vr len after value kept_vr next)
    → ((es : Elements) → joined xs (kept (element tag kept_vr b.all es)) ≡ joined ys (kept es))
    → ElementsGrow syntax level reach text from rest xs → ElementsGrow syntax level reach text (number tag + 1) next ys
grow syntax level reach text from rest xs ys tag vr len after value kept_vr next more known b e go = record {
  spelled = λ es end s. let r = go.spelled (element tag kept_vr b.all es) end (next, vr, len, after, known.head, known_rises syntax from rest tag vr len after known, b.spelled, s) in (r.0, r.1, r.2 ∙ e es);
  fails = λ fault f. go.fails fault (behind_value syntax level reach from rest fault tag vr len after kept_vr b.all next more known b.spelled f);
  left = omega (arith, go.left, known_shorter syntax from rest tag vr len after known, data_shorter syntax level vr len after kept_vr b.all next b.spelled);
}

kept_by : (xs : List El) (tag : Tag) (vr : Vr) (d value : Data) (es : Elements) (b : Bool) → kept_data d ≡ value
    → joined xs (if b then kept es else element tag vr (kept_data d) (kept es)) ≡ joined (if b then xs else xs ++ record { tag = tag; vr = vr; value = value } ∷ []) (kept es)
kept_by xs tag vr d value es true e = refl
kept_by xs tag vr d value es false e = ap (λ (v : Data). joined xs (element tag vr v (kept es))) e ∙ joined_next xs (record { tag = tag; vr = vr; value = value }) (kept es)

pub grow_by : (syntax : TransferSyntax) (level : ℕ) (reach : Reach) (text : List ℕ) (from : ℕ) (rest : List ℕ) (xs : List El) (tag : Tag) (vr : Vr) (len : ℕ) (after : List ℕ) (value : Data) (kept_vr : Vr) (next : List ℕ)
    → ((end : List ℕ) → Ends item_delimitation reach rest end → ⊥) → IsKnown syntax from rest tag vr len after → BuildsValue syntax level vr len after value kept_vr next
    → ElementsGrow syntax level reach text from rest xs → ElementsGrow syntax level reach text (number tag + 1) next (keeps tag kept_vr value xs)
grow_by syntax level reach text from rest xs tag vr len after value kept_vr next more known b go =
    grow syntax level reach text from rest xs (keeps tag kept_vr value xs) tag vr len after value kept_vr next more known b (λ es. kept_by xs tag kept_vr b.all value es (is_group_length tag) b.is) go

pub grow_item : (syntax : TransferSyntax) (level : ℕ) (reach : Reach) (text rest : List ℕ) (xs : List (List El)) (len : ℕ) (after : List ℕ) (within : Reach) (inner left next : List ℕ) (set : List El)
    → ((end : List ℕ) → Ends sequence_delimitation reach rest end → ⊥) → IsSequenceItem level rest len after → Spans len after within inner left next → BuildsElements syntax (level + 1) within 0 inner set left
    → ItemsGrow syntax level reach text rest xs → ItemsGrow syntax level reach text next (xs ++ set ∷ [])
grow_item syntax level reach text rest xs len after within inner left next set more is spans b go = record {
  spelled = λ js end s.
      let r = go.spelled (item b.all js) end (next, len, after, is.head, item_deep level rest len after is, within, inner, left, spans, b.spelled, s) in
      (r.0, r.1, r.2 ∙ ap (λ (l : Elements). joined_items xs (item l (kept_items js))) b.is ∙ joined_items_next xs set (kept_items js));
  fails = λ fault f. go.fails fault (behind_item syntax level reach rest fault len after within inner left next b.all more is spans b.spelled f);
  left = omega (arith, go.left, mark_shorter rest _ len after is.head, spans_shorter len after within inner left next spans (elements_shorter syntax (level + 1) within 0 inner b.all left b.spelled));
}

pub grown : (syntax : TransferSyntax) (level : ℕ) (reach : Reach) (text : List ℕ) (from : ℕ) (rest : List ℕ) (xs : List El) (end : List ℕ) → Ends item_delimitation reach rest end → ElementsGrow syntax level reach text from rest xs → BuildsElements syntax level reach 0 text xs end
grown syntax level reach text from rest xs end e go = let r = go.spelled no_elements end e in record { all = r.0; spelled = r.1; is = r.2 ∙ joined_end xs }

pub grown_items : (syntax : TransferSyntax) (level : ℕ) (reach : Reach) (text rest : List ℕ) (xs : List (List El)) (end : List ℕ) → Ends sequence_delimitation reach rest end → ItemsGrow syntax level reach text rest xs → BuildsItems syntax level reach text xs end
grown_items syntax level reach text rest xs end e go = let r = go.spelled no_items end e in record { all = r.0; spelled = r.1; is = r.2 ∙ joined_items_end xs }

-- what was built is a data set
pub grown_set : (syntax : TransferSyntax) (level : ℕ) (reach : Reach) (text : List ℕ) (from : ℕ) (rest : List ℕ) (xs : List El) (end : List ℕ) → level ≤ max_depth → Ends item_delimitation reach rest end → ElementsGrow syntax level reach text from rest xs → IsDataSet xs
grown_set syntax level reach text from rest xs end l e go =
    let b = grown syntax level reach text from rest xs end e go in
    subst (λ (es : Elements). AreElements 0 es) b.is (fit_elements syntax level reach 0 text b.all end l b.spelled 0 (omega arith))
