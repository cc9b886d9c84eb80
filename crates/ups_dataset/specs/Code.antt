-- A data set as a list of marks that determines it: with it a proof tells sets apart.
use Rattle.std.specs.Prelude.{ℕ, zero, suc, List, [], ◌∷◌, ◌≡◌, refl}
use Rattle.std.proofs.Common.{ap, ◌∙◌}
use Rattle.std.specs.Coded.{Coded, code_by, coded_ℕ, coded_list, coded×}
use Rattle.ups_dataset.specs.declared.tag.Tag.{Tag}
use Rattle.ups_dataset.specs.contracts.tag.Tag as tags
use Rattle.ups_dataset.specs.declared.vr.Vr.{Vr}
use Rattle.ups_dataset.specs.declared.vr.Vr.TheVariants.{Un}
use Rattle.ups_dataset.specs.contracts.vr.Vr as vrs
use Rattle.ups_dataset.specs.Data.{Data, bytes, items, Items, no_items, item, Elements, no_elements, element, El, elements_of}

-- a mark: a kind, a tag, a value representation and bytes
abbrev pub Mark : Type 0
Mark = ℕ × (Tag × (Vr × List ℕ))

abbrev pub no_tag : Tag
no_tag = record { group = 0; element = 0 }

abbrev pub mark : ℕ → Mark
mark n = (n, (no_tag, (Un, [])))

abbrev mutual
  pub marks : Elements → List Mark → List Mark
  marks no_elements k = mark 0 ∷ k
  marks (element tag vr d more) k = marks_value tag vr d (marks more k)

  pub marks_value : Tag → Vr → Data → List Mark → List Mark
  marks_value tag vr (bytes b) k = (1, (tag, (vr, b))) ∷ k
  marks_value tag vr (items is) k = (2, (tag, (vr, []))) ∷ marks_items is k

  pub marks_items : Items → List Mark → List Mark
  marks_items no_items k = mark 3 ∷ k
  marks_items (item es more) k = mark 4 ∷ marks es (marks_items more k)

-- what has been built so far, from the last mark backwards: the sets and the lists of items not yet used
pub record Waiting : Type 0 where
  pub sets : List Elements
  pub lists : List Items

abbrev pub first_set : List Elements → Elements
first_set [] = no_elements
first_set (s ∷ ss) = s

abbrev pub first_list : List Items → Items
first_list [] = no_items
first_list (s ∷ ss) = s

abbrev pub behind : {A : Type 0} → List A → List A
behind [] = []
behind (x ∷ xs) = xs

abbrev pub build : ℕ → Tag → Vr → List ℕ → Waiting → Waiting
build zero tag vr b w = record { sets = no_elements ∷ w.sets; lists = w.lists }
build (suc zero) tag vr b w = record { sets = element tag vr (bytes b) (first_set w.sets) ∷ behind w.sets; lists = w.lists }
build (suc (suc zero)) tag vr b w = record { sets = element tag vr (items (first_list w.lists)) (first_set w.sets) ∷ behind w.sets; lists = behind w.lists }
build (suc (suc (suc zero))) tag vr b w = record { sets = w.sets; lists = no_items ∷ w.lists }
build n tag vr b w = record { sets = behind w.sets; lists = item (first_set w.sets) (first_list w.lists) ∷ behind w.lists }

abbrev pub built : List Mark → Waiting
built [] = record { sets = []; lists = [] }
built (m ∷ ms) = build m.0 m.1.0 m.1.1.0 m.1.1.1 (built ms)

mutual
  pub built_marks : (es : Elements) (k : List Mark) → built (marks es k) ≡ record { sets = es ∷ (built k).sets; lists = (built k).lists }
  built_marks no_elements k = refl
  built_marks (element tag vr (bytes b) more) k = ap (build 1 tag vr b) (built_marks more k)
  built_marks (element tag vr (items is) more) k = ap (build 2 tag vr []) (built_items is (marks more k) ∙ ap (λ (w : Waiting). record { sets = w.sets; lists = is ∷ w.lists }) (built_marks more k))

  pub built_items : (is : Items) (k : List Mark) → built (marks_items is k) ≡ record { sets = (built k).sets; lists = is ∷ (built k).lists }
  built_items no_items k = refl
  built_items (item es more) k = ap (build 4 no_tag Un []) (built_marks es (marks_items more k) ∙ ap (λ (w : Waiting). record { sets = es ∷ w.sets; lists = w.lists }) (built_items more k))

abbrev pub list_of : Elements → List El
list_of no_elements = []
list_of (element tag vr d more) = record { tag = tag; vr = vr; value = d } ∷ list_of more

pub list_of-elements_of : (es : List El) → list_of (elements_of es) ≡ es
list_of-elements_of [] = refl
list_of-elements_of (e ∷ es) = ap (λ l. e ∷ l) (list_of-elements_of es)

abbrev pub set_marks : List El → List Mark
set_marks es = marks (elements_of es) []

abbrev pub set_from : List Mark → List El
set_from ms = list_of (first_set (built ms).sets)

pub set_from-set_marks : (es : List El) → set_from (set_marks es) ≡ es
set_from-set_marks es = ap (λ (w : Waiting). list_of (first_set w.sets)) (built_marks (elements_of es) []) ∙ list_of-elements_of es

abbrev pub set_code : Coded (List El)
set_code = code_by (List Mark) (coded_list (coded× coded_ℕ (coded× tags.the_row.coded (coded× vrs.the_row.coded (coded_list coded_ℕ))))) set_marks set_from set_from-set_marks
