-- How long what is written is.
use Rattle.std.proofs.Common.{true, false, ◌≡◌, ◌<◌, ◌≤◌, ◌+◌, ◌^◌, ℕ, zero, suc, Bool, List, [], ◌∷◌, ◌++◌, length, map, min, take, get_or, refl, sym, ap, ◌∙◌, arith}
use Rattle.std.specs.List.{flat_map}
use Rattle.std.proofs.lemmas.List.{length-append, take_all}
use Rattle.ups_dataset.specs.declared.tag.Tag.{Tag}
use Rattle.ups_dataset.specs.declared.vr.Vr.{Vr}
use Rattle.ups_pdu.specs.declared.syntax.TransferSyntax.{TransferSyntax}
use Rattle.ups_pdu.specs.declared.syntax.TransferSyntax.TheVariants.{Implicit, Explicit}
use Rattle.ups_dataset.specs.declared.set.Element.{Element}
use Rattle.ups_dataset.specs.Vr.{letters, is_long}
use Rattle.ups_dataset.specs.Data.{El, items_of, weight, weight_data, weight_items}
use Rattle.ups_dataset.specs.View.{element_view, value_view}
use Rattle.ups_dataset.specs.Written.{written_length, written, written_head, written_items, written_element, sequence_item}

pub written_map : (syntax : TransferSyntax) {A : Type 0} (es : List (Element A)) → written syntax (map element_view es) ≡ flat_map (λ e. written_element syntax (element_view e)) es
written_map syntax [] = refl
written_map syntax (e ∷ es) = ap (λ l. written_element syntax (element_view e) ++ l) (written_map syntax es)

pub written_sets : (syntax : TransferSyntax) (ss : List (List El)) → written_items syntax (items_of ss) ≡ flat_map (sequence_item syntax) ss
written_sets syntax [] = refl
written_sets syntax (s ∷ ss) = ap (λ l. sequence_item syntax s ++ l) (written_sets syntax ss)

pub part_le : {X : Type 0} (f : X → List ℕ) (xs : List X) (i : ℕ) (x : X) → i < length xs → x ≡ get_or xs i x → length (f x) ≤ length (flat_map f xs)
part_le f [] i x low e = absurd (omega (arith, low))
part_le f (y ∷ ys) zero x low e = omega (arith, ap (λ z. length (f z)) e, length-append (f y) (flat_map f ys))
part_le f (y ∷ ys) (suc i) x low e = omega (arith, part_le f ys i x (omega (arith, low)) e, length-append (f y) (flat_map f ys))

pub all_elements : (syntax : TransferSyntax) (n i : ℕ) {A : Type 0} (es : List (Element A)) (set : List El) → map element_view es ≡ set → length es ≤ i → n ≡ min (length (flat_map (λ e. written_element syntax (element_view e)) (take i es))) 18446744073709551615 → n ≡ min (length (written syntax set)) 18446744073709551615
all_elements syntax n i es set v low e = e ∙ ap (λ l. min (length (flat_map (λ x. written_element syntax (element_view x)) l)) 18446744073709551615) (take_all i es low) ∙ ap (λ l. min (length l) 18446744073709551615) (sym (written_map syntax es) ∙ ap (λ l. written syntax l) v)

pub all_items : (syntax : TransferSyntax) (n i : ℕ) (ss : List (List El)) → length ss ≤ i → n ≡ min (length (flat_map (sequence_item syntax) (take i ss))) 18446744073709551615 → n ≡ min (length (written_items syntax (items_of ss))) 18446744073709551615
all_items syntax n i ss low e = e ∙ ap (λ l. min (length (flat_map (sequence_item syntax) l)) 18446744073709551615) (take_all i ss low) ∙ ap (λ l. min (length l) 18446744073709551615) (sym (written_sets syntax ss))

-- all were written
pub put_elements : (syntax : TransferSyntax) (new old : List ℕ) (i : ℕ) {A : Type 0} (es : List (Element A)) (set : List El) → map element_view es ≡ set → length es ≤ i → new ≡ old ++ flat_map (λ e. written_element syntax (element_view e)) (take i es) → new ≡ old ++ written syntax set
put_elements syntax new old i es set v low e = e ∙ ap (λ l. old ++ flat_map (λ x. written_element syntax (element_view x)) l) (take_all i es low) ∙ ap (λ l. old ++ l) (sym (written_map syntax es) ∙ ap (λ l. written syntax l) v)

pub put_items : (syntax : TransferSyntax) (new old : List ℕ) (i : ℕ) (ss : List (List El)) → length ss ≤ i → new ≡ old ++ flat_map (sequence_item syntax) (take i ss) → new ≡ old ++ written_items syntax (items_of ss)
put_items syntax new old i ss low e = e ∙ ap (λ l. old ++ flat_map (sequence_item syntax) l) (take_all i ss low) ∙ ap (λ l. old ++ l) (sym (written_sets syntax ss))

pub element_small : (syntax : TransferSyntax) {A : Type 0} (es : List (Element A)) (set : List El) (i : ℕ) (e : Element A) → map element_view es ≡ set → length (written syntax set) < 2 ^ 32 → i < length es → e ≡ get_or es i e → length (written_element syntax (element_view e)) < 2 ^ 32
element_small syntax es set i e v small low is = omega (arith, small, ap (λ l. length (written syntax l)) v, ap (λ l. length l) (written_map syntax es), part_le (λ x. written_element syntax (element_view x)) es i e low is)

pub item_small : (syntax : TransferSyntax) (ss : List (List El)) (i : ℕ) (s : List El) → length (written_items syntax (items_of ss)) < 2 ^ 32 → i < length ss → s ≡ get_or ss i s → length (sequence_item syntax s) < 2 ^ 32
item_small syntax ss i s small low is = omega (arith, small, ap (λ l. length l) (written_sets syntax ss), part_le (sequence_item syntax) ss i s low is)

in_weight : {A : Type 0} (es : List (Element A)) (i : ℕ) (e : Element A) → i < length es → e ≡ get_or es i e → weight_data (value_view e.value) ≤ weight (map element_view es)
in_weight [] i e low is = absurd (omega (arith, low))
in_weight (x ∷ xs) zero e low is = omega (arith, ap (λ (y : Element _). weight_data (value_view y.value)) is)
in_weight (x ∷ xs) (suc i) e low is = omega (arith, in_weight xs i e (omega (arith, low)) is)

pub element_weight : {A : Type 0} (es : List (Element A)) (set : List El) (i : ℕ) (e : Element A) → map element_view es ≡ set → i < length es → e ≡ get_or es i e → weight_data (value_view e.value) ≤ weight set
element_weight es set i e v low is = omega (arith, in_weight es i e low is, ap (λ l. weight l) v)

pub item_weight : (ss : List (List El)) (i : ℕ) (s : List El) → i < length ss → s ≡ get_or ss i s → weight s + 1 ≤ weight_items (items_of ss)
item_weight [] i s low is = absurd (omega (arith, low))
item_weight (x ∷ xs) zero s low is = omega (arith, ap (λ l. weight l) is)
item_weight (x ∷ xs) (suc i) s low is = omega (arith, item_weight xs i s (omega (arith, low)) is)
