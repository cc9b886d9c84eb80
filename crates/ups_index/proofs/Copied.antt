-- What is stored, value by value.
use Rattle.std.proofs.Common.{◌≡◌, ℕ, ◌+◌, ◌<◌, Bool, true, false, cond, not, List, [], ◌∷◌, ◌++◌, length, get_or, map, filter, take, refl, sym, ap, ◌∙◌, append_assoc}
use Rattle.std.specs.List.{slice_split}
use Rattle.std.proofs.lemmas.List.{take_more, map-append}
use Rattle.ups_pdu.specs.Padding.{is_nil, without_padding}
use Rattle.ups_dataset.specs.declared.tag.Tag.{Tag}
use Rattle.ups_dataset.specs.declared.dictionary.TheConstants.{CODE_VALUE}
use Rattle.ups_dataset.specs.Data.{El, elements_of, items_of}
use Rattle.ups_match.specs.Matching.{value_at}
use Rattle.ups_match.specs.Values.{is_backslash}
use Rattle.ups_index.specs.Stored.{nonempty, values_in, stored_values, codes_in, under}

-- the first value, and then the others
abbrev pub values_of_list : List (List ℕ) → List (List ℕ)
values_of_list vs = filter (λ v. not (is_nil v)) (map without_padding vs)

kept_first : (v : List ℕ) (rest : List (List ℕ)) → cond (not (is_nil v)) (v ∷ rest) rest ≡ nonempty v ++ rest
kept_first v rest = here (is_nil v)
  where
    here : (b : Bool) → cond (not b) (v ∷ rest) rest ≡ cond b [] (v ∷ []) ++ rest
    here true = refl
    here false = refl

pub first_value : (text value : List ℕ) (others : List (List ℕ)) → slice_split is_backslash text ≡ value ∷ others → values_in text ≡ nonempty (without_padding value) ++ values_of_list others
first_value text value others e = ap values_of_list e ∙ kept_first (without_padding value) (values_of_list others)

under_append : (tag : Tag) (a b : List (List ℕ)) → under tag (a ++ b) ≡ under tag a ++ under tag b
under_append tag a b = map-append (λ text. (tag, text)) a b

-- one value more is put
pub more_put : (tag : Tag) (old new after : List (Tag × List ℕ)) (text value : List ℕ) (others : List (List ℕ)) (v : List ℕ) → v ≡ without_padding value → slice_split is_backslash text ≡ value ∷ others
    → after ≡ new ++ under tag (nonempty v) → new ++ under tag (values_in text) ≡ old → after ++ under tag (values_of_list others) ≡ old
more_put tag old new after text value others v ve e put is =
    ap (λ (t : List (Tag × List ℕ)). t ++ under tag (values_of_list others)) put
    ∙ append_assoc new (under tag (nonempty v)) (under tag (values_of_list others))
    ∙ ap (λ (t : List (Tag × List ℕ)). new ++ t) (sym (under_append tag (nonempty v) (values_of_list others)))
    ∙ ap (λ (t : List (List ℕ)). new ++ under tag t) (ap (λ (w : List ℕ). nonempty w ++ values_of_list others) ve ∙ sym (first_value text value others e))
    ∙ is

pub append_nil : (xs : List (Tag × List ℕ)) → xs ++ [] ≡ xs
append_nil [] = refl
append_nil (x ∷ xs) = ap (λ (t : List (Tag × List ℕ)). x ∷ t) (append_nil xs)

pub all_put : (tag : Tag) (old after : List (Tag × List ℕ)) (others : List (List ℕ)) → others ≡ [] → after ++ under tag (values_of_list others) ≡ old → after ≡ old
all_put tag old after others e is = sym (append_nil after) ∙ sym (ap (λ (t : List (List ℕ)). after ++ under tag (values_of_list t)) e) ∙ is

-- one item more
codes_push : (sets : List (List El)) (s : List El) → codes_in (items_of (sets ++ s ∷ [])) ≡ codes_in (items_of sets) ++ stored_values (value_at CODE_VALUE (elements_of s))
codes_push [] s = nil_right (stored_values (value_at CODE_VALUE (elements_of s)))
  where
    nil_right : (xs : List (List ℕ)) → xs ++ [] ≡ xs
    nil_right [] = refl
    nil_right (x ∷ xs) = ap (λ (t : List (List ℕ)). x ∷ t) (nil_right xs)
codes_push (t ∷ ts) s =
    ap (λ (c : List (List ℕ)). stored_values (value_at CODE_VALUE (elements_of t)) ++ c) (codes_push ts s)
    ∙ sym (append_assoc (stored_values (value_at CODE_VALUE (elements_of t))) (codes_in (items_of ts)) (stored_values (value_at CODE_VALUE (elements_of s))))

pub codes_more : (tag : Tag) (sets : List (List El)) (i : ℕ) (s : List El) (begun new after : List (Tag × List ℕ)) → i < length sets → s ≡ get_or sets i s
    → new ≡ begun ++ under tag (codes_in (items_of (take i sets))) → after ≡ new ++ under tag (stored_values (value_at CODE_VALUE (elements_of s))) → after ≡ begun ++ under tag (codes_in (items_of (take (i + 1) sets)))
codes_more tag sets i s begun new after l is so_far put =
    let code = stored_values (value_at CODE_VALUE (elements_of s)) in
    put ∙ ap (λ (t : List (Tag × List ℕ)). t ++ under tag code) so_far
    ∙ append_assoc begun (under tag (codes_in (items_of (take i sets)))) (under tag code)
    ∙ ap (λ (t : List (Tag × List ℕ)). begun ++ t) (sym (under_append tag (codes_in (items_of (take i sets))) code))
    ∙ ap (λ (t : List (List ℕ)). begun ++ under tag t) (sym (codes_push (take i sets) s))
    ∙ ap (λ (t : List (List El)). begun ++ under tag (codes_in (items_of t))) (sym (take_more sets i s l ∙ ap (λ (x : List El). take i sets ++ x ∷ []) (sym is)))
