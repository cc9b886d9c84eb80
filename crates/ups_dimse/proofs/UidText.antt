-- The text of a UID has no padding, and padding is taken off again.
use Rattle.std.proofs.Common.{◌≡◌, ℕ, ◌+◌, ◌≤◌, ◌%◌, eqb, Bool, true, false, ◌&&◌, cond, List, [], ◌∷◌, ◌++◌, length, refl, sym, ap, ◌∙◌, arith}
use Rattle.std.specs.List.{list_all, slice_split, onto_first}
use Rattle.std.proofs.lemmas.Bool.Decides.{nat_tests}
use Rattle.std.proofs.lemmas.List.{length-append}
use Rattle.ups_pdu.specs.Identifier.{IsUid, SpellsUid, is_digit, is_dot, is_component}
use Rattle.ups_pdu.specs.Padding.{is_nil, is_padding, without_padding}
use Rattle.ups_pdu.proofs.Trailing.{padding_goes}
use Rattle.ups_dimse.specs.Written.{padded_uid}

both : (a b : Bool) → (a && b) ≡ true → (a ≡ true) × (b ≡ true)
both true true e = (refl, refl)
both true false e = cc
both false b e = cc

digits_onto : (b : ℕ) (parts : List (List ℕ)) → list_all (list_all is_digit) (onto_first b parts) ≡ true → (is_digit b ≡ true) × (list_all (list_all is_digit) parts ≡ true)
digits_onto b [] e = ((both (is_digit b) true (both (is_digit b && true) true e).0).0, refl)
digits_onto b (part ∷ parts) e =
    let outer = both (is_digit b && list_all is_digit part) (list_all (list_all is_digit) parts) e in
    let inner = both (is_digit b) (list_all is_digit part) outer.0 in
    let whole : (list_all is_digit part && list_all (list_all is_digit) parts) ≡ true = ap (λ (x : Bool). x && list_all (list_all is_digit) parts) inner.1 ∙ outer.1 in
    (inner.0, whole)

digit_no_padding : (b : ℕ) → is_digit b ≡ true → is_padding b ≡ false
digit_no_padding b h = grind (arith, nat_tests)

dot_no_padding : (b : ℕ) → is_dot b ≡ true → is_padding b ≡ false
dot_no_padding b h = grind (arith, nat_tests)

stays : (b : ℕ) (bs : List ℕ) → is_padding b ≡ false → without_padding bs ≡ bs → without_padding (b ∷ bs) ≡ b ∷ bs
stays b bs n e = ap (λ (t : Bool). cond (t && is_nil (without_padding bs)) [] (b ∷ without_padding bs)) n ∙ ap (λ (l : List ℕ). b ∷ l) e

clean_by : (b : ℕ) (bs : List ℕ) (dot : Bool) → is_dot b ≡ dot → list_all (list_all is_digit) (cond dot ([] ∷ slice_split is_dot bs) (onto_first b (slice_split is_dot bs))) ≡ true
    → (is_padding b ≡ false) × (list_all (list_all is_digit) (slice_split is_dot bs) ≡ true)
clean_by b bs true d e = (dot_no_padding b d, e)
clean_by b bs false d e =
    let parts = digits_onto b (slice_split is_dot bs) e in
    (digit_no_padding b parts.0, parts.1)

clean : (text : List ℕ) → list_all (list_all is_digit) (slice_split is_dot text) ≡ true → without_padding text ≡ text
clean [] e = refl
clean (b ∷ bs) e =
    let parts = clean_by b bs (is_dot b) refl e in
    stays b bs parts.0 (clean bs parts.1)

components_digits : (parts : List (List ℕ)) → list_all is_component parts ≡ true → list_all (list_all is_digit) parts ≡ true
components_digits [] e = refl
components_digits (part ∷ parts) e =
    let outer = both (is_component part) (list_all is_component parts) e in
    let digits = (both _ (list_all is_digit part) outer.0).1 in
    ap (λ (x : Bool). x && list_all (list_all is_digit) parts) digits ∙ components_digits parts outer.1

pub without_padding-uid : (uid : List ℕ) → IsUid uid → without_padding uid ≡ uid
without_padding-uid uid h = clean uid (components_digits (slice_split is_dot uid) h.components)

padded_by : (uid : List ℕ) (even : Bool) → (eqb (length uid % 2) 0) ≡ even → without_padding uid ≡ uid
    → (without_padding (cond even uid (uid ++ 0 ∷ [])) ≡ uid) × (length (cond even uid (uid ++ 0 ∷ [])) % 2 ≡ 0) × (length (cond even uid (uid ++ 0 ∷ [])) ≤ length uid + 1)
padded_by uid true e n = (n, grind (arith, nat_tests), omega arith)
padded_by uid false e n =
    let odd : length uid % 2 ≡ 1 = grind (arith, nat_tests) in
    (padding_goes (uid ++ 0 ∷ []) uid 0 refl refl ∙ n, omega (arith, odd, length-append uid (0 ∷ [])), omega (arith, length-append uid (0 ∷ [])))

pub padded_even : (uid : List ℕ) → IsUid uid → length (padded_uid uid) % 2 ≡ 0
padded_even uid h = (padded_by uid (eqb (length uid % 2) 0) refl (without_padding-uid uid h)).1

pub padded_short : (uid : List ℕ) → IsUid uid → length (padded_uid uid) ≤ 65
padded_short uid h = omega (arith, h.short, (padded_by uid (eqb (length uid % 2) 0) refl (without_padding-uid uid h)).2)

pub padded_spells : (uid : List ℕ) → IsUid uid → SpellsUid (padded_uid uid) uid
padded_spells uid h = record { is_uid = h; parts = sym (padded_by uid (eqb (length uid % 2) 0) refl (without_padding-uid uid h)).0 }
