-- A UID has no padding.
use Rattle.std.proofs.Common.{◌≡◌, ℕ, ◌≤◌, Bool, true, false, ◌&&◌, cond, List, [], ◌∷◌, length, refl, sym, ap, ◌∙◌, arith}
use Rattle.std.specs.List.{list_all, slice_split, onto_first}
use Rattle.std.proofs.lemmas.Bool.Decides.{nat_tests}
use Rattle.ups_pdu.specs.Padding.{is_padding, is_nil, without_padding}
use Rattle.ups_pdu.specs.Identifier.{is_digit, is_dot, is_component, IsUid, SpellsUid}

both : (a b : Bool) → (a && b) ≡ true → (a ≡ true) × (b ≡ true)
both true b e = (refl, e)
both false b e = absurd cc

digits_of : (parts : List (List ℕ)) → list_all is_component parts ≡ true → list_all (list_all is_digit) parts ≡ true
digits_of [] e = refl
digits_of (p ∷ ps) e =
    let s = both (is_component p) (list_all is_component ps) e in
    let t = both _ (list_all is_digit p) s.0 in
    ap (λ (b : Bool). b && list_all (list_all is_digit) ps) t.1 ∙ digits_of ps s.1

first_digit : (x : ℕ) (parts : List (List ℕ)) → list_all (list_all is_digit) (onto_first x parts) ≡ true → (is_digit x ≡ true) × (list_all (list_all is_digit) parts ≡ true)
first_digit x [] e = let s = both (is_digit x && true) true e in let t = both (is_digit x) true s.0 in (t.0, refl)
first_digit x (p ∷ ps) e =
    let s = both (is_digit x && list_all is_digit p) (list_all (list_all is_digit) ps) e in
    let t = both (is_digit x) (list_all is_digit p) s.0 in
    (t.0, ap (λ (b : Bool). b && list_all (list_all is_digit) ps) t.1 ∙ s.1)

no_digit : (x : ℕ) → is_digit x ≡ true → is_padding x ≡ false
no_digit x e = grind (arith, nat_tests)

no_dot : (x : ℕ) → is_dot x ≡ true → is_padding x ≡ false
no_dot x e = grind (arith, nat_tests)

stays : (x : ℕ) (rest : List ℕ) (b : Bool) → is_padding x ≡ false → cond (is_padding x && b) [] (x ∷ rest) ≡ x ∷ rest
stays x rest b e = ap (λ (c : Bool). cond (c && b) [] (x ∷ rest)) e

unpadded_first : (x : ℕ) (xs : List ℕ) → (list_all (list_all is_digit) (slice_split is_dot xs) ≡ true → without_padding xs ≡ xs) → (b : Bool) → is_dot x ≡ b
    → list_all (list_all is_digit) (cond b ([] ∷ slice_split is_dot xs) (onto_first x (slice_split is_dot xs))) ≡ true → without_padding (x ∷ xs) ≡ x ∷ xs
unpadded_first x xs others true d e = stays x (without_padding xs) (is_nil (without_padding xs)) (no_dot x d) ∙ ap (λ (l : List ℕ). x ∷ l) (others e)
unpadded_first x xs others false d e =
    let s = first_digit x (slice_split is_dot xs) e in
    stays x (without_padding xs) (is_nil (without_padding xs)) (no_digit x s.0) ∙ ap (λ (l : List ℕ). x ∷ l) (others s.1)

unpadded : (text : List ℕ) → list_all (list_all is_digit) (slice_split is_dot text) ≡ true → without_padding text ≡ text
unpadded [] e = refl
unpadded (x ∷ xs) e = unpadded_first x xs (unpadded xs) (is_dot x) refl e

pub spells_itself : (uid : List ℕ) → IsUid uid → SpellsUid uid uid
spells_itself uid is = record { is_uid = is; parts = sym (unpadded uid (digits_of (slice_split is_dot uid) is.components)) }

shorter_first : (b : ℕ) (rest bs : List ℕ) → length rest ≤ length bs → (c : Bool) → length (cond c [] (b ∷ rest)) ≤ length (b ∷ bs)
shorter_first b rest bs le true = omega arith
shorter_first b rest bs le false = omega (arith, le)

shorter : (bs : List ℕ) → length (without_padding bs) ≤ length bs
shorter [] = omega arith
shorter (b ∷ bs) = shorter_first b (without_padding bs) bs (shorter bs) (is_padding b && is_nil (without_padding bs))

pub uid_shorter : (content uid : List ℕ) → SpellsUid content uid → length uid ≤ length content
uid_shorter content uid s = omega (arith, ap length s.parts, shorter content)
