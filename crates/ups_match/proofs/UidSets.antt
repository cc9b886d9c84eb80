-- UIDs in order are those of their list.
use Rattle.std.proofs.Common.{◌≡◌, ◌+◌, ℕ, suc, Bool, true, false, cond, not, List, [], ◌∷◌, take, drop, refl, sym, ap, ◌∙◌, arith}
use Rattle.std.specs.Prelude.{◌||◌}
use Rattle.std.specs.List.{list_any, onto_first, position_or_len, slice_split}
use Rattle.std.specs.Str.{bytes_eq}
use Rattle.std.specs.declared.cmp.Ordering.{Ordering}
use Rattle.std.specs.declared.cmp.Ordering.TheVariants.{Less, Equal, Greater}
use Rattle.std.specs.Ordering.{is_eq, match_ordering, nat_cmp}
use Rattle.std.specs.BTreeSet.{BTreeSet, insert_key}
use Rattle.std.specs.Cmp.Lexicographic.{slice_cmp, nat_list_eq_equiv}
use Rattle.std.specs.declared.vec.Vec.{Vec}
use Rattle.std.proofs.lemmas.Map.Text.{is_eq-slice_cmp}
use Rattle.std.proofs.lemmas.Slice.Eq.{bytes_eq-Decides}
use Rattle.ups_pdu.specs.Padding.{without_padding}
use Rattle.ups_match.specs.Uids.{has_uid}
use Rattle.ups_match.specs.Values.{any_value, is_backslash, shares_uid}
use Rattle.ups_match.proofs.Lengths.{any_same}

or_swap : (a b c : Bool) → (a || (b || c)) ≡ (b || (a || c))
or_swap false b c = refl
or_swap true false c = refl
or_swap true true c = refl

or_again : (a b c : Bool) → a ≡ b → (b || c) ≡ (a || (b || c))
or_again true b c e = ap (λ x. x || c) (sym e)
or_again false b c e = refl

-- a test finds among keys with one more what it finds in that one or in the others
any_insert : {K : Type 0} (cmp : K → K → Ordering) (test : K → Bool) → ((x y : K) → cmp x y ≡ Equal → test x ≡ test y) → (k : K) (ks : List K) → list_any test (insert_key cmp ks k) ≡ (test k || list_any test ks)
any_insert cmp test same k [] = refl
any_insert cmp test same k (x ∷ xs) = go (cmp k x) refl (any_insert cmp test same k xs)
  where
    go : (o : Ordering) → cmp k x ≡ o → list_any test (insert_key cmp xs k) ≡ (test k || list_any test xs) → list_any test (match_ordering o (k ∷ x ∷ xs) (x ∷ xs) (x ∷ insert_key cmp xs k)) ≡ (test k || list_any test (x ∷ xs))
    go Less e more = refl
    go Equal e more = or_again (test k) (test x) (list_any test xs) (same k x e)
    go Greater e more = ap (λ b. test x || b) more ∙ or_swap (test x) (test k) (list_any test xs)

-- texts that compare equal are the same
same_text : (xs ys : List ℕ) → slice_cmp nat_cmp xs ys ≡ Equal → xs ≡ ys
same_text xs ys e = (bytes_eq-Decides xs ys).0 (sym (is_eq-slice_cmp xs ys) ∙ ap is_eq e)

-- a UID that is put among others
pub has_put : {Z : Type 0} (old new : BTreeSet (Vec ℕ Z)) (k : Vec ℕ Z) (uid other : List ℕ) → new.keys ≡ insert_key (λ x y. slice_cmp nat_cmp x.items y.items) old.keys k → k.items ≡ uid → has_uid new other ≡ (bytes_eq other uid || has_uid old other)
has_put old new k uid other put is =
    ap (λ ks. list_any (λ (x : Vec ℕ _). is_eq (slice_cmp nat_cmp other x.items)) ks) put
    ∙ any_insert (λ x y. slice_cmp nat_cmp x.items y.items) (λ x. is_eq (slice_cmp nat_cmp other x.items)) (λ x y e. ap (λ (xs : List ℕ). is_eq (slice_cmp nat_cmp other xs)) (same_text x.items y.items e)) k old.keys
    ∙ ap (λ b. b || has_uid old other) (is_eq-slice_cmp other k.items ∙ ap (λ xs. bytes_eq other xs) is)

-- what stands behind the first value of a text
abbrev pub behind_first_value : List ℕ → List (List ℕ)
behind_first_value [] = []
behind_first_value (b ∷ bs) = slice_split is_backslash bs

pub first_value : (text : List ℕ) → slice_split is_backslash text ≡ take (position_or_len is_backslash text) text ∷ behind_first_value (drop (position_or_len is_backslash text) text)
first_value [] = refl
first_value (b ∷ bs) = go (is_backslash b) refl (first_value bs)
  where
    go : (q : Bool) → is_backslash b ≡ q → slice_split is_backslash bs ≡ take (position_or_len is_backslash bs) bs ∷ behind_first_value (drop (position_or_len is_backslash bs) bs) → cond q ([] ∷ slice_split is_backslash bs) (onto_first b (slice_split is_backslash bs)) ≡ take (cond (not q) (1 + position_or_len is_backslash bs) 0) (b ∷ bs) ∷ behind_first_value (drop (cond (not q) (1 + position_or_len is_backslash bs) 0) (b ∷ bs))
    go true is more = refl
    go false is more =
        let one : 1 + position_or_len is_backslash bs ≡ suc (position_or_len is_backslash bs) = omega arith in
        rw one (ap (onto_first b) more)

pub first_of_values : (text front behind : List ℕ) (n : ℕ) (others : List (List ℕ)) → n ≡ position_or_len is_backslash text → front ≡ take n text → behind ≡ drop n text → behind_first_value behind ≡ others → slice_split is_backslash text ≡ front ∷ others
first_of_values text front behind n others place before after more =
    rw (before, ← more, after, place) (first_value text)

any_never : (ys : List (List ℕ)) → false ≡ list_any (λ _. false) ys
any_never [] = refl
any_never (y ∷ ys) = any_never ys

any_either : (f g : List ℕ → Bool) (ys : List (List ℕ)) → (list_any f ys || list_any g ys) ≡ list_any (λ y. f y || g y) ys
any_either f g [] = refl
any_either f g (y ∷ ys) = go (f y) (g y) (list_any f ys) (list_any g ys) (any_either f g ys)
  where
    go : (a b p q : Bool) → {r : Bool} → (p || q) ≡ r → ((a || p) || (b || q)) ≡ ((a || b) || r)
    go true b p q e = refl
    go false true true q e = refl
    go false true false q e = refl
    go false false p q e = e

-- whether some of these goes with some of those
any_exchange : (r : List ℕ → List ℕ → Bool) (xs ys : List (List ℕ)) → list_any (λ x. list_any (r x) ys) xs ≡ list_any (λ y. list_any (λ x. r x y) xs) ys
any_exchange r [] ys = any_never ys
any_exchange r (x ∷ xs) ys = ap (λ b. list_any (r x) ys || b) (any_exchange r xs ys) ∙ any_either (r x) (λ y. list_any (λ z. r z y) xs) ys

-- the lists share a UID where one of those that are stored is one of the key's
pub shares_found : (key stored : List ℕ) → any_value (λ uid. any_value (bytes_eq uid) key) stored ≡ shares_uid key stored
shares_found key stored =
    any_exchange (λ x y. bytes_eq (without_padding x) (without_padding y)) (slice_split is_backslash stored) (slice_split is_backslash key)
    ∙ any_same _ _ (λ x. any_same _ _ (λ y. nat_list_eq_equiv.symm (without_padding y) (without_padding x)) (slice_split is_backslash stored)) (slice_split is_backslash key)
