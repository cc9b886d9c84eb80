-- Edits of a list in the order of moments.
use Rattle.std.proofs.Common.{◌≡◌, ◌<◌, ◌≤◌, ◌+◌, ℕ, zero, suc, Bool, true, false, cond, not, leb, List, [], ◌∷◌, ◌++◌, length, get_or, take, refl, sym, ap, ◌∙◌, subst, arith, le-leb, leb-true, leb-false, inl, inr}
use Rattle.std.specs.List.{insert, remove}
use Rattle.std.specs.List.Sorted.{IsNonDecreasingBy, IsPermutation}
use Rattle.std.proofs.Common.{◌&&◌, ne_eqb}
use Rattle.std.specs.Str.{bytes_eq}
use Rattle.std.proofs.lemmas.List.Edits.{length-remove, get_or-remove_below, get_or-remove_above}
use Rattle.std.proofs.lemmas.Bool.{cases_lt}
use Rattle.std.proofs.lemmas.List.Sorted.{IsPermutation-refl, IsPermutation-sym, IsPermutation-cons, IsPermutation-middle, IsPermutation-trans, IsPermutation-push_more}
use Rattle.std.proofs.lemmas.List.{append_assoc, take_more}
use Rattle.ups_keep.specs.declared.due.Final.{Final}
use Rattle.ups_keep.specs.Due.{inserted, without_final, is_same_final, due_until, later_than, is_any, NoneSame, moment_of}

later_leb : (m n : ℕ) → m < n → leb n m ≡ false
later_leb m n l = by (leb n m) refl
  where
    by : (b : Bool) → leb n m ≡ b → leb n m ≡ false
    by false e = e
    by true e = let h = leb-true n m e in absurd (omega (arith, h, l))

pub insert_is : (xs : List Final) (k : ℕ) (x : Final) → k ≤ length xs → ((i : ℕ) (d : Final) → i < k → (get_or xs i d).moment ≤ x.moment) → ((i : ℕ) (d : Final) → k ≤ i → i < length xs → x.moment < (get_or xs i d).moment) → insert xs k x ≡ inserted x xs
insert_is [] zero x le before after = refl
insert_is [] (suc k) x le before after = absurd (omega (arith, le))
insert_is (y ∷ ys) zero x le before after = sym (ap (λ (b : Bool). cond b (y ∷ inserted x ys) (x ∷ y ∷ ys)) (later_leb x.moment y.moment (after 0 y (omega arith) (omega arith))))
insert_is (y ∷ ys) (suc k) x le before after =
    ap (λ (r : List Final). y ∷ r) (insert_is ys k x (omega (arith, le)) (λ i d l. before (suc i) d (omega (arith, l))) (λ i d l m. after (suc i) d (omega (arith, l)) (omega (arith, m))))
    ∙ sym (ap (λ (b : Bool). cond b (y ∷ inserted x ys) (x ∷ y ∷ ys)) (le-leb y.moment x.moment (before 0 y (omega arith))))

pub sorted_tail : (x : Final) (xs : List Final) → IsNonDecreasingBy moment_of (x ∷ xs) → IsNonDecreasingBy moment_of xs
sorted_tail x xs s i j d le l = s (suc i) (suc j) d (omega (arith, le)) (omega (arith, l))

all_later : (m : ℕ) (xs : List Final) → ((i : ℕ) (d : Final) → i < length xs → m < (get_or xs i d).moment) → (later_than m xs ≡ xs) × (due_until m xs ≡ [])
all_later m [] h = (refl, refl)
all_later m (x ∷ xs) h =
    let rest = all_later m xs (λ i d l. h (suc i) d (omega (arith, l))) in
    let e = later_leb m x.moment (h 0 x (omega arith)) in (
      ap (λ (b : Bool). cond (not b) (x ∷ later_than m xs) (later_than m xs)) e ∙ ap (λ (r : List Final). x ∷ r) rest.0,
      ap (λ (b : Bool). cond b (x ∷ due_until m xs) (due_until m xs)) e ∙ rest.1,
    )

-- where the first is later, all are
pub none_left : (m : ℕ) (xs : List Final) → IsNonDecreasingBy moment_of xs → is_any m xs ≡ false → later_than m xs ≡ xs
none_left m [] s e = refl
none_left m (x ∷ xs) s e = (all_later m (x ∷ xs) (λ i d l. let h = leb-false x.moment m e in let up = s 0 i d (omega arith) l in omega (arith, h, up))).0

pub none_up_to : (m : ℕ) (xs : List Final) → IsNonDecreasingBy moment_of xs → is_any m xs ≡ false → due_until m xs ≡ []
none_up_to m [] s e = refl
none_up_to m (x ∷ xs) s e = (all_later m (x ∷ xs) (λ i d l. let h = leb-false x.moment m e in let up = s 0 i d (omega arith) l in omega (arith, h, up))).1

-- none of an earlier moment where there is none of a later
pub none_before : (m n : ℕ) (xs : List Final) → n ≤ m → due_until m xs ≡ [] → due_until n xs ≡ []
none_before m n [] le e = refl
none_before m n (x ∷ xs) le e = by (leb x.moment m) refl e (none_before m n xs le)
  where
    by : (b : Bool) → leb x.moment m ≡ b → cond b (x ∷ due_until m xs) (due_until m xs) ≡ [] → (due_until m xs ≡ [] → due_until n xs ≡ []) → cond (leb x.moment n) (x ∷ due_until n xs) (due_until n xs) ≡ []
    by true h g rest = absurd cc
    by false h g rest = let f = leb-false x.moment m h in ap (λ (b : Bool). cond b (x ∷ due_until n xs) (due_until n xs)) (later_leb n x.moment (omega (arith, f, le))) ∙ rest g

-- those of no later moment stand in front
pub front_is : (m : ℕ) (xs : List Final) (k : ℕ) → k ≤ length xs → ((i : ℕ) (d : Final) → i < k → (get_or xs i d).moment ≤ m) → ((i : ℕ) (d : Final) → k ≤ i → i < length xs → m < (get_or xs i d).moment) → take k xs ≡ due_until m xs
front_is m xs zero le before after = sym (all_later m xs (λ i d l. after i d (omega arith) l)).1
front_is m [] (suc k) le before after = absurd (omega (arith, le))
front_is m (x ∷ xs) (suc k) le before after =
    ap (λ (r : List Final). x ∷ r) (front_is m xs k (omega (arith, le)) (λ i d l. before (suc i) d (omega (arith, l))) (λ i d a l. after (suc i) d (omega (arith, a)) (omega (arith, l))))
    ∙ sym (ap (λ (b : Bool). cond b (x ∷ due_until m xs) (due_until m xs)) (le-leb x.moment m (before 0 x (omega arith))))

pub none_removed : (x : Final) (xs : List Final) → NoneSame x (length xs) xs → xs ≡ without_final x xs
none_removed x [] n = refl
none_removed x (y ∷ ys) n = ap (λ (r : List Final). y ∷ r) (none_removed x ys (λ i d l. n (suc i) d (omega (arith, l)))) ∙ sym (ap (λ (b : Bool). cond b ys (y ∷ without_final x ys)) (n 0 y (omega arith)))

pub one_removed : (x : Final) (xs : List Final) (k : ℕ) → k < length xs → NoneSame x k xs → ((d : Final) → is_same_final x (get_or xs k d) ≡ true) → remove xs k ≡ without_final x xs
one_removed x [] k l n is = absurd (omega (arith, l))
one_removed x (y ∷ ys) zero l n is = sym (ap (λ (b : Bool). cond b ys (y ∷ without_final x ys)) (is y))
one_removed x (y ∷ ys) (suc k) l n is = ap (λ (r : List Final). y ∷ r) (one_removed x ys k (omega (arith, l)) (λ i d a. n (suc i) d (omega (arith, a))) is) ∙ sym (ap (λ (b : Bool). cond b ys (y ∷ without_final x ys)) (n 0 y (omega arith)))

-- steps of another moment are others
pub earlier_differs : (x : Final) (xs : List Final) (k : ℕ) → ((i : ℕ) (d : Final) → i < k → (get_or xs i d).moment < x.moment) → NoneSame x k xs
earlier_differs x xs k h i d l = ap (λ (b : Bool). b && bytes_eq x.step (get_or xs i d).step) (ne_eqb x.moment (get_or xs i d).moment (λ e. let a = h i d l in omega (arith, a, e)))

pub later_differs : (x : Final) (xs : List Final) (place : ℕ) → IsNonDecreasingBy moment_of xs → NoneSame x place xs → ((d : Final) → x.moment < (get_or xs place d).moment) → NoneSame x (length xs) xs
later_differs x xs place s n less i d l = elim (cases_lt i place) [
  | inl a ↦ n i d a
  | inr a ↦ ap (λ (b : Bool). b && bytes_eq x.step (get_or xs i d).step) (ne_eqb x.moment (get_or xs i d).moment (λ e. let up = s place i d a l in let f = less d in omega (arith, up, f, e)))
]

pub sorted_remove : (xs : List Final) (i : ℕ) → i < length xs → IsNonDecreasingBy moment_of xs → IsNonDecreasingBy moment_of (remove xs i)
sorted_remove xs i l s j k d le lt = grind (arith, length-remove xs i l, below j, below k, above j, above k, s j k d, s (j + 1) (k + 1) d, s j (k + 1) d)
  where
    below : (q : ℕ) → q < i → (get_or (remove xs i) q d).moment ≡ (get_or xs q d).moment
    below q b = ap moment_of (get_or-remove_below xs i d q b l)

    above : (q : ℕ) → i ≤ q → (get_or (remove xs i) q d).moment ≡ (get_or xs (q + 1) d).moment
    above q a = ap moment_of (get_or-remove_above xs i d q a l)

-- a list with one step more is the step and the list, in another order
pub inserted_moves : (x : Final) (xs : List Final) → IsPermutation (x ∷ xs) (inserted x xs)
inserted_moves x [] = IsPermutation-refl (x ∷ [])
inserted_moves x (y ∷ ys) = by (leb y.moment x.moment) (inserted_moves x ys)
  where
    by : (b : Bool) → IsPermutation (x ∷ ys) (inserted x ys) → IsPermutation (x ∷ y ∷ ys) (cond b (y ∷ inserted x ys) (x ∷ y ∷ ys))
    by true rest = IsPermutation-trans (x ∷ y ∷ ys) (y ∷ x ∷ ys) (y ∷ inserted x ys) (IsPermutation-sym (y ∷ x ∷ ys) (x ∷ y ∷ ys) (IsPermutation-middle (y ∷ []) x ys)) (IsPermutation-cons y (x ∷ ys) (inserted x ys) rest)
    by false rest = IsPermutation-refl (x ∷ y ∷ ys)

-- so are several steps, one after the other
pub one_more : (xs more ys zs : List Final) (k : ℕ) (x : Final) → k < length more → x ≡ get_or more k x → IsPermutation (xs ++ take k more) ys → zs ≡ inserted x ys → IsPermutation (xs ++ take (k + 1) more) zs
one_more xs more ys zs k x l here p is =
    let next : take (k + 1) more ≡ take k more ++ x ∷ [] = take_more more k x l ∙ ap (λ (y : Final). take k more ++ y ∷ []) (sym here) in
    let moved = subst (λ (vs : List Final). IsPermutation (x ∷ ys) vs) (sym is) (inserted_moves x ys) in
    subst (λ (us : List Final). IsPermutation us zs) (append_assoc xs (take k more) (x ∷ []) ∙ ap (λ (us : List Final). xs ++ us) (sym next)) (IsPermutation-push_more (xs ++ take k more) ys zs x p moved)
