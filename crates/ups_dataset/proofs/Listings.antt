-- A tag is listed where its number is.
use Rattle.std.proofs.Common.{◌≡◌, ◌≢◌, ◌<◌, ◌≤◌, ◌+◌, ℕ, zero, suc, Bool, true, false, ◌==◌, ◌||◌, Result, Ok, Err, is_ok, List, [], ◌∷◌, ◌++◌, length, map, get_or, take, inl, inr, refl, sym, ap, subst, ◌∙◌, arith}
use Rattle.std.specs.List.{list_any}
use Rattle.std.specs.List.Sorted.{IsNonDecreasing, IsPermutation, IsBinarySearchResult}
use Rattle.std.specs.Ordering.{nat_cmp}
use Rattle.std.proofs.lemmas.Bool.{cases_lt}
use Rattle.std.proofs.lemmas.List.{take_more, take_all, map-append}
use Rattle.std.proofs.lemmas.List.Sorted.{searched, list_any-IsPermutation}
use Rattle.ups_dataset.specs.declared.tag.Tag.{Tag}
use Rattle.ups_dataset.specs.Tag.{IsTag, number, is_tag}
use Rattle.ups_dataset.specs.Data.{is_listed}
use Rattle.ups_dataset.specs.Listed.{AreTags, Lists}
use Rattle.ups_dataset.proofs.Places.{same_number, one_number}

or_right : (a b : Bool) → b ≡ true → (a || b) ≡ true
or_right true b e = refl
or_right false b e = e

elsewhere : (xs : List ℕ) (n i k : ℕ) → ((k : ℕ) → k < i → get_or xs k 0 < n) → ((k : ℕ) → i ≤ k → k < length xs → n < get_or xs k 0) → k < length xs → get_or xs k 0 ≢ n
elsewhere xs n i k below above low e = elim (cases_lt k i) [
  | inl less ↦ omega (arith, below k less, e)
  | inr le ↦ omega (arith, above k le low, e)
]

any_here : (xs : List ℕ) (i n : ℕ) → i < length xs → get_or xs i 0 ≡ n → list_any (λ m. m == n) xs ≡ true
any_here [] i n low e = absurd (omega (arith, low))
any_here (x ∷ xs) zero n low e = let b : (x == n) ≡ true = grind (arith, e) in rw b refl
any_here (x ∷ xs) (suc i) n low e = or_right (x == n) (list_any (λ m. m == n) xs) (any_here xs i n (omega (arith, low)) e)

any_nowhere : (xs : List ℕ) (n : ℕ) → ((k : ℕ) → k < length xs → get_or xs k 0 ≢ n) → list_any (λ m. m == n) xs ≡ false
any_nowhere [] n none = refl
any_nowhere (x ∷ xs) n none =
    let head : x ≢ n = none 0 (omega arith) in
    let b : (x == n) ≡ false = grind (arith, head) in
    rw b (any_nowhere xs n (λ k low. none (suc k) (omega (arith, low))))

pub found_number : (xs : List ℕ) (n : ℕ) (r : Result ℕ ℕ) → IsBinarySearchResult (λ y. nat_cmp y n) xs r → IsNonDecreasing xs → is_ok r ≡ list_any (λ m. m == n) xs
found_number xs n (Ok i) h rise = let s = searched xs n (Ok i) h (λ i j le low. rise i j 0 le low) in sym (any_here xs i n s.0 s.1)
found_number xs n (Err i) h rise =
    let s = searched xs n (Err i) h (λ i j le low. rise i j 0 le low) in
    sym (any_nowhere xs n (λ k low. elsewhere xs n i k s.1 s.2 low))

same_test : (t u : Tag) → IsTag t → IsTag u → (b : Bool) → is_tag u t ≡ b → (number u == number t) ≡ b
same_test t u it iu true e = let n : number u ≡ number t = one_number u t e in grind (arith, n)
same_test t u it iu false e =
    let differ : number u ≢ number t = (λ n. let c : false ≡ true = sym e ∙ same_number u t iu it n in absurd cc) in
    grind (arith, differ)

by_numbers : (t : Tag) (tags : List Tag) → IsTag t → AreTags tags → list_any (λ n. n == number t) (map number tags) ≡ is_listed t tags
by_numbers t [] it all = refl
by_numbers t (u ∷ us) it (iu, all) = (λ i. (same_test t u it iu (is_tag u t) refl) i || by_numbers t us it all i)

pub listed_by : (t : Tag) (tags : List Tag) (numbers : List ℕ) → IsTag t → Lists tags numbers → list_any (λ n. n == number t) numbers ≡ is_listed t tags
listed_by t tags numbers it l = sym (list_any-IsPermutation (λ n. n == number t) (map number tags) numbers l.same) ∙ by_numbers t tags it l.tags_fit

tags_next : (ts : List Tag) (t : Tag) → AreTags ts → IsTag t → AreTags (ts ++ t ∷ [])
tags_next [] t h is = (is, tt)
tags_next (x ∷ ts) t (hx, later) is = (hx, tags_next ts t later is)

pub tags_more : (ts : List Tag) (i : ℕ) (d : Tag) → i < length ts → AreTags (take i ts) → IsTag (get_or ts i d) → AreTags (take (i + 1) ts)
tags_more ts i d low h is =
    let more : take (i + 1) ts ≡ take i ts ++ get_or ts i d ∷ [] = take_more ts i d low in
    rw more (tags_next (take i ts) (get_or ts i d) h is)

pub numbers_more : (ts : List Tag) (i : ℕ) (d : Tag) (ns : List ℕ) → i < length ts → ns ≡ map number (take i ts) → ns ++ number (get_or ts i d) ∷ [] ≡ map number (take (i + 1) ts)
numbers_more ts i d ns low e =
    let more : take (i + 1) ts ≡ take i ts ++ get_or ts i d ∷ [] = take_more ts i d low in
    ap (λ (l : List ℕ). l ++ number (get_or ts i d) ∷ []) e ∙ sym (map-append number (take i ts) (get_or ts i d ∷ [])) ∙ ap (λ (l : List Tag). map number l) (sym more)

pub lists_all : (ts : List Tag) (i : ℕ) (ns sorted : List ℕ) → length ts ≤ i → AreTags (take i ts) → ns ≡ map number (take i ts) → IsPermutation ns sorted → IsNonDecreasing sorted → Lists ts sorted
lists_all ts i ns sorted past fit e same rise =
    let all : take i ts ≡ ts = take_all i ts past in
    record {
      tags_fit = subst (λ (l : List Tag). AreTags l) all fit;
      same = subst (λ (l : List ℕ). IsPermutation l sorted) (e ∙ ap (λ (l : List Tag). map number l) all) same;
      rise = rise;
    }
