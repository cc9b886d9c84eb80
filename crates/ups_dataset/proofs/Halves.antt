-- The place of a tag, found by halves in tags that rise.
use Rattle.std.proofs.Common.{◌≡◌, ◌<◌, ◌≤◌, ◌+◌, ℕ, zero, suc, Bool, true, false, nat_lt, if◌then◌else◌, Some, None, List, [], ◌∷◌, length, map, get_or, refl, sym, ap, ◌∙◌, arith}
use Rattle.std.specs.List.Sorted.{IsNonDecreasingBy, IsPartitionPoint}
use Rattle.ups_dataset.specs.declared.tag.Tag.{Tag}
use Rattle.ups_dataset.specs.declared.set.Element.{Element}
use Rattle.ups_dataset.specs.Tag.{number, is_tag}
use Rattle.ups_dataset.specs.Data.{El, elements_of, element_at, place_in, stands_at}
use Rattle.ups_dataset.specs.Valid.{AreElements, IsDataSet}
use Rattle.ups_dataset.specs.View.{element_view}
use Rattle.ups_dataset.proofs.Places.{other_tag, one_number, stands_here, stands_within}
use Rattle.ups_dataset.proofs.Laying.{absent}

-- the number of an element's tag
abbrev pub number_in : {A : Type 0} → Element A → ℕ
number_in e = number e.tag

-- no tag is below the least one
pub no_lower : {A : Type 0} (low : ℕ) (es : List (Element A)) → AreElements low (elements_of (map element_view es)) → (j : ℕ) (d : Element A) → j < length es → low ≤ number_in (get_or es j d)
no_lower low [] h j d less = absurd (omega (arith, less))
no_lower low (e ∷ es) (le, _, _, _, later) zero d less = le
no_lower low (e ∷ es) (le, _, _, _, later) (suc j) d less =
    let more : number e.tag + 1 ≤ number_in (get_or es j d) = no_lower (number e.tag + 1) es later j d (omega (arith, less)) in
    omega (arith, le, more)

-- tags rise
pub rising : {A : Type 0} (low : ℕ) (es : List (Element A)) → AreElements low (elements_of (map element_view es)) → IsNonDecreasingBy (λ e. number_in e) es
rising low [] h i j d le less = absurd (omega (arith, less))
rising low (e ∷ es) (le, _, _, _, later) zero zero d ij less = omega arith
rising low (e ∷ es) (le, _, _, _, later) zero (suc j) d ij less =
    let more : number e.tag + 1 ≤ number_in (get_or es j d) = no_lower (number e.tag + 1) es later j d (omega (arith, less)) in
    omega (arith, more)
rising low (e ∷ es) (le, _, _, _, later) (suc i) zero d ij less = absurd (omega (arith, ij))
rising low (e ∷ es) (le, _, _, _, later) (suc i) (suc j) d ij less = rising (number e.tag + 1) es later i j d (omega (arith, ij)) (omega (arith, less))

-- where all before a place are below the tag and none from it on, it is the tag's place
pub place_point : {A : Type 0} (tag : Tag) (es : List (Element A)) (i : ℕ) → i ≤ length es
    → IsPartitionPoint (λ e. nat_lt (number_in e) (number tag) ≡ true) (λ e. nat_lt (number_in e) (number tag) ≡ false) es i → i ≡ place_in tag (map element_view es)
place_point tag [] i le h = omega (arith, le)
place_point tag (e ∷ es) zero le (below, above) = let b : nat_lt (number e.tag) (number tag) ≡ false = above 0 e (omega arith) (omega arith) in rw b refl
place_point tag (e ∷ es) (suc i) le (below, above) =
    let b : nat_lt (number e.tag) (number tag) ≡ true = below 0 e (omega arith) (omega arith) in
    let rest : i ≡ place_in tag (map element_view es) =
    place_point tag es i (omega (arith, le)) ((λ k d l m. below (suc k) d (omega arith) (omega (arith, m))), (λ k d l m. above (suc k) d (omega (arith, l)) (omega (arith, m)))) in
    rw b (ap suc rest)

-- an element at some place is the one of its tag
pub found_at : {A : Type 0} (low : ℕ) (tag : Tag) (es : List (Element A)) (i : ℕ) (d : Element A) → AreElements low (elements_of (map element_view es)) → i < length es → is_tag (get_or es i d).tag tag ≡ true
    → element_at tag (map element_view es) ≡ Some (element_view (get_or es i d))
found_at low tag [] i d h less same = absurd (omega (arith, less))
found_at low tag (e ∷ es) zero d h less same = rw same refl
found_at low tag (e ∷ es) (suc i) d (le, te, _, _, later) less same =
    let more : number e.tag + 1 ≤ number_in (get_or es i d) = no_lower (number e.tag + 1) es later i d (omega (arith, less)) in
    let one : number_in (get_or es i d) ≡ number tag = one_number (get_or es i d).tag tag same in
    let other : is_tag e.tag tag ≡ false = other_tag e.tag tag (is_tag e.tag tag) refl (omega (arith, more, one)) in
    rw other (found_at (number e.tag + 1) tag es i d later (omega (arith, less)) same)

none_step : (tag : Tag) (e : El) (es : List El) (place : ℕ) (below : Bool) → nat_lt (number e.tag) (number tag) ≡ below → AreElements (number e.tag + 1) (elements_of es)
    → stands_at tag (if below then suc place else 0) (e ∷ es) ≡ false → (stands_at tag place es ≡ false → element_at tag es ≡ None) → element_at tag (e ∷ es) ≡ None
none_step tag e es place true b later not_here rest =
    let less : number e.tag < number tag = grind (arith, b) in
    rw (other_tag e.tag tag (is_tag e.tag tag) refl less) (rest not_here)
none_step tag e es place false b later not_here rest =
    let le : number tag ≤ number e.tag = grind (arith, b) in
    rw not_here (absent (number e.tag + 1) tag es (omega (arith, le)) later)

-- where no element of the tag stands at its place, there is none
pub none_at : (low : ℕ) (tag : Tag) (es : List El) → AreElements low (elements_of es) → stands_at tag (place_in tag es) es ≡ false → element_at tag es ≡ None
none_at low tag [] h not_here = refl
none_at low tag (e ∷ es) (le, _, _, _, later) not_here =
    none_step tag e es (place_in tag es) (nat_lt (number e.tag) (number tag)) refl later not_here (none_at (number e.tag + 1) tag es later)

pub got_none : {A : Type 0} (tag : Tag) (es : List (Element A)) (place : ℕ) → place ≡ place_in tag (map element_view es) → IsDataSet (map element_view es)
    → stands_at tag place (map element_view es) ≡ false → element_at tag (map element_view es) ≡ None
got_none tag es place p is not_here = none_at 0 tag (map element_view es) is (rw p at not_here)

pub got_some : {A : Type 0} (tag : Tag) (es : List (Element A)) (place : ℕ) (e : Element A) → e ≡ get_or es place e → IsDataSet (map element_view es)
    → stands_at tag place (map element_view es) ≡ true → element_at tag (map element_view es) ≡ Some (element_view e)
got_some tag es place e h is here =
    let within : place < length es = stands_within tag es place here in
    let same : is_tag (get_or es place e).tag tag ≡ true = ap (λ (x : Element _). is_tag x.tag tag) (sym h) ∙ sym (stands_here tag es place e within h) ∙ here in
    found_at 0 tag es place e is within same ∙ ap (λ (x : Element _). Some (element_view x)) (sym h)
