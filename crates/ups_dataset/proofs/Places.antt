-- An element that is put into a data set: where it goes, and that a data set comes of it.
use Rattle.std.proofs.Common.{◌≡◌, ◌≢◌, ◌<◌, ◌≤◌, ◌+◌, ℕ, zero, suc, Bool, true, false, nat_lt, if◌then◌else◌, List, [], ◌∷◌, ◌++◌, length, Result, Ok, Err, OnOk, OnErr, map, set, take, get_or, filter, insert, not, refl, sym, ap, ◌∙◌, subst, arith}
use Rattle.std.proofs.lemmas.List.{take_more}
use Rattle.ups_dataset.specs.declared.tag.Tag.{Tag}
use Rattle.ups_dataset.specs.declared.set.Element.{Element}
use Rattle.ups_dataset.specs.Tag.{IsTag, number, is_tag}
use Rattle.ups_dataset.specs.Data.{Elements, no_elements, element, El, elements_of, items_of, put, place_in, stands_at}
use Rattle.ups_dataset.specs.Valid.{IsElement, HoldsSets, AreElements, AreSets, IsDataSet}
use Rattle.ups_dataset.specs.View.{element_view}

-- a set whose tags are at least so great has tags that are at least less great
pub lower : (low least : ℕ) (es : Elements) → least ≤ low → AreElements low es → AreElements least es
lower low least no_elements le h = tt
lower low least (element tag vr d more) le (rises, rest, is, sets, later) = (omega (arith, le, rises), rest, is, sets, later)

-- two tags with one number are one
pub same_number : (s t : Tag) → IsTag s → IsTag t → number s ≡ number t → is_tag s t ≡ true
same_number s t is it e =
    let groups : s.group ≡ t.group = omega (arith, e, is.element, it.element) in
    let elements : s.element ≡ t.element = omega (arith, e, is.element, it.element) in
    grind (arith, groups, elements)

pub one_number : (s t : Tag) → is_tag s t ≡ true → number s ≡ number t
one_number s t e = grind (arith, e)

pub other_tag : (s t : Tag) (b : Bool) → is_tag s t ≡ b → number s < number t → is_tag s t ≡ false
other_tag s t true e l = absurd (omega (arith, l, one_number s t e))
other_tag s t false e l = e

-- another tag, not below, is above
next_number : (s t : Tag) → IsTag s → IsTag t → is_tag s t ≡ false → nat_lt (number t) (number s) ≡ false → number s + 1 ≤ number t
next_number s t is it other b =
    let differ : number s ≢ number t = (λ e. let c : false ≡ true = sym other ∙ same_number s t is it e in absurd cc) in
    let le : number s ≤ number t = grind (arith, b) in
    omega (arith, differ, le)

filter_step : (low : ℕ) (e : El) (rest : List El) (b : Bool) → low ≤ number e.tag → IsTag e.tag → IsElement e → HoldsSets e.value → AreElements (number e.tag + 1) (elements_of rest) → AreElements low (elements_of (if b then e ∷ rest else rest))
filter_step low e rest true rises tag is sets later = (rises, tag, is, sets, later)
filter_step low e rest false rises tag is sets later = lower (number e.tag + 1) low (elements_of rest) (omega (arith, rises)) later

-- some of the elements
pub filtered : (p : El → Bool) (low : ℕ) (es : List El) → AreElements low (elements_of es) → AreElements low (elements_of (filter p es))
filtered p low [] h = tt
filtered p low (e ∷ es) (rises, tag, is, sets, later) = filter_step low e (filter p es) (p e) rises tag is sets (filtered p (number e.tag + 1) es later)

view_step : {A : Type 0} (e : Element A) (rest : List (Element A)) (b : Bool) → map element_view (if b then e ∷ rest else rest) ≡ (if b then element_view e ∷ map element_view rest else map element_view rest)
view_step e rest true = refl
view_step e rest false = refl

filtered_views : {A : Type 0} (p : El → Bool) (es : List (Element A)) → map element_view (filter (λ e. p (element_view e)) es) ≡ filter p (map element_view es)
filtered_views p [] = refl
filtered_views p (e ∷ es) =
    view_step e (filter (λ x. p (element_view x)) es) (p (element_view e))
    ∙ ap (λ (l : List El). if p (element_view e) then element_view e ∷ l else l) (filtered_views p es)

-- the elements that are left with other tags than this one
pub left_views : {A : Type 0} (tag : Tag) (es left : List (Element A)) → left ≡ filter (λ e. not (is_tag e.tag tag)) es → map element_view left ≡ filter (λ e. not (is_tag e.tag tag)) (map element_view es)
left_views tag es left e = ap (map element_view) e ∙ filtered_views (λ x. not (is_tag x.tag tag)) es

put_step : (low : ℕ) (x e : El) (es rest : List El) (same below : Bool) → is_tag e.tag x.tag ≡ same → nat_lt (number x.tag) (number e.tag) ≡ below
    → low ≤ number x.tag → IsTag x.tag → IsElement x → HoldsSets x.value
    → low ≤ number e.tag → IsTag e.tag → IsElement e → HoldsSets e.value → AreElements (number e.tag + 1) (elements_of es)
    → (number e.tag + 1 ≤ number x.tag → AreElements (number e.tag + 1) (elements_of rest))
    → AreElements low (elements_of (if same then x ∷ es else (if below then x ∷ e ∷ es else e ∷ rest)))
put_step low x e es rest true below s b lx tx ix hx le te ie he later put_later =
    let n : number e.tag ≡ number x.tag = one_number e.tag x.tag s in
    (lx, tx, ix, hx, lower (number e.tag + 1) (number x.tag + 1) (elements_of es) (omega (arith, n)) later)
put_step low x e es rest false true s b lx tx ix hx le te ie he later put_later =
    (lx, tx, ix, hx, (grind (arith, b), te, ie, he, later))
put_step low x e es rest false false s b lx tx ix hx le te ie he later put_later =
    (le, te, ie, he, put_later (next_number e.tag x.tag te tx s b))

pub put_set : (x : El) (low : ℕ) (es : List El) → low ≤ number x.tag → IsTag x.tag → IsElement x → HoldsSets x.value → AreElements low (elements_of es) → AreElements low (elements_of (put x es))
put_set x low [] lx tx ix hx h = (lx, tx, ix, hx, tt)
put_set x low (e ∷ es) lx tx ix hx (le, te, ie, he, later) =
    put_step low x e es (put x es) (is_tag e.tag x.tag) (nat_lt (number x.tag) (number e.tag)) refl refl lx tx ix hx le te ie he later (λ above. put_set x (number e.tag + 1) es above tx ix hx later)

over_step : {A : Type 0} (e : Element A) (es : List (Element A)) (x : Element A) (place : ℕ) (b : Bool) → nat_lt (number e.tag) (number x.tag) ≡ b
    → stands_at x.tag (if b then suc place else 0) (element_view e ∷ map element_view es) ≡ true
    → (stands_at x.tag place (map element_view es) ≡ true → map element_view (set es place x) ≡ put (element_view x) (map element_view es))
    → map element_view (set (e ∷ es) (if b then suc place else 0) x) ≡ put (element_view x) (element_view e ∷ map element_view es)
over_step e es x place true b h later =
    let below : number e.tag < number x.tag = grind (arith, b) in
    let other : is_tag e.tag x.tag ≡ false = other_tag e.tag x.tag (is_tag e.tag x.tag) refl below in
    let not_above : nat_lt (number x.tag) (number e.tag) ≡ false = grind (arith, below) in
    rw (other, not_above) (ap (λ l. element_view e ∷ l) (later h))
over_step e es x place false b h later = rw h refl

-- over the one with its tag
pub put_over : {A : Type 0} (es : List (Element A)) (x : Element A) → stands_at x.tag (place_in x.tag (map element_view es)) (map element_view es) ≡ true
    → map element_view (set es (place_in x.tag (map element_view es)) x) ≡ put (element_view x) (map element_view es)
put_over [] x h = let c : false ≡ true = h in absurd cc
put_over (e ∷ es) x h = over_step e es x (place_in x.tag (map element_view es)) (nat_lt (number e.tag) (number x.tag)) refl h (put_over es x)

between_step : {A : Type 0} (low : ℕ) (e : Element A) (es : List (Element A)) (x : Element A) (place : ℕ) (b : Bool) → nat_lt (number e.tag) (number x.tag) ≡ b
    → IsTag e.tag → IsTag x.tag → stands_at x.tag (if b then suc place else 0) (element_view e ∷ map element_view es) ≡ false
    → (stands_at x.tag place (map element_view es) ≡ false → map element_view (insert es place x) ≡ put (element_view x) (map element_view es))
    → map element_view (insert (e ∷ es) (if b then suc place else 0) x) ≡ put (element_view x) (element_view e ∷ map element_view es)
between_step low e es x place true b te tx h later =
    let below : number e.tag < number x.tag = grind (arith, b) in
    let other : is_tag e.tag x.tag ≡ false = other_tag e.tag x.tag (is_tag e.tag x.tag) refl below in
    let not_above : nat_lt (number x.tag) (number e.tag) ≡ false = grind (arith, below) in
    rw (other, not_above) (ap (λ l. element_view e ∷ l) (later h))
between_step low e es x place false b te tx h later =
    let le : number x.tag ≤ number e.tag = grind (arith, b) in
    let differ : number e.tag ≢ number x.tag = (λ n. let c : false ≡ true = sym h ∙ same_number e.tag x.tag te tx n in absurd cc) in
    let above : nat_lt (number x.tag) (number e.tag) ≡ true = grind (arith, le, differ) in
    rw (h, above) refl

-- between the lower and the higher ones
pub put_between : {A : Type 0} (low : ℕ) (es : List (Element A)) (x : Element A) → IsTag x.tag → AreElements low (elements_of (map element_view es))
    → stands_at x.tag (place_in x.tag (map element_view es)) (map element_view es) ≡ false
    → map element_view (insert es (place_in x.tag (map element_view es)) x) ≡ put (element_view x) (map element_view es)
put_between low [] x tx all h = refl
put_between low (e ∷ es) x tx (le, te, ie, he, later) h =
    between_step low e es x (place_in x.tag (map element_view es)) (nat_lt (number e.tag) (number x.tag)) refl te tx h (put_between (number e.tag + 1) es x tx later)

place_step : (n place : ℕ) (b : Bool) → place ≤ n → (if b then suc place else 0) ≤ suc n
place_step n place true l = omega (arith, l)
place_step n place false l = omega arith

pub place_within : {A : Type 0} (tag : Tag) (es : List (Element A)) → place_in tag (map element_view es) ≤ length es
place_within tag [] = omega arith
place_within tag (e ∷ es) = place_step (length es) (place_in tag (map element_view es)) (nat_lt (number e.tag) (number tag)) (place_within tag es)

pub stands_here : {A : Type 0} (tag : Tag) (es : List (Element A)) (place : ℕ) (e : Element A) → place < length es → e ≡ get_or es place e → stands_at tag place (map element_view es) ≡ is_tag e.tag tag
stands_here tag [] place e low h = absurd (omega (arith, low))
stands_here tag (x ∷ es) zero e low h = ap (λ (y : Element _). is_tag y.tag tag) (sym h)
stands_here tag (x ∷ es) (suc place) e low h = stands_here tag es place e (omega (arith, low)) h

pub stands_past : {A : Type 0} (tag : Tag) (es : List (Element A)) (place : ℕ) → length es ≤ place → stands_at tag place (map element_view es) ≡ false
stands_past tag [] place low = refl
stands_past tag (x ∷ es) zero low = absurd (omega (arith, low))
stands_past tag (x ∷ es) (suc place) low = stands_past tag es place (omega (arith, low))

pub stands_within : {A : Type 0} (tag : Tag) (es : List (Element A)) (place : ℕ) → stands_at tag place (map element_view es) ≡ true → place < length es
stands_within tag [] place h = let c : false ≡ true = h in absurd cc
stands_within tag (x ∷ es) zero h = omega arith
stands_within tag (x ∷ es) (suc place) h = omega (arith, stands_within tag es place h)

-- items one after the other
pub sets_next : (ss : List (List El)) (s : List El) → AreSets (items_of ss) → IsDataSet s → AreSets (items_of (ss ++ s ∷ []))
sets_next [] s h is = (is, tt)
sets_next (x ∷ ss) s (hx, later) is = (hx, sets_next ss s later is)

pub sets_more : (ss : List (List El)) (i : ℕ) (s : List El) → i < length ss → s ≡ get_or ss i s → AreSets (items_of (take i ss)) → IsDataSet s → AreSets (items_of (take (i + 1) ss))
sets_more ss i s low e h is =
    let more : take (i + 1) ss ≡ take i ss ++ s ∷ [] = take_more ss i s low ∙ ap (λ x. take i ss ++ x ∷ []) (sym e) in
    rw more (sets_next (take i ss) s h is)

-- an element is put, or the set stays as it was: a data set both ways
pub after_put : {U E : Type 0} (r : Result U E) (x : El) (old new : List El) → OnOk r (new ≡ put x old) → OnErr r (new ≡ old) → IsTag x.tag → IsElement x → HoldsSets x.value → IsDataSet old → IsDataSet new
after_put (Ok u) x old new ok err tag is sets set = subst (λ (es : List El). IsDataSet es) (sym ok) (put_set x 0 old (omega arith) tag is sets set)
after_put (Err e) x old new ok err tag is sets set = subst (λ (es : List El). IsDataSet es) (sym err) set

pub on_err_map : {U E X Y : Type 0} (r : Result U E) (f : X → Y) (new old : List X) → OnErr r (new ≡ old) → OnErr r (map f new ≡ map f old)
on_err_map (Ok u) f new old h = h
on_err_map (Err e) f new old h = ap (map f) h
