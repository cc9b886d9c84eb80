-- Slots, and the posts that lead to them.
use Rattle.std.proofs.Common.{◌≡◌, ℕ, ℤ, zero, suc, ◌+◌, ◌-◌, ◌^◌, ◌<◌, ◌≤◌, ◌≢◌, ◌⊎◌, Bool, true, false, cond, ◌||◌, List, [], ◌∷◌, ◌++◌, length, get_or, map, filter, take, max, Contains, refl, sym, ap, ◌∙◌, subst, arith, inl, inr, true≢false}
use Rattle.std.specs.Prelude.{Option, None, Some, MatchOption, pos, negsuc, int_le}
use Rattle.std.proofs.Common.{leb-true}
use Rattle.std.specs.Bool.{MatchBool}
use Rattle.std.specs.List.{list_any, filter_map, cons_option}
use Rattle.std.specs.List.Sorted.{IsNonDecreasing}
use Rattle.std.specs.Option.{option_to_list}
use Rattle.std.specs.Str.{bytes_eq}
use Rattle.std.specs.Cmp.Lexicographic.{same_text}
use Rattle.std.proofs.lemmas.Bool.{cases_lt}
use Rattle.std.proofs.lemmas.List.{get_or_default, take_more, take_all, map_more}
use Rattle.std.proofs.lemmas.List.Elements.{Contains-push_cases, Contains-append_left, Contains-append_right, filter_map-append}
use Rattle.std.proofs.lemmas.List.Folds.{Any-from_list_any}
use Rattle.ups_dataset.specs.declared.tag.Tag.{Tag}
use Rattle.ups_dataset.specs.Tag.{is_tag}
use Rattle.ups_match.specs.Class.{FirstKey, value, start}
use Rattle.ups_match.specs.declared.ranges.Span.{Span}
use Rattle.ups_match.specs.Ranges.{spans, is_from, is_up_to}
use Rattle.ups_match.proofs.Class.{both, same_tag}
use Rattle.ups_index.specs.declared.posts.Post.{Post}
use Rattle.ups_index.specs.declared.values.StoredText.{StoredText}
use Rattle.ups_index.specs.Indexed.{indexed_class}
use Rattle.ups_index.specs.Kept.{text_view, in_class, HasNoneIn, IsSlot, StepsPosted, TextsPosted, StartsPosted}
use Rattle.ups_index.specs.Numbers.{text_number, step_number, moment_number, low_number, high_number}
use Rattle.ups_index.specs.Posts.{post, KeepsEach, HasTexts}
use Rattle.ups_index.specs.Slots.{IndexSlot, seen_slots}
use Rattle.ups_index.specs.Stored.{RowValues, is_stored_text, has_first}

pub text_is_itself : (t : List ℕ) → bytes_eq t t ≡ true
text_is_itself [] = refl
text_is_itself (x ∷ xs) = let rest = text_is_itself xs in grind (arith, rest)

-- what a slot has
some_in : (x y : List ℕ × RowValues) → Some x ≡ Some y → x ≡ y
some_in x y e = cc

pub step_in : (a b : List ℕ) (v w : RowValues) → ◌≡◌ {A = IndexSlot} (Some (a, v)) (Some (b, w)) → a ≡ b
step_in a b v w e = ap (λ (x : List ℕ × RowValues). x.0) (some_in (a, v) (b, w) e)

pub values_in : (a b : List ℕ) (v w : RowValues) → ◌≡◌ {A = IndexSlot} (Some (a, v)) (Some (b, w)) → v ≡ w
values_in a b v w e = ap (λ (x : List ℕ × RowValues). x.1) (some_in (a, v) (b, w) e)

pub never_some : (x : List ℕ × RowValues) → None ≡ Some x → ⊥
never_some x e = cc

-- a slot with a step is there
pub slot_within : (slots : List IndexSlot) (place : ℕ) (step : List ℕ × RowValues) → get_or slots place None ≡ Some step → place < length slots
slot_within [] place step is = absurd (never_some step is)
slot_within (s ∷ slots) zero step is = omega arith
slot_within (s ∷ slots) (suc place) step is = let l = slot_within slots place step is in omega (arith, l)

-- what is stored, as it is seen
pub any_viewed : {A : Type 0} (tag : Tag) (text : List ℕ) (texts : List (StoredText A)) → list_any (λ stored. is_stored_text tag text (text_view stored)) texts ≡ list_any (is_stored_text tag text) (map text_view texts)
any_viewed tag text [] = refl
any_viewed tag text (t ∷ ts) = ap (λ (b : Bool). is_stored_text tag text (text_view t) || b) (any_viewed tag text ts)

-- whether a slot has a step, by the UID of the step that it has
pub slot_held : (slots : List IndexSlot) (place : ℕ) (step u : List ℕ) (v : RowValues) → IsSlot slots place u v → (b : Bool) → b ≡ bytes_eq u step
    → MatchBool b ((values : RowValues) × IsSlot slots place step values) ((values : RowValues) → IsSlot slots place step values → ⊥)
slot_held slots place step u v is true same = (v, is ∙ ap (λ (w : List ℕ). Some (w, v)) (same_text u step same))
slot_held slots place step u v is false same = λ values r. true≢false (sym (text_is_itself step) ∙ sym (ap (λ (w : List ℕ). bytes_eq w step) (step_in u step v values (sym is ∙ r))) ∙ sym same)

-- none of some posts leads to the slot of a step
abbrev pub LeadsNowhere : List IndexSlot → List ℕ → List Post → Type 0
LeadsNowhere slots step posts = (number place : ℕ) (values : RowValues) → IsSlot slots place step values → Contains posts (post number place) → ⊥

pub nowhere_more : (slots : List IndexSlot) (step : List ℕ) (posts : List Post) (i : ℕ) (p : Post) → i < length posts → p ≡ get_or posts i p → LeadsNowhere slots step (take i posts)
    → ((values : RowValues) → IsSlot slots p.place step values → ⊥) → LeadsNowhere slots step (take (i + 1) posts)
nowhere_more slots step posts i p l is before here number place values r has =
    elim (Contains-push_cases (take i posts) p (post number place) (subst (λ (t : List Post). Contains t (post number place)) (take_more posts i p l ∙ ap (λ (q : Post). take i posts ++ q ∷ []) (sym is)) has)) [
      | inl a ↦ before number place values r a
      | inr e ↦ here values (subst (λ (k : ℕ). IsSlot slots k step values) (sym (ap (λ (q : Post). q.place) e)) r)
    ]

pub nowhere_read : (slots : List IndexSlot) (step : List ℕ) (posts : List Post) (i : ℕ) → i < length posts → LeadsNowhere slots step (take i posts)
    → ((values : RowValues) → IsSlot slots (get_or posts i (post 0 0)).place step values → ⊥) → LeadsNowhere slots step (take (i + 1) posts)
nowhere_read slots step posts i l before here = nowhere_more slots step posts i (get_or posts i (post 0 0)) l (get_or_default posts i (post 0 0) (get_or posts i (post 0 0)) l) before here

pub nowhere_all : (slots : List IndexSlot) (step : List ℕ) (posts : List Post) (i : ℕ) → length posts ≤ i → LeadsNowhere slots step (take i posts) → LeadsNowhere slots step posts
nowhere_all slots step posts i l h = subst (LeadsNowhere slots step) (take_all i posts l) h

-- the same of a run of posts, of which the first is read
pub nowhere_first : (slots : List IndexSlot) (step : List ℕ) (p : Post) (rest : List Post) → ((values : RowValues) → IsSlot slots p.place step values → ⊥) → LeadsNowhere slots step rest → LeadsNowhere slots step (p ∷ rest)
nowhere_first slots step p rest here later number place values r (zero, l, e) = here values (subst (λ (k : ℕ). IsSlot slots k step values) (sym (ap (λ (q : Post). q.place) e)) r)
nowhere_first slots step p rest here later number place values r (suc k, l, e) = later number place values r (k, omega (arith, l), e)

pub nowhere_none : (slots : List IndexSlot) (step : List ℕ) → LeadsNowhere slots step []
nowhere_none slots step number place values r (k, l, e) = absurd (omega (arith, l))

pub texts_more : {A : Type 0} (texts : List (StoredText A)) (i place number : ℕ) (t : StoredText A) (old new : List Post) → i < length texts → t ≡ get_or texts i t → number ≡ text_number t.tag t.text
    → HasTexts (map text_view (take i texts)) place old → KeepsEach old new → Contains new (post number place) → HasTexts (map text_view (take (i + 1) texts)) place new
texts_more texts i place number t old new l is n has keeps this stored h =
    elim (Contains-push_cases (map text_view (take i texts)) (text_view t) stored (subst (λ (s : List (Tag × List ℕ)). Contains s stored) (map_more text_view texts i t l ∙ ap (λ (s : StoredText _). map text_view (take i texts) ++ text_view s ∷ []) (sym is)) h)) [
      | inl a ↦ keeps (text_number stored.0 stored.1) place (has stored a)
      | inr e ↦ subst (λ (s : Tag × List ℕ). Contains new (post (text_number s.0 s.1) place)) e (subst (λ (k : ℕ). Contains new (post k place)) n this)
    ]

pub texts_all : {A : Type 0} (texts : List (StoredText A)) (i place : ℕ) (posts : List Post) → length texts ≤ i → HasTexts (map text_view (take i texts)) place posts → HasTexts (map text_view texts) place posts
texts_all texts i place posts l h = subst (λ (t : List (StoredText _)). HasTexts (map text_view t) place posts) (take_all i texts l) h

-- the places of posts
abbrev pub HasPlaces : List Post → List ℕ → Type 0
HasPlaces posts places = (number place : ℕ) → Contains posts (post number place) → Contains places place

abbrev pub KeepsPlaces : List ℕ → List ℕ → Type 0
KeepsPlaces old new = (place : ℕ) → Contains old place → Contains new place

-- the places of those posts whose numbers are in a range
abbrev pub HasPlacesWithin : ℕ → ℕ → List Post → List ℕ → Type 0
HasPlacesWithin low high posts places = (number place : ℕ) → Contains posts (post number place) → low ≤ number → number ≤ high → Contains places place

-- the post, if its number is in a range, has its place
abbrev pub HasPlaceWithin : ℕ → ℕ → Post → List ℕ → Type 0
HasPlaceWithin low high p places = low ≤ p.number → p.number ≤ high → Contains places p.place

pub places_more : (low high : ℕ) (posts : List Post) (i : ℕ) (p : Post) (old new : List ℕ) → i < length posts → p ≡ get_or posts i p → HasPlacesWithin low high (take i posts) old → KeepsPlaces old new → HasPlaceWithin low high p new
    → HasPlacesWithin low high (take (i + 1) posts) new
places_more low high posts i p old new l is has keeps this number place h from upto =
    elim (Contains-push_cases (take i posts) p (post number place) (subst (λ (t : List Post). Contains t (post number place)) (take_more posts i p l ∙ ap (λ (q : Post). take i posts ++ q ∷ []) (sym is)) h)) [
      | inl a ↦ keeps place (has number place a from upto)
      | inr e ↦ subst (λ (q : Post). HasPlaceWithin low high q new) e this from upto
    ]

pub places_read : (low high : ℕ) (posts : List Post) (i : ℕ) (old new : List ℕ) → i < length posts → HasPlacesWithin low high (take i posts) old → KeepsPlaces old new → HasPlaceWithin low high (get_or posts i (post 0 0)) new
    → HasPlacesWithin low high (take (i + 1) posts) new
places_read low high posts i old new l has keeps this = places_more low high posts i (get_or posts i (post 0 0)) old new l (get_or_default posts i (post 0 0) (get_or posts i (post 0 0)) l) has keeps this

pub places_all : (low high : ℕ) (posts : List Post) (i : ℕ) (places : List ℕ) → length posts ≤ i → HasPlacesWithin low high (take i posts) places → HasPlacesWithin low high posts places
places_all low high posts i places l h = subst (λ (t : List Post). HasPlacesWithin low high t places) (take_all i posts l) h

-- a place more
pub place_more : (old new : List ℕ) (place : ℕ) → new ≡ old ++ place ∷ [] → KeepsPlaces old new × Contains new place
place_more old new place is = ((λ other h. subst (λ (l : List ℕ). Contains l other) (sym is) (Contains-append_left old (place ∷ []) other h)), subst (λ (l : List ℕ). Contains l place) (sym is) (Contains-append_right old (place ∷ []) place (0, omega arith, refl)))

-- each post of a run has its place, or is still to be read
abbrev pub HasPlacesBut : List Post → List Post → List ℕ → Type 0
HasPlacesBut rest run places = (number place : ℕ) → Contains run (post number place) → Contains places place ⊎ Contains rest (post number place)

pub first_read : (run all rest : List Post) (p : Post) (old new : List ℕ) → all ≡ p ∷ rest → KeepsPlaces old new → Contains new p.place → HasPlacesBut all run old → HasPlacesBut rest run new
first_read run all rest p old new is keeps this has number place h = elim (has number place h) [
  | inl a ↦ inl (keeps place a)
  | inr b ↦ here (subst (λ (l : List Post). Contains l (post number place)) is b)
]
  where
    here : Contains (p ∷ rest) (post number place) → Contains new place ⊎ Contains rest (post number place)
    here (zero, l, e) = inl (subst (λ (k : ℕ). Contains new k) (ap (λ (q : Post). q.place) e) this)
    here (suc k, l, e) = inr (k, omega (arith, l), e)

pub all_read : (run rest : List Post) (places : List ℕ) → rest ≡ [] → HasPlacesBut rest run places → HasPlaces run places
all_read run rest places none has number place h = elim (has number place h) [
  | inl a ↦ a
  | inr b ↦ nothing (subst (λ (l : List Post). Contains l (post number place)) none b)
]
  where
    nothing : Contains [] (post number place) → Contains places place
    nothing (k, l, e) = absurd (omega (arith, l))

-- one slot more
cons_is : {X : Type 0} (o : Option X) → cons_option o [] ≡ option_to_list o
cons_is None = refl
cons_is (Some x) = refl

module _ (first : FirstKey) (slots : List IndexSlot) where
  pub class_more : (i : ℕ) → i < length slots → filter_map (in_class first) (take (i + 1) slots) ≡ filter_map (in_class first) (take i slots) ++ option_to_list (in_class first (get_or slots i None))
  class_more i l =
      ap (filter_map (in_class first)) (take_more slots i None l) ∙ filter_map-append (in_class first) (take i slots) (get_or slots i None ∷ [])
      ∙ ap (λ (t : List (List ℕ)). filter_map (in_class first) (take i slots) ++ t) (cons_is (in_class first (get_or slots i None)))

  append_nil : (xs : List (List ℕ)) → xs ++ [] ≡ xs
  append_nil [] = refl
  append_nil (x ∷ xs) = ap (λ (t : List (List ℕ)). x ∷ t) (append_nil xs)

  -- slots that aren't of the class are passed
  passes_one : (i : ℕ) → in_class first (get_or slots i None) ≡ None → filter_map (in_class first) (take (i + 1) slots) ≡ filter_map (in_class first) (take i slots)
  passes_one i none = elim (cases_lt i (length slots)) [
    | inl l ↦ class_more i l ∙ ap (λ (o : Option (List ℕ)). filter_map (in_class first) (take i slots) ++ option_to_list o) none ∙ append_nil (filter_map (in_class first) (take i slots))
    | inr b ↦ ap (filter_map (in_class first)) (take_all (i + 1) slots (omega (arith, b)) ∙ sym (take_all i slots b))
  ]

  passes : (gap from : ℕ) → HasNoneIn first slots from (from + gap) → filter_map (in_class first) (take (from + gap) slots) ≡ filter_map (in_class first) (take from slots)
  passes zero from none = ap (λ (n : ℕ). filter_map (in_class first) (take n slots)) (omega arith)
  passes (suc gap) from none =
      ap (λ (n : ℕ). filter_map (in_class first) (take n slots)) (omega arith)
      ∙ passes_one (from + gap) (none (from + gap) (omega arith) (omega arith))
      ∙ passes gap from (λ place low high. none place low (omega (arith, high)))

  pub passed : (from to : ℕ) → from ≤ to → HasNoneIn first slots from to → filter_map (in_class first) (take to slots) ≡ filter_map (in_class first) (take from slots)
  passed from to le none =
      let e : from + (to - from) ≡ to = omega (arith, le) in
      subst (λ (n : ℕ). filter_map (in_class first) (take n slots) ≡ filter_map (in_class first) (take from slots)) e (passes (to - from) from (subst (HasNoneIn first slots from) (sym e) none))

  -- a slot that is empty is passed, as those before it
  pub visit_empty : (next place : ℕ) (found : List (List ℕ)) → found ≡ filter_map (in_class first) (take next slots) → HasNoneIn first slots next place → next ≤ place → get_or slots place None ≡ None
      → found ≡ filter_map (in_class first) (take (place + 1) slots)
  visit_empty next place found is none le empty = is ∙ sym (passes_one place (ap (in_class first) empty) ∙ passed next place le none)

  pub visit_here : (next place : ℕ) (step : List ℕ × RowValues) (found after : List (List ℕ)) → found ≡ filter_map (in_class first) (take next slots) → HasNoneIn first slots next place → next ≤ place → get_or slots place None ≡ Some step
      → after ≡ found ++ option_to_list (in_class first (Some step)) → after ≡ filter_map (in_class first) (take (place + 1) slots)
  visit_here next place step found after is none le at put =
      put ∙ ap (λ (t : List (List ℕ)). t ++ option_to_list (in_class first (Some step))) (is ∙ sym (passed next place le none))
      ∙ ap (λ (o : IndexSlot). filter_map (in_class first) (take place slots) ++ option_to_list (in_class first o)) (sym at) ∙ sym (class_more place (slot_within slots place step at))

  -- each slot of the class from a place on has its place among those ahead
  abbrev pub Ahead : List ℕ → ℕ → ℕ → Type 0
  Ahead places next i = (place : ℕ) (step : List ℕ) (values : RowValues) → next ≤ place → IsSlot slots place step values → has_first first values ≡ true → (m : ℕ) × (i ≤ m) × (m < length places) × (get_or places m 0 ≡ place)

  -- what isn't of the class, by its slot
  class_of : (slot : IndexSlot) → ((step : List ℕ) (values : RowValues) → slot ≡ Some (step, values) → has_first first values ≡ true → ⊥) → in_class first slot ≡ None
  class_of None never = refl
  class_of (Some (step, values)) never = by_test (has_first first values) refl
    where
      by_test : (b : Bool) → has_first first values ≡ b → cond b (Some step) None ≡ None
      by_test false f = refl
      by_test true f = absurd (never step values refl f)

  pub none_before : (places : List ℕ) (next i place : ℕ) → IsNonDecreasing places → i < length places → get_or places i 0 ≡ place → Ahead places next i → HasNoneIn first slots next place
  none_before places next i place sorted l is ahead k low high = class_of (get_or slots k None)
      (λ step values r f. let a = ahead k step values low r f in let up = sorted i a.0 0 a.1 a.2 in absurd (omega (arith, up, is, a.3, high)))

  pub ahead_more : (places : List ℕ) (next i place : ℕ) → IsNonDecreasing places → i < length places → get_or places i 0 ≡ place → Ahead places next i → Ahead places (max next (place + 1)) (i + 1)
  ahead_more places next i place sorted l is ahead k step values low r f =
      let a = ahead k step values (omega (arith, low)) r f in
      let other : i ≢ a.0 = λ e. let same = ap (λ (n : ℕ). get_or places n 0) e in omega (arith, same, is, a.3, low) in
      (a.0, omega (arith, a.1, other), a.2, a.3)

  pub ahead_first : (places : List ℕ) → ((place : ℕ) (step : List ℕ) (values : RowValues) → IsSlot slots place step values → has_first first values ≡ true → Contains places place) → Ahead places 0 0
  ahead_first places has k step values low r f = let (m, l, e) = has k step values r f in (m, omega arith, l, get_or_default places m 0 k l ∙ e)

  pub ahead_end : (places : List ℕ) (next i : ℕ) (found : List (List ℕ)) → length places ≤ i → found ≡ filter_map (in_class first) (take next slots) → Ahead places next i → found ≡ filter_map (in_class first) slots
  ahead_end places next i found l is ahead =
      is ∙ elim (cases_lt next (length slots)) [
        | inl a ↦ sym (passed next (length slots) (omega (arith, a)) (λ k low high. class_of (get_or slots k None) (λ step values r f. let h = ahead k step values low r f in absurd (omega (arith, h.1, h.2, l)))))
            ∙ ap (filter_map (in_class first)) (take_all (length slots) slots (omega arith))
        | inr b ↦ ap (filter_map (in_class first)) (take_all next slots b)
      ]

-- the class, as callers see it
pub class_slots : (first : FirstKey) (slots : List IndexSlot) → filter_map (in_class first) slots ≡ indexed_class first (seen_slots slots)
class_slots first [] = refl
class_slots first (None ∷ rest) = class_slots first rest
class_slots first (Some (step, v) ∷ rest) = by_test (has_first first v) (class_slots first rest)
  where
    by_test : (b : Bool) → filter_map (in_class first) rest ≡ indexed_class first (seen_slots rest)
        → cons_option (cond b (Some step) None) (filter_map (in_class first) rest) ≡ map (λ (s : List ℕ × RowValues). s.0) (cond b ((step, v) ∷ filter (λ s. has_first first s.1) (seen_slots rest)) (filter (λ s. has_first first s.1) (seen_slots rest)))
    by_test true behind = ap (λ (t : List (List ℕ)). step ∷ t) behind
    by_test false behind = behind

pub class_same : (slots : List IndexSlot) (first key : FirstKey) (steps : List (List ℕ × RowValues)) → first ≡ key → seen_slots slots ≡ steps → filter_map (in_class first) slots ≡ indexed_class key steps
class_same slots first key steps f h = ap (λ (k : FirstKey). filter_map (in_class k) slots) f ∙ class_slots key slots ∙ ap (indexed_class key) h

-- where no post leads to a step, it has no slot
pub place_either : (slots : List IndexSlot) (step : List ℕ) (posts merged fresh : List Post) (number : ℕ) → StepsPosted slots posts → number ≡ step_number step → ((n place : ℕ) → Contains posts (post n place) → number ≤ n → n ≤ number → Contains merged (post n place) ⊎ Contains fresh (post n place))
    → LeadsNowhere slots step merged → (r : Option ℕ) → MatchOption r (LeadsNowhere slots step fresh) (λ place. (values : RowValues) × IsSlot slots place step values)
    → MatchOption r ((place : ℕ) (values : RowValues) → IsSlot slots place step values → ⊥) (λ place. (values : RowValues) × IsSlot slots place step values)
place_either slots step posts merged fresh number posted is runs nowhere (Some place) found = found
place_either slots step posts merged fresh number posted is runs nowhere None other = λ place values r.
    elim (runs (step_number step) place (posted place step values r) (omega (arith, is)) (omega (arith, is))) [
      | inl x ↦ nowhere (step_number step) place values r x
      | inr y ↦ other (step_number step) place values r y
    ]

-- the posts by which the first indexed key is looked up
text_number_of : (tag other : Tag) (text stored : List ℕ) → tag ≡ other → text ≡ stored → text_number tag text ≡ text_number other stored
text_number_of tag other text stored e f = λ i. text_number (e i) (f i)

pub texts_lead : (slots : List IndexSlot) (texts : List Post) (tag : Tag) (text : List ℕ) (n : ℕ) (first : FirstKey) → first ≡ value tag text → n ≡ text_number tag text → TextsPosted slots texts
    → (place : ℕ) (step : List ℕ) (values : RowValues) → IsSlot slots place step values → has_first first values ≡ true → (x : ℕ) × (n ≤ x) × (x ≤ n) × Contains texts (post x place)
texts_lead slots texts tag text n first fe ne posted place step values r h =
    let (k, stored, l, at, passes) = Any-from_list_any (is_stored_text tag text) values.texts (sym (ap (λ (f : FirstKey). has_first f values) fe) ∙ h) in
    let two = both (is_tag stored.0 tag) (bytes_eq text stored.1) passes in
    let same : text_number stored.0 stored.1 ≡ text_number tag text = text_number_of stored.0 tag stored.1 text (same_tag stored.0 tag two.0) (sym (same_text text stored.1 (sym two.1))) in
    (text_number stored.0 stored.1, omega (arith, ne, same), omega (arith, ne, same), posted place step values r stored (k, l, at))

rises : (a b : ℤ) → int_le a b ≡ true → moment_number a ≤ moment_number b
rises (pos a) (pos b) h = let le : a ≤ b = leb-true a b h in omega (arith, le)
rises (pos a) (negsuc b) h = absurd cc
rises (negsuc a) (pos b) h = omega arith
rises (negsuc a) (negsuc b) h = let le : b ≤ a = leb-true b a h in omega (arith, le)

low_is : (least : Option ℤ) (m : ℤ) → is_from least m ≡ true → low_number least ≤ moment_number m
low_is None m h = omega arith
low_is (Some l) m h = rises l m h

bounded : (m : ℤ) → moment_number m ≤ 2 ^ 64 - 1
bounded (pos n) = omega arith
bounded (negsuc n) = omega arith

high_is : (greatest : Option ℤ) (m : ℤ) → is_up_to greatest m ≡ true → moment_number m ≤ high_number greatest
high_is None m h = bounded m
high_is (Some g) m h = rises m g h

pub starts_lead : (slots : List IndexSlot) (starts : List Post) (span : Span) (low high : ℕ) (first : FirstKey) → first ≡ start span → low ≡ low_number span.least → high ≡ high_number span.greatest
    → StartsPosted slots starts → (place : ℕ) (step : List ℕ) (values : RowValues) → IsSlot slots place step values → has_first first values ≡ true → (x : ℕ) × (low ≤ x) × (x ≤ high) × Contains starts (post x place)
starts_lead slots starts span low high first fe le he posted place step values r h = here values.start refl (sym (ap (λ (f : FirstKey). has_first f values) fe) ∙ h)
  where
    here : (o : Option ℤ) → values.start ≡ o → spans (Some span) values.start ≡ true → (x : ℕ) × (low ≤ x) × (x ≤ high) × Contains starts (post x place)
    here None e t = absurd (true≢false (sym t ∙ ap (spans (Some span)) e))
    here (Some m) e t =
        let two = both (is_from span.least m) (is_up_to span.greatest m) (sym (ap (spans (Some span)) e) ∙ t) in
        let a = low_is span.least m two.0 in
        let b = high_is span.greatest m two.1 in
        (moment_number m, omega (arith, le, a), omega (arith, he, b), posted place step values r m e)
