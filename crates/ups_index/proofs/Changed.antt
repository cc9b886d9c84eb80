-- Slots and their posts, after a slot is added, changed or dropped.
use Rattle.std.proofs.Common.{◌≡◌, ℕ, ℤ, zero, suc, ◌^◌, ◌<◌, ◌≢◌, ◌⊎◌, Bool, true, false, cond, not, ◌||◌, List, [], ◌∷◌, ◌++◌, length, get_or, set, Contains, refl, sym, ap, ◌∙◌, subst, arith, inl, inr, length-append, true≢false}
use Rattle.std.specs.Prelude.{Option, None, Some, MatchOption, is_some}
use Rattle.std.specs.Str.{bytes_eq}
use Rattle.std.specs.Cmp.Lexicographic.{same_text}
use Rattle.std.proofs.lemmas.Bool.{cases_lt}
use Rattle.std.proofs.lemmas.List.{get_or_append_left, get_or_push, get_or-set_same, get_or-set_other, length-set}
use Rattle.std.proofs.lemmas.List.Elements.{filter_map-append}
use Rattle.ups_dataset.specs.declared.tag.Tag.{Tag}
use Rattle.ups_index.specs.declared.posts.Post.{Post}
use Rattle.ups_index.specs.Indexed.{has_step, altered, put_values, without_uid}
use Rattle.ups_index.specs.Kept.{IsSlot, KeepsIndex}
use Rattle.ups_index.specs.Numbers.{text_number, step_number, moment_number}
use Rattle.ups_index.specs.Posts.{post, KeepsEach, KeepsOthers}
use Rattle.ups_index.specs.Slots.{IndexSlot, seen_slots}
use Rattle.ups_index.specs.Stored.{RowValues}
use Rattle.ups_index.proofs.Placed.{text_is_itself, step_in, values_in, never_some, slot_within}

pub keeps_live : (slots : List IndexSlot) (s t p s2 t2 p2 : List Post) → KeepsIndex slots s t p → KeepsEach s s2 → KeepsEach t t2 → KeepsEach p p2 → KeepsIndex slots s2 t2 p2
keeps_live slots s t p s2 t2 p2 k a b c = record {
  steps_posted = λ place step values r. a (step_number step) place (k.steps_posted place step values r);
  texts_posted = λ place step values r stored h. b (text_number stored.0 stored.1) place (k.texts_posted place step values r stored h);
  starts_posted = λ place step values r moment e. c (moment_number moment) place (k.starts_posted place step values r moment e);
  one_slot = k.one_slot;
  few = k.few;
}

pub same_slots : (slots other : List IndexSlot) (s t p : List Post) → other ≡ slots → KeepsIndex slots s t p → KeepsIndex other s t p
same_slots slots other s t p e k = subst (λ (r : List IndexSlot). KeepsIndex r s t p) (sym e) k

-- a slot after one is put at the end
pushed : (slots : List IndexSlot) (slot : IndexSlot) (place : ℕ) (step : List ℕ) (values : RowValues) → IsSlot (slots ++ slot ∷ []) place step values → IsSlot slots place step values ⊎ ((place ≡ length slots) × (slot ≡ Some (step, values)))
pushed slots slot place step values is = elim (cases_lt place (length slots)) [
  | inl a ↦ inl (sym (get_or_append_left slots (slot ∷ []) None place a) ∙ is)
  | inr b ↦
      let l = slot_within (slots ++ slot ∷ []) place (step, values) is in
      let n = length-append slots (slot ∷ []) in
      let e : place ≡ length slots = omega (arith, b, l, n) in inr (e, sym (get_or_push slots slot None place (sym e)) ∙ is)
]

-- and after one is changed
changed : (slots : List IndexSlot) (at : ℕ) (slot : IndexSlot) (place : ℕ) (step : List ℕ) (values : RowValues) → at < length slots → IsSlot (set slots at slot) place step values → ((place ≢ at) × IsSlot slots place step values) ⊎ ((place ≡ at) × (slot ≡ Some (step, values)))
changed slots at slot place step values within is = elim (cases_lt place at) [
  | inl a ↦ inl (other (λ e. omega (arith, a, e)))
  | inr a ↦ elim (cases_lt at place) [
    | inl b ↦ inl (other (λ e. omega (arith, b, e)))
    | inr b ↦ let e : place ≡ at = omega (arith, a, b) in inr (e, sym (get_or-set_same slots at slot None within) ∙ sym (ap (λ (k : ℕ). get_or (set slots at slot) k None) e) ∙ is)
  ]
]
  where
    other : place ≢ at → (place ≢ at) × IsSlot slots place step values
    other n = (n, sym (get_or-set_other slots at place slot None n) ∙ is)

module _ (slots : List IndexSlot) (step : List ℕ) (values : RowValues) (absent : (place : ℕ) (v : RowValues) → IsSlot slots place step v → ⊥) (few : length slots < 2 ^ 32) where
  pub add_keeps : (s t p s2 t2 p2 : List Post) → KeepsIndex slots s t p → KeepsEach s s2 → KeepsEach t t2 → KeepsEach p p2 → Contains s2 (post (step_number step) (length slots))
      → ((stored : Tag × List ℕ) → Contains values.texts stored → Contains t2 (post (text_number stored.0 stored.1) (length slots))) → ((moment : ℤ) → values.start ≡ Some moment → Contains p2 (post (moment_number moment) (length slots)))
      → KeepsIndex (slots ++ Some (step, values) ∷ []) s2 t2 p2
  add_keeps s t p s2 t2 p2 k a b c hs ht hp = record {
    steps_posted = λ place u v r. elim (pushed slots (Some (step, values)) place u v r) [
      | inl x ↦ a (step_number u) place (k.steps_posted place u v x)
      | inr (e, f) ↦ subst (λ (n : ℕ). Contains s2 (post (step_number u) n)) (sym e) (subst (λ (w : List ℕ). Contains s2 (post (step_number w) (length slots))) (step_in step u values v f) hs)
    ];
    texts_posted = λ place u v r stored h. elim (pushed slots (Some (step, values)) place u v r) [
      | inl x ↦ b (text_number stored.0 stored.1) place (k.texts_posted place u v x stored h)
      | inr (e, f) ↦ subst (λ (n : ℕ). Contains t2 (post (text_number stored.0 stored.1) n)) (sym e) (ht stored (subst (λ (w : RowValues). Contains w.texts stored) (sym (values_in step u values v f)) h))
    ];
    starts_posted = λ place u v r moment m. elim (pushed slots (Some (step, values)) place u v r) [
      | inl x ↦ c (moment_number moment) place (k.starts_posted place u v x moment m)
      | inr (e, f) ↦ subst (λ (n : ℕ). Contains p2 (post (moment_number moment) n)) (sym e) (hp moment (ap (λ (w : RowValues). w.start) (values_in step u values v f) ∙ m))
    ];
    one_slot = λ i j u v w r q. elim (pushed slots (Some (step, values)) i u v r) [
      | inl x ↦ elim (pushed slots (Some (step, values)) j u w q) [
        | inl y ↦ k.one_slot i j u v w x y
        | inr (e, f) ↦ absurd (absent i v (subst (λ (z : List ℕ). IsSlot slots i z v) (sym (step_in step u values w f)) x))
      ]
      | inr (e, f) ↦ elim (pushed slots (Some (step, values)) j u w q) [
        | inl y ↦ absurd (absent j w (subst (λ (z : List ℕ). IsSlot slots j z w) (sym (step_in step u values v f)) y))
        | inr (e2, f2) ↦ e ∙ sym e2
      ]
    ];
    few = (let n = length-append slots (Some (step, values) ∷ []) in omega (arith, n, few));
  }

module _ (slots : List IndexSlot) (at : ℕ) (step : List ℕ) (old : RowValues) (is : IsSlot slots at step old) where
  within : at < length slots
  within = slot_within slots at (step, old) is

  pub alter_keeps : (values : RowValues) (s t p tm pm t2 p2 : List Post) → KeepsIndex slots s t p → KeepsOthers at t tm → KeepsOthers at p pm → KeepsEach tm t2 → KeepsEach pm p2
      → ((stored : Tag × List ℕ) → Contains values.texts stored → Contains t2 (post (text_number stored.0 stored.1) at)) → ((moment : ℤ) → values.start ≡ Some moment → Contains p2 (post (moment_number moment) at))
      → KeepsIndex (set slots at (Some (step, values))) s t2 p2
  alter_keeps values s t p tm pm t2 p2 k a b c d ht hp = record {
    steps_posted = λ place u v r. elim (changed slots at (Some (step, values)) place u v within r) [
      | inl (n, x) ↦ k.steps_posted place u v x
      | inr (e, f) ↦ subst (λ (q : ℕ). Contains s (post (step_number u) q)) (sym e) (subst (λ (w : List ℕ). Contains s (post (step_number w) at)) (step_in step u values v f) (k.steps_posted at step old is))
    ];
    texts_posted = λ place u v r stored h. elim (changed slots at (Some (step, values)) place u v within r) [
      | inl (n, x) ↦ c (text_number stored.0 stored.1) place (a (text_number stored.0 stored.1) place n (k.texts_posted place u v x stored h))
      | inr (e, f) ↦ subst (λ (q : ℕ). Contains t2 (post (text_number stored.0 stored.1) q)) (sym e) (ht stored (subst (λ (w : RowValues). Contains w.texts stored) (sym (values_in step u values v f)) h))
    ];
    starts_posted = λ place u v r moment m. elim (changed slots at (Some (step, values)) place u v within r) [
      | inl (n, x) ↦ d (moment_number moment) place (b (moment_number moment) place n (k.starts_posted place u v x moment m))
      | inr (e, f) ↦ subst (λ (q : ℕ). Contains p2 (post (moment_number moment) q)) (sym e) (hp moment (ap (λ (w : RowValues). w.start) (values_in step u values v f) ∙ m))
    ];
    one_slot = λ i j u v w r q. elim (changed slots at (Some (step, values)) i u v within r) [
      | inl (n, x) ↦ elim (changed slots at (Some (step, values)) j u w within q) [
        | inl (n2, y) ↦ k.one_slot i j u v w x y
        | inr (e2, f2) ↦ k.one_slot i at u v old x (subst (λ (z : List ℕ). IsSlot slots at z old) (step_in step u values w f2) is) ∙ sym e2
      ]
      | inr (e, f) ↦ elim (changed slots at (Some (step, values)) j u w within q) [
        | inl (n2, y) ↦ e ∙ k.one_slot at j u old w (subst (λ (z : List ℕ). IsSlot slots at z old) (step_in step u values v f) is) y
        | inr (e2, f2) ↦ e ∙ sym e2
      ]
    ];
    few = (let n = length-set slots at (Some (step, values)) in omega (arith, n, k.few));
  }

  pub drop_keeps : (s t p s2 t2 p2 : List Post) → KeepsIndex slots s t p → KeepsOthers at s s2 → KeepsOthers at t t2 → KeepsOthers at p p2 → KeepsIndex (set slots at None) s2 t2 p2
  drop_keeps s t p s2 t2 p2 k a b c = record {
    steps_posted = λ place u v r. let (n, x) = kept place u v r in a (step_number u) place n (k.steps_posted place u v x);
    texts_posted = λ place u v r stored h. let (n, x) = kept place u v r in b (text_number stored.0 stored.1) place n (k.texts_posted place u v x stored h);
    starts_posted = λ place u v r moment m. let (n, x) = kept place u v r in c (moment_number moment) place n (k.starts_posted place u v x moment m);
    one_slot = λ i j u v w r q. k.one_slot i j u v w (kept i u v r).1 (kept j u w q).1;
    few = (let n = length-set slots at None in omega (arith, n, k.few));
  }
    where
      kept : (place : ℕ) (u : List ℕ) (v : RowValues) → IsSlot (set slots at None) place u v → (place ≢ at) × IsSlot slots place u v
      kept place u v r = elim (changed slots at None place u v within r) [
        | inl x ↦ x
        | inr (e, f) ↦ absurd (never_some (u, v) f)
      ]

-- a step that isn't among those seen has no slot
abbrev pub Absent : List IndexSlot → List ℕ → Type 0
Absent slots step = (place : ℕ) (v : RowValues) → IsSlot slots place step v → ⊥

neither : (a b : Bool) → (a || b) ≡ false → b ≡ false
neither true b h = absurd (true≢false h)
neither false b h = h

pub not_there : (slots : List IndexSlot) (step : List ℕ) → has_step step (seen_slots slots) ≡ false → Absent slots step
not_there [] step never place v is = never_some (step, v) is
not_there (None ∷ rest) step never zero v is = never_some (step, v) is
not_there (Some (u, w) ∷ rest) step never zero v is =
    true≢false (sym (ap (λ (x : List ℕ). bytes_eq x step || has_step step (seen_slots rest)) (step_in u step w v is) ∙ ap (λ (b : Bool). b || has_step step (seen_slots rest)) (text_is_itself step)) ∙ never)
not_there (None ∷ rest) step never (suc place) v is = not_there rest step never place v is
not_there (Some (u, w) ∷ rest) step never (suc place) v is = not_there rest step (neither (bytes_eq u step) (has_step step (seen_slots rest)) never) place v is

absent_tail : (slot : IndexSlot) (rest : List IndexSlot) (step : List ℕ) → Absent (slot ∷ rest) step → Absent rest step
absent_tail slot rest step never place v is = never (suc place) v is

-- the UID of a step in the first slot is another one
other_first : (u step : List ℕ) (w : RowValues) (rest : List IndexSlot) → Absent (Some (u, w) ∷ rest) step → bytes_eq u step ≡ false
other_first u step w rest never = by_test (bytes_eq u step) refl
  where
    by_test : (b : Bool) → bytes_eq u step ≡ b → b ≡ false
    by_test false e = refl
    by_test true e = absurd (never 0 w (ap (λ (x : List ℕ). Some (x, w)) (same_text u step (sym e))))

-- so that it can't be altered or dropped
pub unaltered : (slots : List IndexSlot) (step : List ℕ) (w : RowValues) → Absent slots step → seen_slots slots ≡ altered step w (seen_slots slots)
unaltered [] step w never = refl
unaltered (None ∷ rest) step w never = unaltered rest step w (absent_tail None rest step never)
unaltered (Some (u, v) ∷ rest) step w never =
    ap (λ (t : List (List ℕ × RowValues)). (u, v) ∷ t) (unaltered rest step w (absent_tail (Some (u, v)) rest step never))
    ∙ sym (ap (λ (b : Bool). cond b (step, w) (u, v) ∷ altered step w (seen_slots rest)) (other_first u step v rest never))

pub undropped : (slots : List IndexSlot) (step : List ℕ) → Absent slots step → seen_slots slots ≡ without_uid step (seen_slots slots)
undropped [] step never = refl
undropped (None ∷ rest) step never = undropped rest step (absent_tail None rest step never)
undropped (Some (u, v) ∷ rest) step never =
    ap (λ (t : List (List ℕ × RowValues)). (u, v) ∷ t) (undropped rest step (absent_tail (Some (u, v)) rest step never))
    ∙ sym (ap (λ (b : Bool). cond (not b) ((u, v) ∷ without_uid step (seen_slots rest)) (without_uid step (seen_slots rest))) (other_first u step v rest never))

zero_suc : (n : ℕ) → zero ≡ suc n → ⊥
zero_suc n e = omega (arith, e)

suc_in : (m n : ℕ) → suc m ≡ suc n → m ≡ n
suc_in m n e = omega (arith, e)

-- the step is in no slot but the one at a place
abbrev pub IsAlone : List IndexSlot → List ℕ → ℕ → Type 0
IsAlone slots step at = (place : ℕ) (u : RowValues) → IsSlot slots place step u → place ≡ at

alone_behind : (slot : IndexSlot) (rest : List IndexSlot) (step : List ℕ) → IsAlone (slot ∷ rest) step 0 → Absent rest step
alone_behind slot rest step once place u is = zero_suc place (sym (once (suc place) u is))

alone_tail : (slot : IndexSlot) (rest : List IndexSlot) (step : List ℕ) (at : ℕ) → IsAlone (slot ∷ rest) step (suc at) → IsAlone rest step at
alone_tail slot rest step at once place u is = suc_in place at (once (suc place) u is)

other_before : (u step : List ℕ) (w : RowValues) (rest : List IndexSlot) (at : ℕ) → IsAlone (Some (u, w) ∷ rest) step (suc at) → bytes_eq u step ≡ false
other_before u step w rest at once = by_test (bytes_eq u step) refl
  where
    by_test : (b : Bool) → bytes_eq u step ≡ b → b ≡ false
    by_test false e = refl
    by_test true e = absurd (zero_suc at (once 0 w (ap (λ (x : List ℕ). Some (x, w)) (same_text u step (sym e)))))

-- what callers see of a step that is changed or removed
pub altered_slots : (slots : List IndexSlot) (at : ℕ) (step : List ℕ) (v w : RowValues) → IsSlot slots at step v → IsAlone slots step at → seen_slots (set slots at (Some (step, w))) ≡ altered step w (seen_slots slots)
altered_slots [] at step v w is once = absurd (never_some (step, v) is)
altered_slots (None ∷ rest) zero step v w is once = absurd (never_some (step, v) is)
altered_slots (Some (u, x) ∷ rest) zero step v w is once =
    ap (λ (t : List (List ℕ × RowValues)). (step, w) ∷ t) (unaltered rest step w (alone_behind (Some (u, x)) rest step once))
    ∙ sym (ap (λ (b : Bool). cond b (step, w) (u, x) ∷ altered step w (seen_slots rest)) (ap (λ (y : List ℕ). bytes_eq y step) (step_in u step x v is) ∙ text_is_itself step))
altered_slots (None ∷ rest) (suc at) step v w is once = altered_slots rest at step v w is (alone_tail None rest step at once)
altered_slots (Some (u, x) ∷ rest) (suc at) step v w is once =
    ap (λ (t : List (List ℕ × RowValues)). (u, x) ∷ t) (altered_slots rest at step v w is (alone_tail (Some (u, x)) rest step at once))
    ∙ sym (ap (λ (b : Bool). cond b (step, w) (u, x) ∷ altered step w (seen_slots rest)) (other_before u step x rest at once))

pub dropped_slots : (slots : List IndexSlot) (at : ℕ) (step : List ℕ) (v : RowValues) → IsSlot slots at step v → IsAlone slots step at → seen_slots (set slots at None) ≡ without_uid step (seen_slots slots)
dropped_slots [] at step v is once = absurd (never_some (step, v) is)
dropped_slots (None ∷ rest) zero step v is once = absurd (never_some (step, v) is)
dropped_slots (Some (u, x) ∷ rest) zero step v is once =
    undropped rest step (alone_behind (Some (u, x)) rest step once)
    ∙ sym (ap (λ (b : Bool). cond (not b) ((u, x) ∷ without_uid step (seen_slots rest)) (without_uid step (seen_slots rest))) (ap (λ (y : List ℕ). bytes_eq y step) (step_in u step x v is) ∙ text_is_itself step))
dropped_slots (None ∷ rest) (suc at) step v is once = dropped_slots rest at step v is (alone_tail None rest step at once)
dropped_slots (Some (u, x) ∷ rest) (suc at) step v is once =
    ap (λ (t : List (List ℕ × RowValues)). (u, x) ∷ t) (dropped_slots rest at step v is (alone_tail (Some (u, x)) rest step at once))
    ∙ sym (ap (λ (b : Bool). cond (not b) ((u, x) ∷ without_uid step (seen_slots rest)) (without_uid step (seen_slots rest))) (other_before u step x rest at once))

pub seen_push : (slots : List IndexSlot) (step : List ℕ) (values : RowValues) → seen_slots (slots ++ Some (step, values) ∷ []) ≡ seen_slots slots ++ (step, values) ∷ []
seen_push slots step values = filter_map-append (λ (slot : IndexSlot). slot) slots (Some (step, values) ∷ [])

-- posts at a number and a place that are the same as others
pub moved : (posts : List Post) (a b k l : ℕ) → a ≡ b → k ≡ l → Contains posts (post a k) → Contains posts (post b l)
moved posts a b k l e f h = subst (λ (p : Post). Contains posts p) (λ i. post (e i) (f i)) h

pub texts_moved : (posts : List Post) (got want : List (Tag × List ℕ)) (k l : ℕ) → got ≡ want → k ≡ l → ((stored : Tag × List ℕ) → Contains got stored → Contains posts (post (text_number stored.0 stored.1) k))
    → (stored : Tag × List ℕ) → Contains want stored → Contains posts (post (text_number stored.0 stored.1) l)
texts_moved posts got want k l e f has stored h = moved posts (text_number stored.0 stored.1) (text_number stored.0 stored.1) k l refl f (has stored (subst (λ (t : List (Tag × List ℕ)). Contains t stored) (sym e) h))

pub start_moved : (posts : List Post) (got want : Option ℤ) (k l : ℕ) → got ≡ want → k ≡ l → MatchOption got (Unit {0}) (λ m. Contains posts (post (moment_number m) k)) → (m : ℤ) → want ≡ Some m → Contains posts (post (moment_number m) l)
start_moved posts None want k l e f has m is = absurd (nothing m (e ∙ is))
  where
    nothing : (m : ℤ) → None ≡ Some m → ⊥
    nothing m e = cc
start_moved posts (Some x) want k l e f has m is = let same : x ≡ m = one_value x m (e ∙ is) in moved posts (moment_number x) (moment_number m) k l (ap moment_number same) f has
  where
    one_value : (x m : ℤ) → Some x ≡ Some m → x ≡ m
    one_value x m e = cc

-- whether a step is among those seen
pub absent_has : (slots : List IndexSlot) (step : List ℕ) → Absent slots step → has_step step (seen_slots slots) ≡ false
absent_has [] step never = refl
absent_has (None ∷ rest) step never = absent_has rest step (absent_tail None rest step never)
absent_has (Some (u, v) ∷ rest) step never = (λ i. other_first u step v rest never i || absent_has rest step (absent_tail (Some (u, v)) rest step never) i)

pub has_is : (slots : List IndexSlot) (step : List ℕ) (place : Option ℕ) → MatchOption place (Absent slots step) (λ p. (values : RowValues) × IsSlot slots p step values) → is_some place ≡ has_step step (seen_slots slots)
has_is slots step None h = sym (absent_has slots step h)
has_is slots step (Some p) (v, r) = here (has_step step (seen_slots slots)) refl
  where
    here : (b : Bool) → has_step step (seen_slots slots) ≡ b → true ≡ b
    here true e = refl
    here false e = absurd (not_there slots step e p v r)

-- values of a step that has a slot take the place of those there
pub put_there : (slots : List IndexSlot) (step : List ℕ) (values : RowValues) (at : ℕ) (old : RowValues) → IsSlot slots at step old → altered step values (seen_slots slots) ≡ put_values step values (seen_slots slots)
put_there slots step values at old is =
    let seen = seen_slots slots in
    ap (λ (b : Bool). cond b (altered step values seen) (seen ++ (step, values) ∷ [])) (has_is slots step (Some at) (old, is))

-- and those of a step that has none are put behind the others
pub put_behind : (slots : List IndexSlot) (step : List ℕ) (values : RowValues) → Absent slots step → seen_slots slots ++ (step, values) ∷ [] ≡ put_values step values (seen_slots slots)
put_behind slots step values never =
    let seen = seen_slots slots in
    ap (λ (b : Bool). cond b (altered step values seen) (seen ++ (step, values) ∷ [])) (sym (absent_has slots step never))
