-- How a list of waiting steps answers after each change of it.
use Rattle.std.proofs.Common.{◌≡◌, ◌<◌, ℕ, zero, suc, Bool, true, false, ◌||◌, ◌&&◌, cond, leb, nat_eq, List, [], ◌∷◌, ◌++◌, filter, length, get_or, Contains, Option, None, Some, refl, sym, ap, ◌∙◌, arith, true≢false, eq-eqb}
use Rattle.std.specs.Prelude.{is_some}
use Rattle.std.specs.List.{AllByRecursion, IsDistinct}
use Rattle.std.specs.List.Sorted.{IsPermutation}
use Rattle.std.specs.Option.{option_or}
use Rattle.std.specs.Str.{bytes_eq}
use Rattle.std.proofs.lemmas.List.Sorted.{IsPermutation-map, Contains-permutation, list_any-IsPermutation}
use Rattle.std.proofs.lemmas.Map.Keys.{IsDistinct-IsPermutation}
use Rattle.ups_life.specs.Distinct.{Distinct}
use Rattle.ups_life.specs.Watching.{is_among}
use Rattle.ups_life.proofs.Texts.{same_text, text_is_itself}
use Rattle.ups_keep.specs.declared.due.Final.{Final}
use Rattle.ups_keep.specs.Due.{inserted, without_final, is_same_final}
use Rattle.ups_keep.specs.Waits.{steps_of, waits, only_where}

-- TESTS

pub is_false : (b : Bool) → (b ≡ true → ⊥) → b ≡ false
is_false true n = absurd (n refl)
is_false false n = refl

pub same_test : (a b : Bool) → (a ≡ true → b ≡ true) → (b ≡ true → a ≡ true) → a ≡ b
same_test true b f g = sym (f refl)
same_test false true f g = g refl
same_test false false f g = refl

pub other_text : (v u : List ℕ) → bytes_eq v u ≡ bytes_eq u v
other_text v u = same_test (bytes_eq v u) (bytes_eq u v) (λ e. ap (λ w. bytes_eq u w) (same_text v u e) ∙ text_is_itself u) (λ e. ap (λ w. bytes_eq v w) (same_text u v e) ∙ text_is_itself v)

neither : (p q : Bool) → (p || q) ≡ false → (p ≡ false) × (q ≡ false)
neither true q e = absurd (true≢false e)
neither false q e = (refl, e)

both_false : (p q : Bool) → p ≡ false → q ≡ false → (p || q) ≡ false
both_false p q e f = ap (λ b. b || q) e ∙ f

-- WHO WAITS

pub among_waits : (u : List ℕ) (xs : List Final) → is_among u (steps_of xs) ≡ is_some (waits u xs)
among_waits u [] = refl
among_waits u (x ∷ xs) = by (among_waits u xs) (bytes_eq x.step u)
  where
    by : is_among u (steps_of xs) ≡ is_some (waits u xs) → (b : Bool) → (b || is_among u (steps_of xs)) ≡ is_some (cond b (Some x.moment) (waits u xs))
    by rest true = refl
    by rest false = rest

none_some : (o : Option ℕ) → o ≡ None → is_some o ≡ false
none_some o e = ap is_some e

pub some_none : (o : Option ℕ) → is_some o ≡ false → o ≡ None
some_none None e = refl
some_none (Some m) e = absurd (true≢false e)

pub not_among : (u : List ℕ) (xs : List Final) → waits u xs ≡ None → is_among u (steps_of xs) ≡ false
not_among u xs e = among_waits u xs ∙ none_some (waits u xs) e

pub no_wait : (u : List ℕ) (xs : List Final) → is_among u (steps_of xs) ≡ false → waits u xs ≡ None
no_wait u xs e = some_none (waits u xs) (sym (among_waits u xs) ∙ e)

-- ONE MORE

pub waits_inserted : (x : Final) (xs : List Final) → waits x.step xs ≡ None → (u : List ℕ) → waits u (inserted x xs) ≡ cond (bytes_eq x.step u) (Some x.moment) (waits u xs)
waits_inserted x [] none u = refl
waits_inserted x (y ∷ ys) none u = by (leb y.moment x.moment) (bytes_eq y.step x.step) refl none (λ n. waits_inserted x ys n u) (bytes_eq y.step u) refl
  where
    by : (c : Bool) (d : Bool) → bytes_eq y.step x.step ≡ d → cond d (Some y.moment) (waits x.step ys) ≡ None → (waits x.step ys ≡ None → waits u (inserted x ys) ≡ cond (bytes_eq x.step u) (Some x.moment) (waits u ys))
        → (b : Bool) → bytes_eq y.step u ≡ b → waits u (cond c (y ∷ inserted x ys) (x ∷ y ∷ ys)) ≡ cond (bytes_eq x.step u) (Some x.moment) (cond b (Some y.moment) (waits u ys))
    by c true same n rest b e = absurd cc
    by true false differ n rest true e = ap (λ k. cond k (Some y.moment) (waits u (inserted x ys))) e
        ∙ sym (ap (λ k. cond k (Some x.moment) (Some y.moment)) (is_false (bytes_eq x.step u) (λ s. true≢false (sym e ∙ ap (bytes_eq y.step) (sym (same_text x.step u s)) ∙ differ))))
    by true false differ n rest false e = ap (λ k. cond k (Some y.moment) (waits u (inserted x ys))) e ∙ rest n
    by false false differ n rest b e = ap (λ k. cond (bytes_eq x.step u) (Some x.moment) (cond k (Some y.moment) (waits u ys))) e

among_inserted : (x : Final) (xs : List Final) → waits x.step xs ≡ None → (u : List ℕ) → is_among u (steps_of (inserted x xs)) ≡ (bytes_eq x.step u || is_among u (steps_of xs))
among_inserted x xs none u = among_waits u (inserted x xs) ∙ ap is_some (waits_inserted x xs none u) ∙ by (bytes_eq x.step u) ∙ ap (λ b. bytes_eq x.step u || b) (sym (among_waits u xs))
  where
    by : (b : Bool) → is_some (cond b (Some x.moment) (waits u xs)) ≡ (b || is_some (waits u xs))
    by true = refl
    by false = refl

pub distinct_inserted : (x : Final) (xs : List Final) → waits x.step xs ≡ None → Distinct (steps_of xs) → Distinct (steps_of (inserted x xs))
distinct_inserted x [] none once = (refl, tt)
distinct_inserted x (y ∷ ys) none once = by (leb y.moment x.moment) (bytes_eq y.step x.step) refl none (λ n. distinct_inserted x ys n once.1)
  where
    by : (c : Bool) (d : Bool) → bytes_eq y.step x.step ≡ d → cond d (Some y.moment) (waits x.step ys) ≡ None → (waits x.step ys ≡ None → Distinct (steps_of (inserted x ys))) → Distinct (steps_of (cond c (y ∷ inserted x ys) (x ∷ y ∷ ys)))
    by c true same n rest = absurd cc
    by true false differ n rest = (among_inserted x ys n y.step ∙ both_false (bytes_eq x.step y.step) (is_among y.step (steps_of ys)) (other_text x.step y.step ∙ differ) once.0, rest n)
    by false false differ n rest = (not_among x.step (y ∷ ys) none, once)

-- ONE LESS

module _ (x : Final) where
  first_goes : (y : Final) → bytes_eq x.step y.step ≡ true → Some y.moment ≡ Some x.moment → is_same_final x y ≡ true
  first_goes y same m =
      let e : x.moment ≡ y.moment = (let d : y.moment ≡ x.moment = cc in sym d) in
      ap (λ b. b && bytes_eq x.step y.step) (eq-eqb x.moment y.moment e) ∙ same

  other_stays : (y : Final) → bytes_eq x.step y.step ≡ false → is_same_final x y ≡ false
  other_stays y differ = ap (λ b. nat_eq x.moment y.moment && b) differ ∙ never (nat_eq x.moment y.moment)
    where
      never : (b : Bool) → (b && false) ≡ false
      never true = refl
      never false = refl

  pub waits_removed : (xs : List Final) → Distinct (steps_of xs) → waits x.step xs ≡ Some x.moment → (u : List ℕ) → waits u (without_final x xs) ≡ cond (bytes_eq x.step u) None (waits u xs)
  waits_removed [] once here u = absurd cc
  waits_removed (y ∷ ys) once here u = by (bytes_eq y.step x.step) refl here (λ h. waits_removed ys once.1 h u)
    where
      by : (d : Bool) → bytes_eq y.step x.step ≡ d → cond d (Some y.moment) (waits x.step ys) ≡ Some x.moment → (waits x.step ys ≡ Some x.moment → waits u (without_final x ys) ≡ cond (bytes_eq x.step u) None (waits u ys))
          → waits u (cond (is_same_final x y) ys (y ∷ without_final x ys)) ≡ cond (bytes_eq x.step u) None (cond (bytes_eq y.step u) (Some y.moment) (waits u ys))
      by true same h rest =
          ap (λ b. waits u (cond b ys (y ∷ without_final x ys))) (first_goes y (other_text x.step y.step ∙ same) h)
          ∙ at (bytes_eq x.step u) refl
        where
          at : (b : Bool) → bytes_eq x.step u ≡ b → waits u ys ≡ cond b None (cond (bytes_eq y.step u) (Some y.moment) (waits u ys))
          at true e = no_wait u ys (ap (λ v. is_among v (steps_of ys)) (sym (same_text x.step u e)) ∙ ap (λ v. is_among v (steps_of ys)) (sym (same_text y.step x.step same)) ∙ once.0)
          at false e = sym (ap (λ k. cond k (Some y.moment) (waits u ys)) (ap (λ v. bytes_eq v u) (same_text y.step x.step same) ∙ e))
      by false differ h rest =
          ap (λ b. waits u (cond b ys (y ∷ without_final x ys))) (other_stays y (other_text x.step y.step ∙ differ))
          ∙ at (bytes_eq y.step u) refl
        where
          at : (b : Bool) → bytes_eq y.step u ≡ b → cond b (Some y.moment) (waits u (without_final x ys)) ≡ cond (bytes_eq x.step u) None (cond b (Some y.moment) (waits u ys))
          at true e = sym (ap (λ k. cond k None (Some y.moment)) (is_false (bytes_eq x.step u) (λ s. true≢false (sym e ∙ ap (bytes_eq y.step) (sym (same_text x.step u s)) ∙ differ))))
          at false e = rest h

  not_left : (zs : List Final) (u : List ℕ) → is_among u (steps_of zs) ≡ false → is_among u (steps_of (without_final x zs)) ≡ false
  not_left [] u h = refl
  not_left (z ∷ zs) u h =
      let n = neither (bytes_eq z.step u) (is_among u (steps_of zs)) h in
      at (is_same_final x z) n.1 (both_false (bytes_eq z.step u) (is_among u (steps_of (without_final x zs))) n.0 (not_left zs u n.1))
    where
      at : (b : Bool) → is_among u (steps_of zs) ≡ false → (bytes_eq z.step u || is_among u (steps_of (without_final x zs))) ≡ false → is_among u (steps_of (cond b zs (z ∷ without_final x zs))) ≡ false
      at true p q = p
      at false p q = q

  pub distinct_removed : (xs : List Final) → Distinct (steps_of xs) → Distinct (steps_of (without_final x xs))
  distinct_removed [] once = tt
  distinct_removed (y ∷ ys) once = by (is_same_final x y) (distinct_removed ys once.1)
    where
      by : (b : Bool) → Distinct (steps_of (without_final x ys)) → Distinct (steps_of (cond b ys (y ∷ without_final x ys)))
      by true rest = once.1
      by false rest = (not_left ys y.step once.0, rest)

-- THOSE THAT PASS A TEST

module _ (test : Final → Bool) where
  not_kept : (xs : List Final) (u : List ℕ) → is_among u (steps_of xs) ≡ false → is_among u (steps_of (filter test xs)) ≡ false
  not_kept [] u h = refl
  not_kept (x ∷ xs) u h =
      let n = neither (bytes_eq x.step u) (is_among u (steps_of xs)) h in
      by (test x) (not_kept xs u n.1) (both_false (bytes_eq x.step u) (is_among u (steps_of (filter test xs))) n.0 (not_kept xs u n.1))
    where
      by : (b : Bool) → is_among u (steps_of (filter test xs)) ≡ false → (bytes_eq x.step u || is_among u (steps_of (filter test xs))) ≡ false → is_among u (steps_of (cond b (x ∷ filter test xs) (filter test xs))) ≡ false
      by true p q = q
      by false p q = p

  pub distinct_kept : (xs : List Final) → Distinct (steps_of xs) → Distinct (steps_of (filter test xs))
  distinct_kept [] once = tt
  distinct_kept (x ∷ xs) once = by (test x) (distinct_kept xs once.1)
    where
      by : (b : Bool) → Distinct (steps_of (filter test xs)) → Distinct (steps_of (cond b (x ∷ filter test xs) (filter test xs)))
      by true rest = (not_kept xs x.step once.0, rest)
      by false rest = rest

  pub waits_kept : (xs : List Final) → Distinct (steps_of xs) → (u : List ℕ) → waits u (filter test xs) ≡ only_where (λ m. test (record { moment = m; step = u })) (waits u xs)
  waits_kept [] once u = refl
  waits_kept (x ∷ xs) once u = by (bytes_eq x.step u) refl (test x) refl (waits_kept xs once.1 u)
    where
      whole : ℕ → Final
      whole m = record { moment = m; step = u }

      by : (b : Bool) → bytes_eq x.step u ≡ b → (c : Bool) → test x ≡ c → waits u (filter test xs) ≡ only_where (λ m. test (whole m)) (waits u xs)
          → waits u (cond c (x ∷ filter test xs) (filter test xs)) ≡ only_where (λ m. test (whole m)) (cond b (Some x.moment) (waits u xs))
      by true e true t rest = ap (λ k. cond k (Some x.moment) (waits u (filter test xs))) e ∙ sym (ap (λ k. cond k (Some x.moment) None) (ap (λ v. test (record { moment = x.moment; step = v })) (sym (same_text x.step u e)) ∙ t))
      by true e false t rest =
          no_wait u (filter test xs) (not_kept xs u (ap (λ v. is_among v (steps_of xs)) (sym (same_text x.step u e)) ∙ once.0))
          ∙ sym (ap (λ k. cond k (Some x.moment) None) (ap (λ v. test (record { moment = x.moment; step = v })) (sym (same_text x.step u e)) ∙ t))
      by false e true t rest = ap (λ k. cond k (Some x.moment) (waits u (filter test xs))) e ∙ rest
      by false e false t rest = rest

-- MANY MORE

pub waits_append : (u : List ℕ) (xs ys : List Final) → waits u (xs ++ ys) ≡ option_or (waits u xs) (waits u ys)
waits_append u [] ys = refl
waits_append u (x ∷ xs) ys = by (bytes_eq x.step u) (waits_append u xs ys)
  where
    by : (b : Bool) → waits u (xs ++ ys) ≡ option_or (waits u xs) (waits u ys) → cond b (Some x.moment) (waits u (xs ++ ys)) ≡ option_or (cond b (Some x.moment) (waits u xs)) (waits u ys)
    by true rest = refl
    by false rest = rest

pub distinct_append : (xs ys : List Final) → Distinct (steps_of xs) → Distinct (steps_of ys) → ((u : List ℕ) → is_some (waits u ys) ≡ true → waits u xs ≡ None) → Distinct (steps_of (xs ++ ys))
distinct_append [] ys a b apart = b
distinct_append (x ∷ xs) ys a b apart = (
  among_waits x.step (xs ++ ys) ∙ ap is_some (waits_append x.step xs ys ∙ ap (λ o. option_or o (waits x.step ys)) (no_wait x.step xs a.0)) ∙ is_false (is_some (waits x.step ys)) here,
  distinct_append xs ys a.1 b (λ u h. later u h),
)
  where
    here : is_some (waits x.step ys) ≡ true → ⊥
    here h = let e : Some x.moment ≡ None = sym (ap (λ b. cond b (Some x.moment) (waits x.step xs)) (text_is_itself x.step)) ∙ apart x.step h in absurd cc

    later : (u : List ℕ) → is_some (waits u ys) ≡ true → waits u xs ≡ None
    later u h = by (bytes_eq x.step u) (apart u h)
      where
        by : (b : Bool) → cond b (Some x.moment) (waits u xs) ≡ None → waits u xs ≡ None
        by true e = absurd cc
        by false e = e

-- ANOTHER ORDER

all_from : (u : List ℕ) (us : List (List ℕ)) → is_among u us ≡ false → AllByRecursion (λ v. bytes_eq u v ≡ false) us
all_from u [] h = tt
all_from u (v ∷ vs) h = let n = neither (bytes_eq v u) (is_among u vs) h in (other_text u v ∙ n.0, all_from u vs n.1)

all_to : (u : List ℕ) (us : List (List ℕ)) → AllByRecursion (λ v. bytes_eq u v ≡ false) us → is_among u us ≡ false
all_to u [] h = refl
all_to u (v ∷ vs) h = both_false (bytes_eq v u) (is_among u vs) (other_text v u ∙ h.0) (all_to u vs h.1)

distinct_from : (us : List (List ℕ)) → Distinct us → IsDistinct bytes_eq us
unfolding IsDistinct
distinct_from [] d = tt
distinct_from (u ∷ us) d = (all_from u us d.0, distinct_from us d.1)

pub distinct_to : (us : List (List ℕ)) → IsDistinct bytes_eq us → Distinct us
unfolding IsDistinct
distinct_to [] d = tt
distinct_to (u ∷ us) d = (all_to u us d.0, distinct_to us d.1)

pub distinct_moved : (xs ys : List Final) → IsPermutation xs ys → Distinct (steps_of xs) → Distinct (steps_of ys)
distinct_moved xs ys p d = distinct_to (steps_of ys) (IsDistinct-IsPermutation bytes_eq other_text (steps_of xs) (steps_of ys) (IsPermutation-map (λ (x : Final). x.step) xs ys p) (distinct_from (steps_of xs) d))

found : (u : List ℕ) (m : ℕ) (xs : List Final) → waits u xs ≡ Some m → Contains xs (record { moment = m; step = u })
found u m [] e = absurd cc
found u m (x ∷ xs) e = by (bytes_eq x.step u) refl e (found u m xs)
  where
    by : (b : Bool) → bytes_eq x.step u ≡ b → cond b (Some x.moment) (waits u xs) ≡ Some m → (waits u xs ≡ Some m → Contains xs (record { moment = m; step = u })) → Contains (x ∷ xs) (record { moment = m; step = u })
    by true same h rest =
        let n : x.moment ≡ m = cc in
        (0, omega arith, ap (λ k. record { moment = k; step = x.step }) n ∙ ap (λ v. record { moment = m; step = v }) (same_text x.step u same))
    by false other h rest = let c = rest h in (suc c.0, omega (arith, c.1), c.2)

at_place : (xs : List Final) (u : List ℕ) (m : ℕ) (k : ℕ) → Distinct (steps_of xs) → k < length xs → get_or xs k (record { moment = m; step = u }) ≡ record { moment = m; step = u } → waits u xs ≡ Some m
at_place [] u m k once l is = absurd (omega (arith, l))
at_place (x ∷ xs) u m zero once l is =
    ap (λ b. cond b (Some x.moment) (waits u xs)) (ap (λ (y : Final). bytes_eq y.step u) is ∙ text_is_itself u) ∙ ap (λ (y : Final). Some y.moment) is
at_place (x ∷ xs) u m (suc k) once l is =
    let rest = at_place xs u m k once.1 (omega (arith, l)) is in
    ap (λ b. cond b (Some x.moment) (waits u xs)) (is_false (bytes_eq x.step u) (λ e. true≢false (sym (ap is_some rest) ∙ sym (among_waits u xs) ∙ ap (λ v. is_among v (steps_of xs)) (sym (same_text x.step u e)) ∙ once.0))) ∙ rest

pub waits_moved : (xs ys : List Final) → IsPermutation xs ys → Distinct (steps_of xs) → (u : List ℕ) → waits u ys ≡ waits u xs
waits_moved xs ys p once u = by (waits u xs) refl
  where
    by : (o : Option ℕ) → waits u xs ≡ o → waits u ys ≡ o
    by (Some m) e = let c = Contains-permutation xs ys (record { moment = m; step = u }) p (found u m xs e) in at_place ys u m c.0 (distinct_moved xs ys p once) c.1 c.2
    by None e = no_wait u ys (sym (list_any-IsPermutation (λ v. bytes_eq v u) (steps_of xs) (steps_of ys) (IsPermutation-map (λ (x : Final). x.step) xs ys p)) ∙ not_among u xs e)
