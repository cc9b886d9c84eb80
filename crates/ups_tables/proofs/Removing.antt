-- The steps that wait for their removal are those that a sweep removes, by the definitions.
use Rattle.std.proofs.Common.{◌≡◌, ◌≤◌, ◌<◌, ◌+◌, ℕ, Bool, true, false, not, ◌&&◌, cond, leb, List, [], ◌∷◌, length, Option, None, Some, suc, refl, sym, ap, subst, ◌∙◌, arith, true≢false, leb-true, le-leb}
use Rattle.std.proofs.lemmas.Bool.Decides.{nat_tests}
use Rattle.std.specs.Prelude.{is_some, nat_lt}
use Rattle.ups_life.specs.declared.entry.Entry.{Entry}
use Rattle.ups_life.specs.declared.request.Reply.TheVariants.{Swept}
use Rattle.ups_life.specs.declared.request.Request.TheVariants.{Sweep}
use Rattle.ups_life.specs.Distinct.{Distinct}
use Rattle.ups_life.specs.Settings.{Settings}
use Rattle.ups_life.specs.Steps.{past}
use Rattle.ups_life.specs.Watching.{is_among, removed, has_passed}
use Rattle.ups_life.specs.History.{accepts, decided}
use Rattle.ups_keep.specs.declared.due.Final.{Final}
use Rattle.ups_keep.specs.Due.{due_until, is_any}
use Rattle.ups_keep.specs.Waits.{steps_of, unless_kept, only_where}
use Rattle.ups_keep.proofs.Dues.{none_before}
use Rattle.ups_keep.proofs.Waiting.{is_false, same_test, among_waits, waits_kept, distinct_kept}
use Rattle.ups_tables.specs.Live.{final, locked}
use Rattle.ups_tables.proofs.Living.{due-live}
use Rattle.ups_tables.proofs.Asking.{sweep_by}
use Rattle.ups_tables.specs.declared.tables.Tables.{Tables}
use Rattle.ups_tables.specs.Fit.{has_lock}
use Rattle.ups_tables.specs.Fit as fit
use Rattle.ups_tables.specs.Planned.{PlansSweep, PlansIdle}
use Rattle.ups_tables.specs.Stands.{Stands}
use Rattle.ups_tables.proofs.Saying.{final_is, kept_is}

-- TESTS

and_true : (b : Bool) → (b && true) ≡ b
and_true true = refl
and_true false = refl

and_false : (b : Bool) → (b && false) ≡ false
and_false true = refl
and_false false = refl

some_if : (b : Bool) (n : ℕ) → is_some (cond b (Some n) None) ≡ b
some_if true n = refl
some_if false n = refl

leb_both : (n m k : ℕ) → leb (n + k) (m + k) ≡ leb n m
leb_both n m k = same_test (leb (n + k) (m + k)) (leb n m) (λ h. let a = leb-true (n + k) (m + k) h in le-leb n m (omega (arith, a))) (λ h. let a = leb-true n m h in le-leb (n + k) (m + k) (omega (arith, a)))

-- a step waits at least as long as final steps are kept
passes : (o : Option ℕ) (b : Bool) (keep m : ℕ) → is_some (only_where (λ n. leb n m) (unless_kept b o)) ≡ (has_passed keep (m + keep) o && not b)
passes None true keep m = refl
passes None false keep m = refl
passes (Some n) true keep m = sym (and_false (leb (n + keep) (m + keep)))
passes (Some n) false keep m = some_if (leb n m) n ∙ sym (leb_both n m keep) ∙ sym (and_true (leb (n + keep) (m + keep)))

steps_many : (xs : List Final) → length (steps_of xs) ≡ length xs
steps_many [] = refl
steps_many (x ∷ xs) = let r = steps_many xs in omega (arith, r)

-- where the first waits long enough, some do
some_due : (m : ℕ) (xs : List Final) → is_any m xs ≡ true → nat_lt 0 (length (due_until m xs)) ≡ true
some_due m [] none = absurd (true≢false (sym none))
some_due m (x ∷ xs) first = ap (λ b. nat_lt 0 (length (cond b (x ∷ due_until m xs) (due_until m xs)))) first ∙ positive (length (due_until m xs))
  where
    positive : (n : ℕ) → nat_lt 0 (suc n) ≡ true
    positive n = let h : 0 < suc n = omega arith in grind (arith, nat_tests, h)

-- PLANS THAT REMOVE NOTHING

module _ {A : Type 0} (s : Settings) (e : Entry A) (t : Tables A) where
  -- less time has passed than final steps are kept
  pub no_time : e.request ≡ Sweep → e.moment < s.keep → PlansIdle s e t
  no_time request early = record { request = request; none = λ since le. absurd (omega (arith, early, le)) }

  -- no step waits since the moment looked at, and none since an earlier one
  pub none_yet : (moment : ℕ) → e.request ≡ Sweep → moment + s.keep ≡ e.moment → due_until moment t.due.steps ≡ [] → PlansIdle s e t
  none_yet moment request is none = record { request = request; none = λ since le. none_before moment since t.due.steps (omega (arith, is, le)) none }

-- WHAT A SWEEP REMOVES

module _ {A : Type 0} (s : Settings) (history : List (Entry A)) (t : Tables A) (st : Stands s history t) where
  -- those that became final no later than m are those that had passed the time to keep at m and that time, and no peer locks
  pub among_up_to : (m : ℕ) (u : List ℕ) → is_among u (steps_of (due_until m t.due.steps)) ≡ (has_passed s.keep (m + s.keep) (final s (past history) u) && not (locked s (past history) u))
  among_up_to m u =
      among_waits u (due_until m t.due.steps) ∙ ap is_some (waits_kept (λ (x : Final). leb x.moment m) t.due.steps st.fits.once u) ∙ ap (λ o. is_some (only_where (λ n. leb n m) o)) (st.fits.waiting u)
      ∙ passes (fit.final_in t u) (has_lock t u) s.keep m
      ∙ ap (λ o. has_passed s.keep (m + s.keep) o && not (has_lock t u)) (final_is s history t st u) ∙ ap (λ b. has_passed s.keep (m + s.keep) (final s (past history) u) && not b) (kept_is s history t st u)

  -- no step stands among them twice
  pub up_to_once : (m : ℕ) → Distinct (steps_of (due_until m t.due.steps))
  up_to_once m = distinct_kept (λ (x : Final). leb x.moment m) t.due.steps st.fits.once

  module _ (e : Entry A) where
    -- a plan names the steps that the sweep removes
    pub due_is : (due : List Final) (moment : ℕ) → PlansSweep s e t due moment → (u : List ℕ) → is_among u (steps_of due) ≡ is_among u (removed s (past history) e.moment)
    due_is due moment p u =
        ap (λ xs. is_among u (steps_of xs)) p.due_are ∙ among_up_to moment u ∙ ap (λ n. has_passed s.keep n (final s (past history) u) && not (locked s (past history) u)) p.since
        ∙ sym (due-live s (past history) e.moment u)

    -- each of them once
    pub due_once : (due : List Final) (moment : ℕ) → PlansSweep s e t due moment → Distinct (steps_of due)
    due_once due moment p = subst (λ (xs : List Final). Distinct (steps_of xs)) (sym p.due_are) (up_to_once moment)

    -- so the answer is how many they are
    pub sweep_counts : (due : List Final) (moment : ℕ) → PlansSweep s e t due moment → decided s (past history) e Sweep ≡ Swept (length due)
    sweep_counts due moment p = sweep_by s e (past history) (steps_of due) st.legal (due_once due moment p) (due_is due moment p) ∙ ap Swept (steps_many due)

    -- where no step waits so long, none is removed
    none_passed : PlansIdle s e t → (u : List ℕ) → (has_passed s.keep e.moment (final s (past history) u) && not (locked s (past history) u)) ≡ false
    none_passed p u = by (final s (past history) u) refl (locked s (past history) u) refl
      where
        by : (o : Option ℕ) → final s (past history) u ≡ o → (b : Bool) → locked s (past history) u ≡ b → (has_passed s.keep e.moment o && not b) ≡ false
        by None f b g = refl
        by (Some n) f true g = and_false (leb (n + s.keep) e.moment)
        by (Some n) f false g = is_false (leb (n + s.keep) e.moment && true) (λ h. true≢false (sym found ∙ lost (leb-true (n + s.keep) e.moment (sym (and_true (leb (n + s.keep) e.moment)) ∙ h))))
          where
            found : is_among u (steps_of (due_until n t.due.steps)) ≡ true
            found =
                among_waits u (due_until n t.due.steps) ∙ ap is_some (waits_kept (λ (x : Final). leb x.moment n) t.due.steps st.fits.once u)
                ∙ ap (λ o. is_some (only_where (λ k. leb k n) o)) (st.fits.waiting u ∙ ap (λ b. unless_kept b (fit.final_in t u)) (kept_is s history t st u ∙ g) ∙ final_is s history t st u ∙ f)
                ∙ ap (λ b. is_some (cond b (Some n) None)) (le-leb n n (omega arith))

            lost : n + s.keep ≤ e.moment → is_among u (steps_of (due_until n t.due.steps)) ≡ false
            lost h = ap (λ xs. is_among u (steps_of xs)) (p.none n h)

    pub none_due : PlansIdle s e t → (u : List ℕ) → is_among u (removed s (past history) e.moment) ≡ false
    none_due p u = due-live s (past history) e.moment u ∙ none_passed p u

    -- so the answer is 0
    pub idle_counts : PlansIdle s e t → decided s (past history) e Sweep ≡ Swept 0
    idle_counts p = sweep_by s e (past history) [] st.legal tt (λ u. sym (none_due p u))

    -- where a step waits long enough, the sweep removes some
    pub some_swept : (moment : ℕ) → e.request ≡ Sweep → moment + s.keep ≡ e.moment → is_any moment t.due.steps ≡ true → accepts (decided s (past history) e Sweep) ≡ true
    some_swept moment request is any =
        let plan : PlansSweep s e t (due_until moment t.due.steps) moment = record { request = request; since = is; due_are = refl } in
        ap accepts (sweep_counts (due_until moment t.due.steps) moment plan) ∙ some_due moment t.due.steps any
