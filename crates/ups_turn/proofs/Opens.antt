-- The rule holds as a desk opens; what its passes are as they are dealt out.
use Rattle.std.proofs.Common.{◌≡◌, inl, ℕ, zero, suc, ◌+◌, ◌-◌, ◌^◌, ◌<◌, ◌≤◌, Bool, true, false, eqb, List, [], ◌∷◌, ◌++◌, length, Some, refl, sym, ap, ◌∙◌, subst, arith, add-zero}
use Rattle.std.specs.Prelude.{sum_by, count_by, Option, All}
use Rattle.std.proofs.lemmas.Bool.Decides.{nat_tests}
use Rattle.std.proofs.Math.Numerals.{add-one}
use Rattle.std.proofs.lemmas.List.{append-nil}
use Rattle.std.proofs.lemmas.List.Elements.{All-nil, All-cons}
use Rattle.std.proofs.lemmas.List.Sums.{sum_by-cons}
use mathlib.Core.Option.{some, some-ne-none, some-injective}
use lib.ListN.{get_elem?}
use Rattle.atomic_table.specs.Table.{opening}
use Rattle.atomic_table.specs.Seated.{TableId}
use Rattle.ups_life.specs.declared.entry.Entry.{Entry}
use Rattle.ups_service.specs.State.{State}
use Rattle.ups_service.specs.Law.{is_legal, BeginsHistory}
use Rattle.ups_turn.specs.declared.view.Part.{Part}
use Rattle.ups_turn.specs.declared.view.View.{View}
use Rattle.ups_turn.specs.Opening.{Opening}
use Rattle.ups_turn.specs.Rule.{Kept, FitsView, Behind, IsPassNumber, settings_of, one_if, tickets, turns, draws, passes, count_numbered, between, parts_from, opening_view, first_seat_view}
use Rattle.ups_turn.specs.Plays.{kept_back, dealt}
use Rattle.ups_turn.specs.Pass.{are_seats, most_seats, fresh, passes_from, resting}

no_tickets : (x : ℕ) → between x 0 0 ≡ 0
no_tickets x = grind (arith, nat_tests)

pub seats_within : (n : ℕ) → are_seats n ≡ true → (1 ≤ n) × (n ≤ most_seats)
seats_within n h = (grind (arith, nat_tests), grind (arith, nat_tests))

module _ {A : Type 0} where
  alone : (f : (View A) → ℕ) (v : (View A)) → sum_by f (v ∷ []) ≡ f v
  alone f v = omega (arith, sum_by-cons f v [])

  length_from : (log : List (Entry A)) (k n : ℕ) → length (parts_from log k n) ≡ n
  length_from log k zero = refl
  length_from log k (suc n) = ap suc (length_from log (suc k) n)

  behind_from : (log : List (Entry A)) (k n : ℕ) → All (Behind log) (parts_from log k n)
  behind_from log k zero = All-nil (Behind log)
  behind_from log k (suc n) = All-cons (Behind log) record { number = k; seen = log } (parts_from log (suc k) n) ([], append-nil log, All-nil _) (behind_from log (suc k) n)

  not_yet : (log : List (Entry A)) (j k n : ℕ) → j < k → count_by (λ (p : (Part A)). eqb p.number j) (parts_from log k n) ≡ 0
  not_yet log j k zero lt = refl
  not_yet log j k (suc n) lt =
      let no : eqb k j ≡ false = grind (arith, nat_tests) in
      let one = ap one_if no in
      omega (arith, sum_by-cons (λ (p : (Part A)). one_if (eqb p.number j)) record { number = k; seen = log } (parts_from log (suc k) n), not_yet log j (suc k) n (omega arith))

  at_most_once : (log : List (Entry A)) (j k n : ℕ) → count_by (λ (p : (Part A)). eqb p.number j) (parts_from log k n) ≤ 1
  at_most_once log j k zero = omega arith
  at_most_once log j k (suc n) = at (at_most_once log j (suc k) n) (eqb k j) refl
    where
      at : count_by (λ (p : (Part A)). eqb p.number j) (parts_from log (suc k) n) ≤ 1 → (b : Bool) → eqb k j ≡ b → count_by (λ (p : (Part A)). eqb p.number j) (parts_from log k (suc n)) ≤ 1
      at later true is =
          let same : k ≡ j = grind (arith, nat_tests) in
          let one = ap one_if is in
          omega (arith, sum_by-cons (λ (p : (Part A)). one_if (eqb p.number j)) record { number = k; seen = log } (parts_from log (suc k) n), not_yet log j (suc k) n (omega arith))
      at later false is =
          let one = ap one_if is in
          omega (arith, sum_by-cons (λ (p : (Part A)). one_if (eqb p.number j)) record { number = k; seen = log } (parts_from log (suc k) n))

  numbers_from : (seats : ℕ) (log : List (Entry A)) (k n : ℕ) → 1 ≤ k → k + n ≤ seats + 1 → All (λ (p : Part A). IsPassNumber seats p.number) (parts_from log k n)
  numbers_from seats log k zero low high = All-nil (λ (p : Part A). IsPassNumber seats p.number)
  numbers_from seats log k (suc n) low high =
      All-cons (λ (p : Part A). IsPassNumber seats p.number) record { number = k; seen = log } (parts_from log (suc k) n) (low, omega arith) (numbers_from seats log (suc k) n (omega arith) (omega arith))

  pub begins : (o : Opening A) (words : List ℕ) (slots : List (Option (State A))) → is_legal (settings_of o) o.manager.history → (settings_of o).limit < 2 ^ 64 → o.seats ≤ 1024 → words ≡ length o.manager.history ∷ 0 ∷ 0 ∷ [] → slots ≡ Some o.manager ∷ []
      → Kept o (opening words slots (first_seat_view o))
  begins o words slots legal small few words_is slots_is =
      let v = first_seat_view o in
      let log = o.manager.history in record {
        log = log;
        ticket = 0;
        serving = 0;
        order = omega arith;
        legal = legal;
        since = ([], append-nil log, All-nil (λ (e : Entry A). IsPassNumber o.seats e.caller));
        words = words_is;
        slot = inl (alone turns v, ap (λ (xs : List (Option (State A))). mathlib.Core.List.map some xs) slots_is);
        each = only v (record {
          settings_is = λ _. refl;
          numbers = numbers_from o.seats log 1 o.seats (omega arith) (omega arith);
          busy = λ on. absurd (cc);
          behind = behind_from log 1 o.seats;
          noted = All-nil (λ x. BeginsHistory x log);
          turn_is = λ on. absurd (cc);
          draws_few = omega arith;
        });
        ticketed = λ x. alone (tickets x) v ∙ sym (no_tickets x);
        drawn = alone draws v;
        all_passes = alone passes v ∙ length_from log 1 o.seats;
        apart = λ n. let a = alone (count_numbered n) v in let b = at_most_once log n 1 o.seats in omega arith;
        few = few;
        word_sized = small;
      }
    where
      only : (v : View A) → FitsView o o.manager.history 0 v → (i : ℕ) (u : View A) → get_elem? (v ∷ []) i ≡ some u → FitsView o o.manager.history 0 u
      only v f zero u e = subst (FitsView o o.manager.history 0) (some-injective v u e) f
      only v f (suc i) u e = absurd (some-ne-none u (sym e))

  more_passes : (table : TableId) (m : (State A)) (k n : ℕ) → passes_from table m k n ++ fresh table m (k + n) ∷ [] ≡ passes_from table m k (suc n)
  more_passes table m k zero = ap (λ j. fresh table m j ∷ []) (add-zero k)
  more_passes table m k (suc n) = ap (λ xs. fresh table m k ∷ xs) (ap (λ j. passes_from table m (suc k) n ++ fresh table m j ∷ []) (let e : k + suc n ≡ suc k + n = omega arith in e) ∙ more_passes table m (suc k) n)

  pub passes_from-more : (table : TableId) (m : (State A)) (k n : ℕ) → passes_from table m k n ++ fresh table m (k + n) ∷ [] ≡ passes_from table m k (n + 1)
  passes_from-more table m k n = more_passes table m k n ∙ ap (passes_from table m k) (sym (add-one n))

  pub length_passes : (table : TableId) (m : (State A)) (k n : ℕ) → length (passes_from table m k n) ≡ n
  length_passes table m k zero = refl
  length_passes table m k (suc n) = ap suc (length_passes table m (suc k) n)

  -- the first of some new passes, and the others
  pub deal_first : (m : (State A)) (k n : ℕ) → 0 < n → dealt (opening_view m k n) ≡ resting m.settings k 0 m.history
  deal_first m k zero h = absurd (omega arith)
  deal_first m k (suc n) h = refl

  pub deal_others : (m : (State A)) (k n : ℕ) → 0 < n → kept_back (opening_view m k n) ≡ opening_view m (suc k) (n - 1)
  deal_others m k zero h = absurd (omega arith)
  deal_others m k (suc n) h = ap (opening_view m (suc k)) (let e : n ≡ suc n - 1 = omega arith in e)
