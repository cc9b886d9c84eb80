-- Note, deal, join and settle keep the rule, and what passes that meet have seen afterwards.
use Rattle.std.proofs.Common.{◌≡◌, ◌≢◌, ⊎_elim, ℕ, zero, suc, ◌+◌, ◌*◌, ◌^◌, ◌%◌, ◌<◌, ◌≤◌, Bool, true, false, cond, eqb, nat_lt, max, add-zero, List, [], ◌∷◌, ◌++◌, length, set, map, None, refl, sym, ap, ◌∙◌, subst, arith}
use Rattle.std.specs.Prelude.{sum_by, count_by, slice_index, Option, All}
use mathlib.Core.Option.{some}
use lib.ListN.{get_elem?}
use Rattle.std.proofs.lemmas.List.{append-nil, length-append}
use Rattle.std.proofs.lemmas.List.Elements.{All-nil, All-cons, All-head, All-tail, All-append}
use Rattle.std.proofs.lemmas.List.Sums.{sum_by-cons, sum_by-append, sum_by_push}
use Rattle.atomic_table.specs.Table.{Allows, Splits, Joins, Step, keeps}
use Rattle.atomic_table.proofs.Lists.{at_set, at_snoc}
use Rattle.ups_life.specs.declared.entry.Entry.{Entry}
use Rattle.ups_service.specs.State.{State}
use Rattle.ups_service.specs.Law.{is_legal, BeginsHistory}
use Rattle.ups_service.proofs.Legality.{legal_within}
use Rattle.ups_turn.specs.declared.view.Part.{Part}
use Rattle.ups_turn.specs.declared.view.View.{View}
use Rattle.ups_turn.specs.Opening.{Opening}
use Rattle.ups_turn.specs.Rule.{Kept, FitsView, Slot, Behind, IsPassNumber, settings_of, is_mine, one_if, tickets, turns, draws, passes, count_numbered}
use Rattle.ups_turn.specs.Plays.{Knows, note_of, joined_views, spent_view, first_part, other_parts, dealt, kept_back, catching_up, settled, CaughtUp, SettlesNotes, longer}
use Rattle.ups_turn.specs.Pass.{resting, part}
use Rattle.std.proofs.lemmas.Bool.Decides.{nat_tests}
use Rattle.ups_turn.proofs.Sums.{total_set, total_same, each_set}
use Rattle.ups_turn.proofs.Prefixes.{behind_longest, caught_up}
use Rattle.ups_life.specs.Settings.{Settings}

all_map : {X Y : Type 0} (P : Y → Type 0) (Q : X → Type 0) (f : X → Y) (xs : List X) → ((x : X) → Q x → P (f x)) → All Q xs → All P (map f xs)
all_map P Q f [] h q = All-nil P
all_map P Q f (x ∷ xs) h q = All-cons P (f x) (map f xs) (h x (All-head Q x xs q)) (all_map P Q f xs h (All-tail Q x xs q))

all_same : {X : Type 0} (P Q : X → Type 0) (xs : List X) → ((x : X) → P x → Q x) → All P xs → All Q xs
all_same P Q xs f p k d lt = f _ (p k d lt)

module _ {A : Type 0} where
  length_caught : (notes : List (List (Entry A))) (ps : List (Part A)) → length (map (catching_up notes) ps) ≡ length ps
  length_caught notes [] = refl
  length_caught notes (p ∷ ps) = ap suc (length_caught notes ps)

  numbered_caught : (k : ℕ) (notes : List (List (Entry A))) (ps : List (Part A)) → count_by (λ (p : (Part A)). eqb p.number k) (map (catching_up notes) ps) ≡ count_by (λ (p : (Part A)). eqb p.number k) ps
  numbered_caught k notes [] = refl
  numbered_caught k notes (p ∷ ps) =
      let one = λ (q : (Part A)). one_if (eqb q.number k) in
      sum_by-cons one (catching_up notes p) (map (catching_up notes) ps) ∙ (ap (λ n. one_if (eqb p.number k) + n) (numbered_caught k notes ps) ∙ sym (sum_by-cons one p ps))

  -- a step on the first word that adds nothing, at which a pass without the turn catches up
  pub settle_allowed : (o : Opening A) (id : ℕ) (me : (Knows A)) (st : Step (Option (State A))) → me.0.turn ≡ false → 0 < length me.0.parts
      → Allows (Kept o) 1 id me 0 (λ n. (n + 0) % 2 ^ 64) (SettlesNotes st me)
  settle_allowed o id me st off some_part s k one at small =
      let v : (View A) = me.0 in
      let w = settled v in
      let fits = k.each id v at in
      let fits64 = k.word_sized in
      let here : v.settings ≡ settings_of o = fits.settings_is some_part in (
        w,
        keeps,
        tt,
        record {
          log = k.log;
          ticket = k.ticket;
          serving = k.serving;
          order = k.order;
          legal = k.legal;
          since = k.since;
          words = (λ i. set (k.words i) 0 ((slice_index (k.words i) 0 + 0) % 2 ^ 64)) ∙ ap (λ n. n ∷ k.ticket ∷ k.serving ∷ []) (let b = legal_within (settings_of o) k.log k.legal in omega arith);
          slot = subst (Slot (settings_of o) k.log s.homes) (sym (total_same turns s.views id v w at refl)) k.slot;
          each = each_set (FitsView o k.log k.serving) s.views id w (λ j u ne e. k.each j u e) (record {
            settings_is = λ _. here;
            numbers = all_map (λ (p : Part A). IsPassNumber o.seats p.number) (λ (p : Part A). IsPassNumber o.seats p.number) (catching_up v.notes) v.parts (λ p h. h) fits.numbers;
            busy = λ _. omega (arith, length_caught v.notes v.parts);
            behind = all_map (Behind k.log) (Behind k.log) (catching_up v.notes) v.parts (λ p b. behind_longest k.log p v.notes b fits.noted) fits.behind;
            noted = All-nil (λ x. BeginsHistory x k.log);
            turn_is = λ on. let o = off in absurd (cc);
            draws_few = let d = fits.draws_few in omega (arith, ap (λ n. n * 2 ^ 40) (length_caught v.notes v.parts));
          });
          ticketed = λ x. total_same (tickets x) s.views id v w at refl ∙ k.ticketed x;
          drawn = total_same draws s.views id v w at refl ∙ k.drawn;
          all_passes = total_same passes s.views id v w at (length_caught v.notes v.parts) ∙ k.all_passes;
          apart = λ n. let t = total_same (count_numbered n) s.views id v w at (numbered_caught n v.notes v.parts) in let d = k.apart n in omega arith;
          few = k.few;
          word_sized = k.word_sized;
        },
        (refl, all_same (Behind k.log) (CaughtUp v.settings v.notes) v.parts (λ p b. caught_up v.settings k.log p v.notes (subst (λ l. is_legal l k.log) (sym here) k.legal) b fits.noted) fits.behind),
      )

  -- a new view that stands for no pass
  each_new : {o : Opening A} {serving : ℕ} {log : List (Entry A)} (views : List (View A)) (id : ℕ) (left right : (View A))
      → ((j : ℕ) (u : (View A)) → get_elem? views j ≡ some u → FitsView o log serving u) → FitsView o log serving left → FitsView o log serving right
      → (j : ℕ) (u : (View A)) → get_elem? (set views id left ++ right ∷ []) j ≡ some u → FitsView o log serving u
  each_new {o} {serving} {log} views id left right all l r j u e =
      ⊎_elim (λ was. each_set (FitsView o log serving) views id left (λ i v ne h. all i v h) l j u was) (λ (same : right ≡ u). subst (FitsView o log serving) same r) (at_snoc (set views id left) right u j e)

  -- a sum, after a view was cut in two
  total_cut : (f : (View A) → ℕ) (views : List (View A)) (id : ℕ) (v left right : (View A)) → get_elem? views id ≡ some v → f left + f right ≡ f v → sum_by f (set views id left ++ right ∷ []) ≡ sum_by f views
  total_cut f views id v left right at same = let a = total_set f views id v left at in omega (arith, sum_by_push f (set views id left) right)

  pub notes_allowed : (o : Opening A) (id : ℕ) (v : (View A)) → Splits (Kept o) id v v (note_of v)
  notes_allowed o id v s k at =
      let fits = k.each id v at in record {
        log = k.log;
        ticket = k.ticket;
        serving = k.serving;
        order = k.order;
        legal = k.legal;
        since = k.since;
        words = k.words;
        slot = subst (Slot (settings_of o) k.log s.homes) (sym (total_cut turns s.views id v v (note_of v) at (omega arith))) k.slot;
        each = each_new s.views id v (note_of v) k.each fits (record {
          settings_is = λ h. absurd (omega arith);
          numbers = All-nil (λ (p : Part A). IsPassNumber o.seats p.number);
          busy = λ on. absurd (cc);
          behind = All-nil (Behind k.log);
          noted = all_map (λ x. BeginsHistory x k.log) (Behind k.log) (λ (p : (Part A)). p.seen) v.parts (λ p b. (b.0, b.1)) fits.behind;
          turn_is = λ on. absurd (cc);
          draws_few = omega arith;
        });
        ticketed = λ x. total_cut (tickets x) s.views id v v (note_of v) at (omega arith) ∙ k.ticketed x;
        drawn = total_cut draws s.views id v v (note_of v) at (omega arith) ∙ k.drawn;
        all_passes = total_cut passes s.views id v v (note_of v) at (omega arith) ∙ k.all_passes;
        apart = λ n. let t = total_cut (count_numbered n) s.views id v v (note_of v) at (omega arith) in let d = k.apart n in omega arith;
        few = k.few;
        word_sized = k.word_sized;
      }

  numbered_dealt : (k : ℕ) (ps : List (Part A)) → count_by (λ (p : (Part A)). eqb p.number k) (other_parts ps) + count_by (λ (p : (Part A)). eqb p.number k) (first_part ps) ≡ count_by (λ (p : (Part A)). eqb p.number k) ps
  numbered_dealt k [] = refl
  numbered_dealt k (p ∷ ps) =
      let one = λ (q : (Part A)). one_if (eqb q.number k) in
      omega (arith, sum_by-cons one p ps, sum_by-cons one p [])

  length_dealt : (ps : List (Part A)) → length (other_parts ps) + length (first_part ps) ≡ length ps
  length_dealt [] = refl
  length_dealt (p ∷ ps) = omega arith

  all_first : (P : (Part A) → Type 0) (ps : List (Part A)) → All P ps → All P (first_part ps)
  all_first P [] h = h
  all_first P (p ∷ ps) h = All-cons P p [] (All-head P p ps h) (All-nil P)

  all_other : (P : (Part A) → Type 0) (ps : List (Part A)) → All P ps → All P (other_parts ps)
  all_other P [] h = h
  all_other P (p ∷ ps) h = All-tail P p ps h

  some_of_first : (ps : List (Part A)) → 0 < length (first_part ps) → 0 < length ps
  some_of_first [] h = h
  some_of_first (p ∷ ps) h = omega arith

  some_of_other : (ps : List (Part A)) → 0 < length (other_parts ps) → 0 < length ps
  some_of_other [] h = h
  some_of_other (p ∷ ps) h = omega arith

  pub deal_allowed : (o : Opening A) (id : ℕ) (v : (View A)) → v.draws ≡ 0 → v.turn ≡ false → Splits (Kept o) id v (kept_back v) (dealt v)
  deal_allowed o id v none off s k at =
      let fits = k.each id v at in
      let l = kept_back v in
      let r = dealt v in record {
        log = k.log;
        ticket = k.ticket;
        serving = k.serving;
        order = k.order;
        legal = k.legal;
        since = k.since;
        words = k.words;
        slot = subst (Slot (settings_of o) k.log s.homes) (sym (total_cut turns s.views id v l r at (omega arith))) k.slot;
        each = each_new s.views id l r k.each
            (record {
              settings_is = λ h. fits.settings_is (some_of_other v.parts h);
              numbers = all_other (λ (p : Part A). IsPassNumber o.seats p.number) v.parts fits.numbers;
              busy = λ on. let o = off in absurd (cc);
              behind = all_other (Behind k.log) v.parts fits.behind;
              noted = fits.noted;
              turn_is = λ on. let o = off in absurd (cc);
              draws_few = omega arith;
            })
            (record {
              settings_is = λ h. fits.settings_is (some_of_first v.parts h);
              numbers = all_first (λ (p : Part A). IsPassNumber o.seats p.number) v.parts fits.numbers;
              busy = λ on. absurd (cc);
              behind = all_first (Behind k.log) v.parts fits.behind;
              noted = All-nil (λ x. BeginsHistory x k.log);
              turn_is = λ on. absurd (cc);
              draws_few = omega arith;
            });
        ticketed = λ x. total_cut (tickets x) s.views id v l r at (omega arith) ∙ k.ticketed x;
        drawn = total_cut draws s.views id v l r at (omega arith) ∙ k.drawn;
        all_passes = total_cut passes s.views id v l r at (length_dealt v.parts) ∙ k.all_passes;
        apart = λ n. let t = total_cut (count_numbered n) s.views id v l r at (numbered_dealt n v.parts) in let d = k.apart n in omega arith;
        few = k.few;
        word_sized = k.word_sized;
      }

  -- a sum, after two views were made one
  total_join : (f : (View A) → ℕ) (views : List (View A)) (id other : ℕ) (v w both : (View A)) → get_elem? views id ≡ some v → get_elem? (set views id both) other ≡ some w → f both + f spent_view ≡ f v + f w
      → sum_by f (set (set views id both) other spent_view) ≡ sum_by f views
  total_join f views id other v w both at there same =
      let a = total_set f views id v both at in
      let b = total_set f (set views id both) other w spent_view there in
      omega arith

  pub join_allowed : (o : Opening A) (id other : ℕ) (v w : (View A)) → w.ticket ≡ None → w.turn ≡ false → v.turn ≡ false → (0 < length w.parts → 0 < length v.parts)
      → Joins (Kept o) id v other w (joined_views v w) spent_view
  join_allowed o id other v w none w_off v_off first s k at ne there =
      let fits = k.each id v at in
      let was = ⊎_elim (λ (t : (other ≡ id) × (joined_views v w ≡ w)). absurd (ne t.0)) (λ (t : (other ≢ id) × (get_elem? s.views other ≡ some w)). t.1) (at_set s.views id other (joined_views v w) w there) in
      let theirs = k.each other w was in
      let b = joined_views v w in
      let len = length-append v.parts w.parts in
      record {
        log = k.log;
        ticket = k.ticket;
        serving = k.serving;
        order = k.order;
        legal = k.legal;
        since = k.since;
        words = k.words;
        slot = subst (Slot (settings_of o) k.log s.homes) (sym (total_join turns s.views id other v w b at there (let o = ap one_if w_off in omega arith))) k.slot;
        each = each_set (FitsView o k.log k.serving) (set s.views id b) other spent_view
            (λ j u apart e. each_set (FitsView o k.log k.serving) s.views id b (λ i x ne' h. k.each i x h)
            (record {
              settings_is = λ h. fits.settings_is (some_part (length v.parts) (length w.parts) (omega arith) first);
              numbers = All-append (λ (p : Part A). IsPassNumber o.seats p.number) v.parts w.parts fits.numbers theirs.numbers;
              busy = λ on. let o = v_off in absurd (cc);
              behind = All-append (Behind k.log) v.parts w.parts fits.behind theirs.behind;
              noted = All-append (λ x. BeginsHistory x k.log) v.notes w.notes fits.noted theirs.noted;
              turn_is = λ on. let o = v_off in absurd (cc);
              draws_few = let c = fits.draws_few in let d = theirs.draws_few in omega (arith, ap (λ n. n * 2 ^ 40) len);
            })
            j u e)
            (record {
              settings_is = λ h. absurd (omega arith);
              numbers = All-nil (λ (p : Part A). IsPassNumber o.seats p.number);
              busy = λ on. absurd (cc);
              behind = All-nil (Behind k.log);
              noted = All-nil (λ x. BeginsHistory x k.log);
              turn_is = λ on. absurd (cc);
              draws_few = omega arith;
            });
        ticketed = λ x. total_join (tickets x) s.views id other v w b at there (let o = ap (λ t. one_if (is_mine x t)) none in omega arith) ∙ k.ticketed x;
        drawn = total_join draws s.views id other v w b at there (omega arith) ∙ k.drawn;
        all_passes = total_join passes s.views id other v w b at there (omega arith) ∙ k.all_passes;
        apart = λ n. let t = total_join (count_numbered n) s.views id other v w b at there (let c = sum_by-append (λ (p : (Part A)). one_if (eqb p.number n)) v.parts w.parts in omega arith) in let d = k.apart n in omega arith;
        few = k.few;
        word_sized = k.word_sized;
      }
    where
      some_part : (m n : ℕ) → 0 < m + n → (0 < n → 0 < m) → 0 < m
      some_part zero zero h f = h
      some_part zero (suc n) h f = f (omega arith)
      some_part (suc m) n h f = omega arith

  -- a pass that rests learns what another has seen
  module _ (settings : Settings) (number calls : ℕ) (settings' : Settings) (number' calls' : ℕ) (seen seen' : List (Entry A)) (me from noted both last : (Knows A)) (rests : me ≡ (resting settings number calls seen, [])) (from_rests : from ≡ (resting settings' number' calls' seen', []))
      (noted_is : noted ≡ (note_of from.0, [])) (both_is : both ≡ (joined_views me.0 noted.0, me.1)) (last_is : last ≡ (settled both.0, both.1)) (caught : All (CaughtUp both.0.settings both.0.notes) both.0.parts) where
    pub both_now : both ≡ (record { settings = settings; draws = calls; ticket = None; turn = false; parts = part number seen; notes = seen' ∷ [] }, [])
    both_now =
        both_is ∙ ((λ i. (joined_views (rests i).0 ((noted_is ∙ ap (λ (f : (Knows A)). (note_of f.0, [])) from_rests) i).0, (rests i).1))
        ∙ ap (λ n. (record { settings = settings; draws = n; ticket = None; turn = false; parts = part number seen; notes = seen' ∷ [] }, [])) (add-zero calls))

    pub learned_is : last ≡ (resting settings number calls (longer seen seen'), [])
    learned_is = last_is ∙ ap (λ (b : (Knows A)). (settled b.0, b.1)) both_now

    pub learned : CaughtUp settings (seen' ∷ []) record { number = number; seen = seen }
    learned = All-head (CaughtUp settings (seen' ∷ [])) record { number = number; seen = seen } [] (subst (λ (b : (Knows A)). All (CaughtUp b.0.settings b.0.notes) b.0.parts) both_now caught)

    pub told : BeginsHistory seen' (longer seen seen')
    told = All-head (λ (x : List (Entry A)). BeginsHistory x (longer seen seen')) seen' [] learned.noted

  pub front_longer : (seen seen' : List (Entry A)) → max (length seen) (length seen') ≡ length (longer seen seen')
  front_longer seen seen' = at (nat_lt (length seen) (length seen')) refl
    where
      at : (b : Bool) → nat_lt (length seen) (length seen') ≡ b → max (length seen) (length seen') ≡ length (cond b seen' seen)
      at true is = let lt : length seen < length seen' = grind (arith, nat_tests) in omega arith
      at false is = let le : length seen' ≤ length seen = grind (arith, nat_tests) in omega arith
