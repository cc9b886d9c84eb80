-- Draw, look, decide and serve keep the rule.
use Rattle.std.proofs.Common.{◌≡◌, ◌≢◌, inl, inr, ⊎_elim, ℕ, suc, ◌+◌, ◌*◌, ◌^◌, ◌%◌, ◌<◌, ◌≤◌, Bool, true, false, true≢false, cond, eqb, ◌&&◌, nat_lt, nat_le, List, [], ◌∷◌, ◌++◌, length, set, Some, None, refl, sym, ap, ◌∙◌, subst, arith}
use Rattle.std.specs.Prelude.{sum_by, count_by, slice_index, slice_set, Option, All}
use Rattle.std.proofs.lemmas.Bool.Decides.{nat_tests}
use mathlib.Core.Option.{some, some-ne-none, some-injective}
use mathlib.Core.Option as maybe
use mathlib.Core.Logic.{dite}
use native.Mathlib.Decide.{ℕ_discrete}
use Rattle.std.proofs.lemmas.List.{append-nil, append_assoc, length-append}
use Rattle.std.proofs.lemmas.List.Elements.{All-nil, All-cons, All-head, All-tail, All-append}
use Rattle.std.proofs.lemmas.List.Sums.{sum_by-cons}
use lib.ListN.{get_elem?}
use Rattle.atomic_table.specs.Table.{State as Table, Allows, Step, Act, Valid, carried_after, keeps, takes, gives, stepped, put_back, rest}
use Rattle.ups_life.specs.declared.entry.Entry.{Entry}
use Rattle.ups_service.specs.State.{State}
use Rattle.ups_service.specs.Law.{is_legal, BeginsHistory}
use Rattle.ups_service.proofs.Legality.{legal_within}
use Rattle.ups_turn.specs.declared.view.Part.{Part}
use Rattle.ups_turn.specs.declared.view.View.{View}
use Rattle.ups_turn.specs.Opening.{Opening}
use Rattle.ups_turn.specs.Rule.{Kept, FitsView, Slot, Behind, IsPassNumber, EnteredByPasses, settings_of, manager_state, is_mine, one_if, tickets, turns, draws, passes, count_numbered, between}
use Rattle.ups_turn.specs.Plays.{Knows, with_ticket, seeing, at_turn, served, Draws, Looks, history_in, Decides, ServesNext, HasTurn}
use Rattle.ups_turn.proofs.Sums.{total_set, total_least, total_two, total_within, total_some, total_same, each_set}

between_draw : (x low high : ℕ) → low ≤ high → between x low (high + 1) ≡ between x low high + one_if (eqb high x)
between_draw x low high le = grind (arith, nat_tests)

one_more : (t ticket : ℕ) → t ≡ ticket → ticket ≤ 2 ^ 50 → (t + 1) % 2 ^ 64 ≡ ticket + 1
one_more t ticket is few = omega arith

mine_is : (x : ℕ) (o : Option ℕ) → is_mine x o ≡ true → o ≡ Some x
mine_is x None h = absurd (cc)
mine_is x (Some t) h = let same : t ≡ x = grind (arith, nat_tests) in ap Some same

is_mine_here : (x : ℕ) (o : Option ℕ) → o ≡ Some x → one_if (is_mine x o) ≡ 1
is_mine_here x o e = rw e (let same : eqb x x ≡ true = grind (arith, nat_tests) in rw same)

at_most_one : (b : Bool) → one_if b ≤ 1
at_most_one true = omega arith
at_most_one false = omega arith

pub on_turn : (b : Bool) → 0 < one_if b → b ≡ true
on_turn true h = refl
on_turn false h = absurd (omega arith)

all_both : {X : Type 0} (P Q R : X → Type 0) (xs : List X) → ((x : X) → P x → Q x → R x) → All P xs → All Q xs → All R xs
all_both P Q R xs f p q k d lt = f _ (p k d lt) (q k d lt)

between_here : (x low high : ℕ) → 1 ≤ between x low high → x < high
between_here x low high h = at (nat_lt x high) refl
  where
    at : (b : Bool) → nat_lt x high ≡ b → x < high
    at true is = grind (arith, nat_tests)
    at false is = let z : (nat_le low x && nat_lt x high) ≡ false = and_false (nat_le low x) (nat_lt x high) is in let h' = rw z at h in absurd (omega arith)
      where
        and_false : (a b : Bool) → b ≡ false → (a && b) ≡ false
        and_false true b e = e
        and_false false b e = refl

between_serve : (x low high : ℕ) → low < high → between x (low + 1) high + one_if (eqb low x) ≡ between x low high
between_serve x low high lt = grind (arith, nat_tests)

module _ {A : Type 0} where
  -- there are fewer tickets than a word holds
  pub few_tickets : {o : Opening A} {s : Table (Option (State A)) (View A)} (k : Kept o s) → k.ticket ≤ 2 ^ 50
  few_tickets {o} {s} k =
      let h = total_within draws passes (2 ^ 40) s.views (λ i v e. (k.each i v e).draws_few) in
      let few = k.few in
      let sum = k.drawn in
      let all = k.all_passes in
      omega (arith, ap (λ n. n * 2 ^ 40) all)

  pub draw_allowed : (o : Opening A) (id : ℕ) (me : Knows A) (st : Step (Option (State A))) → me.0.ticket ≡ None → me.0.draws + 1 ≤ length me.0.parts * 2 ^ 40
      → Allows (Kept o) 1 id me 1 (λ n. (n + 1) % 2 ^ 64) (Draws st me)
  draw_allowed o id me st none left s k one at small =
      let v : (View A) = me.0 in
      let t = slice_index s.words 1 in
      let w = with_ticket v t in
      let is : t ≡ k.ticket = ap (λ ws. slice_index ws 1) k.words in
      let bump = one_more t k.ticket is (few_tickets k) in
      let fits = k.each id v at in (
        w,
        keeps,
        tt,
        record {
          log = k.log;
          ticket = k.ticket + 1;
          serving = k.serving;
          order = let o = k.order in omega arith;
          legal = k.legal;
          since = k.since;
          words = λ i. set (k.words i) 1 (bump i);
          slot = subst (Slot (settings_of o) k.log s.homes) (sym (total_same turns s.views id v w at refl)) k.slot;
          each = each_set (FitsView o k.log k.serving) s.views id w (λ j u ne e. k.each j u e) (record {
            settings_is = fits.settings_is;
            numbers = fits.numbers;
            busy = fits.busy;
            behind = fits.behind;
            noted = fits.noted;
            turn_is = λ on. let h = (fits.turn_is on).0 in absurd (cc);
            draws_few = left;
          });
          ticketed = λ x.
              let h = total_set (tickets x) s.views id v w at in
              let no = ap (λ o. one_if (is_mine x o)) none in
              let yes = ap (λ n. one_if (eqb n x)) is in
              let now = k.ticketed x in
              omega (arith, between_draw x k.serving k.ticket k.order);
          drawn = let h = total_set draws s.views id v w at in let d = k.drawn in omega arith;
          all_passes = let h = total_set passes s.views id v w at in let d = k.all_passes in omega arith;
          apart = λ n. let h = total_set (count_numbered n) s.views id v w at in let d = k.apart n in omega arith;
          few = k.few;
          word_sized = k.word_sized;
        },
        refl,
      )

  -- the passes of a view that has seen the history
  all_seeing : (log : List (Entry A)) (ps : List (Part A)) → All (Behind log) (seeing log ps)
  all_seeing log [] = All-nil (Behind log)
  all_seeing log (p ∷ ps) = All-cons (Behind log) record { number = p.number; seen = log } (seeing log ps) ([], append-nil log, All-nil _) (all_seeing log ps)

  all_seen : (log : List (Entry A)) (ps : List (Part A)) → All (λ (p : (Part A)). p.seen ≡ log) (seeing log ps)
  all_seen log [] = All-nil (λ (p : (Part A)). p.seen ≡ log)
  all_seen log (p ∷ ps) = All-cons (λ (p : (Part A)). p.seen ≡ log) record { number = p.number; seen = log } (seeing log ps) refl (all_seen log ps)

  all_numbers : (seats : ℕ) (log : List (Entry A)) (ps : List (Part A)) → All (λ (p : Part A). IsPassNumber seats p.number) ps → All (λ (p : Part A). IsPassNumber seats p.number) (seeing log ps)
  all_numbers seats log [] h = All-nil (λ (p : Part A). IsPassNumber seats p.number)
  all_numbers seats log (p ∷ ps) h =
      let P = λ (q : Part A). IsPassNumber seats q.number in
      All-cons P record { number = p.number; seen = log } (seeing log ps) (All-head P p ps h) (all_numbers seats log ps (All-tail P p ps h))

  length-seeing : (log : List (Entry A)) (ps : List (Part A)) → length (seeing log ps) ≡ length ps
  length-seeing log [] = refl
  length-seeing log (p ∷ ps) = ap suc (length-seeing log ps)

  numbered_seeing : (k : ℕ) (log : List (Entry A)) (ps : List (Part A)) → count_by (λ (p : (Part A)). eqb p.number k) (seeing log ps) ≡ count_by (λ (p : (Part A)). eqb p.number k) ps
  numbered_seeing k log [] = refl
  numbered_seeing k log (p ∷ ps) =
      let rest = numbered_seeing k log ps in
      let one = λ (q : (Part A)). cond (eqb q.number k) 1 0 in
      sum_by-cons one record { number = p.number; seen = log } (seeing log ps) ∙ (ap (λ n. cond (eqb p.number k) 1 0 + n) rest ∙ sym (sum_by-cons one p ps))

  -- two views have not both the turn
  one_turn : {o : Opening A} {s : Table (Option (State A)) (View A)} (k : Kept o s) (i j : ℕ) (v u : (View A)) → get_elem? s.views i ≡ some v → get_elem? s.views j ≡ some u → j ≢ i → v.ticket ≡ Some k.serving → u.turn ≡ true → ⊥
  one_turn {o} {s} k i j v u at there ne mine turn =
      let a = is_mine_here k.serving v.ticket mine in
      let b = is_mine_here k.serving u.ticket ((k.each j u there).turn_is turn).0 in
      let two = total_two (tickets k.serving) s.views j i u v ne there at in
      let sum = k.ticketed k.serving in
      let most = at_most_one (nat_le k.serving k.serving && nat_lt k.serving k.ticket) in
      omega arith

  -- while the seat with the ticket that is served has not the turn, the manager is at home
  home : {o : Opening A} {s : Table (Option (State A)) (View A)} (k : Kept o s) (i : ℕ) (v : (View A)) → get_elem? s.views i ≡ some v → v.ticket ≡ Some k.serving → v.turn ≡ false
      → (sum_by turns s.views ≡ 0) × (s.homes ≡ some (Some (manager_state (settings_of o) k.log)) ∷ [])
  home {o} {s} k i v at mine off = ⊎_elim (λ h. h) (λ (h : (sum_by turns s.views ≡ 1) × (s.homes ≡ maybe.none ∷ [])). absurd (other h.0)) k.slot
    where
      other : sum_by turns s.views ≡ 1 → ⊥
      other one =
          let t = total_some turns s.views (omega arith) in
          let on = on_turn (t.1).turn t.3 in
          dite (ℕ_discrete t.0 i)
          (λ e. let same : some t.1 ≡ some v = sym t.2 ∙ (ap (get_elem? s.views) e ∙ at) in true≢false (sym on ∙ (ap (λ (x : (View A)). x.turn) (some-injective t.1 v same) ∙ off)))
          (λ ne. one_turn k i t.0 v t.1 at t.2 ne mine on)

  -- a load changes nothing
  loaded : {o : Opening A} {s : Table (Option (State A)) (View A)} (k : Kept o s) (i : ℕ) (v : (View A)) → get_elem? s.views i ≡ some v
      → Kept o record { words = set s.words 2 (slice_index s.words 2); homes = s.homes; views = set s.views i v }
  loaded {o} {s} k i v at = record {
    log = k.log;
    ticket = k.ticket;
    serving = k.serving;
    order = k.order;
    legal = k.legal;
    since = k.since;
    words = λ i. set (k.words i) 2 (slice_index (k.words i) 2);
    slot = subst (Slot (settings_of o) k.log s.homes) (sym (total_same turns s.views i v v at refl)) k.slot;
    each = each_set (FitsView o k.log k.serving) s.views i v (λ j u ne e. k.each j u e) (k.each i v at);
    ticketed = λ x. total_same (tickets x) s.views i v v at refl ∙ k.ticketed x;
    drawn = total_same draws s.views i v v at refl ∙ k.drawn;
    all_passes = total_same passes s.views i v v at refl ∙ k.all_passes;
    apart = λ n. let h = total_same (count_numbered n) s.views i v v at refl in let d = k.apart n in omega arith;
    few = k.few;
    word_sized = k.word_sized;
  }

  -- the seat has the turn, and the manager
  turned : {o : Opening A} {s : Table (Option (State A)) (View A)} (k : Kept o s) (i : ℕ) (v : (View A)) → get_elem? s.views i ≡ some v → v.ticket ≡ Some k.serving → v.turn ≡ false → 0 < length v.parts
      → Kept o record { words = set s.words 2 (slice_index s.words 2); homes = slice_set s.homes 0 maybe.none; views = set s.views i (at_turn v true k.log) }
  turned {o} {s} k i v at mine off some_part =
      let h = home k i v at mine off in
      let w = at_turn v true k.log in
      let fits = k.each i v at in
      record {
        log = k.log;
        ticket = k.ticket;
        serving = k.serving;
        order = k.order;
        legal = k.legal;
        since = k.since;
        words = λ i. set (k.words i) 2 (slice_index (k.words i) 2);
        slot = inr ((let t = total_set turns s.views i v w at in let no = ap one_if off in let none = h.0 in omega arith), (λ i. slice_set (h.1 i) 0 maybe.none));
        each = each_set (FitsView o k.log k.serving) s.views i w (λ j u ne e. k.each j u e) (record {
          settings_is = λ _. fits.settings_is some_part;
          numbers = all_numbers o.seats k.log v.parts fits.numbers;
          busy = λ _. omega (arith, length-seeing k.log v.parts);
          behind = all_seeing k.log v.parts;
          noted = fits.noted;
          turn_is = λ on. (mine, all_seen k.log v.parts);
          draws_few = let d = fits.draws_few in let l = length-seeing k.log v.parts in omega (arith, ap (λ n. n * 2 ^ 40) l);
        });
        ticketed = λ x. total_same (tickets x) s.views i v w at refl ∙ k.ticketed x;
        drawn = total_same draws s.views i v w at refl ∙ k.drawn;
        all_passes = total_same passes s.views i v w at (length-seeing k.log v.parts) ∙ k.all_passes;
        apart = λ n. let t = total_same (count_numbered n) s.views i v w at (numbered_seeing n k.log v.parts) in let d = k.apart n in omega arith;
        few = k.few;
        word_sized = k.word_sized;
      }

  pub look_allowed : (o : Opening A) (id : ℕ) (me : Knows A) (st : Step (Option (State A))) → me.0.turn ≡ false → me.1 ≡ [] → 0 < length me.0.parts
      → Allows (Kept o) 1 id me 2 (λ n. n) (Looks st me)
  look_allowed o id me st off empty some_part s k one at small = go (is_mine (slice_index s.words 2) me.0.ticket) refl
    where
      go : (b : Bool) → is_mine (slice_index s.words 2) me.0.ticket ≡ b → (w : (View A)) × (a : Act (Option (State A))) × Valid s.homes me.1 a × Kept o (stepped s 2 (slice_index s.words 2) id me.1 w a) × Looks st me (slice_index s.words 2) (w, carried_after me.1 a)
      go false is = (me.0, keeps, tt, loaded k id me.0 at, rw is refl)
      go true is =
          let n = slice_index s.words 2 in
          let v : (View A) = me.0 in
          let serving : n ≡ k.serving = ap (λ ws. slice_index ws 2) k.words in
          let mine : v.ticket ≡ Some k.serving = mine_is n v.ticket is ∙ ap Some serving in
          let h = home k id v at mine off in
          let fits = k.each id v at in
          let settings_is = fits.settings_is some_part in (
            at_turn v true k.log,
            takes 0 (Some (manager_state (settings_of o) k.log)),
            ap (λ hs. get_elem? hs 0) h.1,
            turned k id v at mine off some_part,
            rw is (record { log = k.log; behind = fits.behind; legal = subst (λ l. is_legal l k.log) (sym settings_is) k.legal; after_is = λ i. (at_turn v true k.log, (0, Some (manager_state (sym settings_is i) k.log)) ∷ empty i) }),
          )

  none_numbered : (k : ℕ) (ps : List (Part A)) → count_by (λ (p : (Part A)). eqb p.number k) ps ≡ 0 → All (λ (p : (Part A)). p.number ≢ k) ps
  none_numbered k [] h = All-nil (λ (p : (Part A)). p.number ≢ k)
  none_numbered k (p ∷ ps) h =
      let one = λ (q : (Part A)). one_if (eqb q.number k) in
      let sum = sum_by-cons one p ps in
      let here = other (eqb p.number k) refl (omega arith) in
      All-cons (λ (q : (Part A)). q.number ≢ k) p ps here (none_numbered k ps (omega arith))
    where
      other : (b : Bool) → eqb p.number k ≡ b → one_if b ≡ 0 → p.number ≢ k
      other true is z same = omega arith
      other false is z same = let yes : eqb p.number k ≡ true = grind (arith, nat_tests) in true≢false (sym yes ∙ is)

  -- others' entries leave a pass behind
  behind_more : (log added : List (Entry A)) (number : ℕ) (p : (Part A)) → All (λ (e : (Entry A)). e.caller ≡ number) added → p.number ≢ number → Behind log p → Behind (log ++ added) p
  behind_more log added number p by ne b =
      (b.0 ++ added, sym (append_assoc p.seen b.0 added) ∙ ap (λ xs. xs ++ added) b.1, All-append (λ (e : (Entry A)). e.caller ≢ p.number) b.0 added b.2 (λ k d lt same. ne (sym same ∙ by k d lt)))

  -- a pass's own requests behind what passes have entered
  more_since : (seats : ℕ) (before log added : List (Entry A)) (number : ℕ) → EnteredByPasses seats before log → All (λ (e : Entry A). e.caller ≡ number) added → IsPassNumber seats number → EnteredByPasses seats before (log ++ added)
  more_since seats before log added number b by known =
      (b.0 ++ added, sym (append_assoc before b.0 added) ∙ ap (λ xs. xs ++ added) b.1, All-append (λ (e : Entry A). IsPassNumber seats e.caller) b.0 added b.2 (λ k d lt. subst (IsPassNumber seats) (sym (by k d lt)) known))

  prefix_more : (log added x : List (Entry A)) → BeginsHistory x log → BeginsHistory x (log ++ added)
  prefix_more log added x b = (b.0 ++ added, sym (append_assoc x b.0 added) ∙ ap (λ xs. xs ++ added) b.1)

  -- a view that has not the turn, after another's entry
  others_fit : (o : Opening A) (serving number : ℕ) (log added : List (Entry A)) (u : (View A)) → All (λ (e : (Entry A)). e.caller ≡ number) added → All (λ (p : (Part A)). p.number ≢ number) u.parts → (u.turn ≡ true → ⊥) → FitsView o log serving u → FitsView o (log ++ added) serving u
  others_fit o serving number log added u by apart off fits = record {
    settings_is = fits.settings_is;
    numbers = fits.numbers;
    busy = fits.busy;
    behind = all_both (λ (p : (Part A)). p.number ≢ number) (Behind log) (Behind (log ++ added)) u.parts (λ p ne b. behind_more log added number p by ne b) apart fits.behind;
    noted = λ k d lt. prefix_more log added _ (fits.noted k d lt);
    turn_is = λ on. absurd (off on);
    draws_few = fits.draws_few;
  }

  -- while a seat has the turn, its history is the whole, and the slot is empty
  taken : {o : Opening A} {s : Table (Option (State A)) (View A)} (k : Kept o s) (i : ℕ) (v : (View A)) → get_elem? s.views i ≡ some v → v.turn ≡ true
      → (sum_by turns s.views ≡ 1) × (s.homes ≡ maybe.none ∷ [])
  taken {o} {s} k i v at on =
      let least = total_least turns s.views i v at in
      let one = ap one_if on in
      ⊎_elim (λ (h : (sum_by turns s.views ≡ 0) × (s.homes ≡ some (Some (manager_state (settings_of o) k.log)) ∷ [])). let z = h.0 in absurd (omega arith)) (λ h. h) k.slot

  whole : {o : Opening A} {serving : ℕ} (log : List (Entry A)) (v : (View A)) (p : (Part A)) → FitsView o log serving v → v.turn ≡ true → v.parts ≡ p ∷ [] → p.seen ≡ log
  whole log v p fits on parts = All-head (λ (q : (Part A)). q.seen ≡ log) p [] (subst (All (λ (q : (Part A)). q.seen ≡ log)) parts (fits.turn_is on).1)

  pub decide_allowed : (o : Opening A) (id number c : ℕ) (me : Knows A) (seen added : List (Entry A)) (st : Step (Option (State A))) → HasTurn me number seen (seen ++ added) → length added ≡ c → All (λ (e : (Entry A)). e.caller ≡ number) added → is_legal me.0.settings (seen ++ added)
      → Allows (Kept o) 1 id me 0 (λ n. (n + c) % 2 ^ 64) (Decides st me)
  decide_allowed o id number c me seen added st has count by legal_here s k one at small =
      let v : (View A) = me.0 in
      let fits = k.each id v at in
      let legal : is_legal (settings_of o) (seen ++ added) = subst (λ l. is_legal l (seen ++ added)) (fits.settings_is (fits.busy has.turn)) legal_here in
      let mine : v.ticket ≡ Some k.serving = (fits.turn_is has.turn).0 in
      let log_is : seen ≡ k.log = whole k.log v record { number = number; seen = seen } fits has.turn has.parts in
      let new = seen ++ added in
      let w = at_turn v true new in
      let fits64 = k.word_sized in
      let slot = taken k id v at has.turn in
      let mine_once : count_numbered number v ≡ 1 = ap (λ ps. count_by (λ (p : (Part A)). eqb p.number number) ps) has.parts ∙ (let same : eqb number number ≡ true = grind (arith, nat_tests) in rw same) in (
        w,
        keeps,
        tt,
        record {
          log = new;
          ticket = k.ticket;
          serving = k.serving;
          order = k.order;
          legal = legal;
          since = more_since o.seats o.manager.history seen added number (subst (EnteredByPasses o.seats o.manager.history) (sym log_is) k.since) by (All-head (λ (p : Part A). IsPassNumber o.seats p.number) record { number = number; seen = seen } [] (subst (All (λ (p : Part A). IsPassNumber o.seats p.number)) has.parts fits.numbers));
          words = (λ i. set (k.words i) 0 ((slice_index (k.words i) 0 + c) % 2 ^ 64)) ∙ ap (λ n. n ∷ k.ticket ∷ k.serving ∷ []) (let l = ap length log_is in let b = legal_within (settings_of o) new legal in let a = length-append seen added in omega arith);
          slot = inr (total_same turns s.views id v w at (ap one_if (sym has.turn)) ∙ slot.0, slot.1);
          each = each_set (FitsView o new k.serving) s.views id w
              (λ j u ne e.
              let old = subst (λ l. FitsView o l k.serving u) (sym log_is) (k.each j u e) in
              let two = total_two (count_numbered number) s.views j id u v ne e at in
              let most = k.apart number in
              others_fit o k.serving number seen added u by (none_numbered number u.parts (omega arith)) (λ on. one_turn k id j v u at e ne mine on) old)
              (record {
                settings_is = λ _. fits.settings_is (fits.busy has.turn);
                numbers = all_numbers o.seats new v.parts fits.numbers;
                busy = λ _. let b = fits.busy has.turn in omega (arith, length-seeing new v.parts);
                behind = all_seeing new v.parts;
                noted = λ n d lt. prefix_more seen added _ (subst (BeginsHistory _) (sym log_is) (fits.noted n d lt));
                turn_is = λ on. (mine, all_seen new v.parts);
                draws_few = let d = fits.draws_few in let l = length-seeing new v.parts in omega (arith, ap (λ n. n * 2 ^ 40) l);
              });
          ticketed = λ x. total_same (tickets x) s.views id v w at refl ∙ k.ticketed x;
          drawn = total_same draws s.views id v w at refl ∙ k.drawn;
          all_passes = total_same passes s.views id v w at (length-seeing new v.parts) ∙ k.all_passes;
          apart = λ n. let t = total_same (count_numbered n) s.views id v w at (numbered_seeing n new v.parts) in let d = k.apart n in omega arith;
          few = k.few;
          word_sized = k.word_sized;
        },
        ap (λ h. (at_turn v true (history_in h), me.1)) (sym has.holds),
      )

  pub serve_allowed : (o : Opening A) (id number : ℕ) (me : Knows A) (seen : List (Entry A)) (st : Step (Option (State A))) → HasTurn me number seen seen
      → Allows (Kept o) 1 id me 2 (λ n. (n + 1) % 2 ^ 64) (ServesNext st me)
  serve_allowed o id number me seen st has s k one at small =
      let v : (View A) = me.0 in
      let w = served v in
      let fits = k.each id v at in
      let mine : v.ticket ≡ Some k.serving = (fits.turn_is has.turn).0 in
      let log_is : seen ≡ k.log = whole k.log v record { number = number; seen = seen } fits has.turn has.parts in
      let slot = taken k id v at has.turn in
      let once = is_mine_here k.serving v.ticket mine in
      let least = total_least (tickets k.serving) s.views id v at in
      let now = k.ticketed k.serving in
      let before : k.serving < k.ticket = between_here k.serving k.serving k.ticket (omega arith) in
      let few = few_tickets k in (
        w,
        gives,
        tt,
        record {
          log = k.log;
          ticket = k.ticket;
          serving = k.serving + 1;
          order = omega arith;
          legal = k.legal;
          since = k.since;
          words = (λ i. set (k.words i) 2 ((slice_index (k.words i) 2 + 1) % 2 ^ 64)) ∙ ap (λ n. length k.log ∷ k.ticket ∷ n ∷ []) (one_more k.serving k.serving refl (omega arith));
          slot = inl ((let t = total_set turns s.views id v w at in let on = ap one_if has.turn in let z = slot.0 in omega arith), (λ i. put_back (slot.1 i) (has.holds i)) ∙ (λ i. some (Some (manager_state (fits.settings_is (fits.busy has.turn) i) (log_is i))) ∷ []));
          each = each_set (FitsView o k.log (k.serving + 1)) s.views id w
              (λ j u ne e.
              let f = k.each j u e in record {
                settings_is = f.settings_is;
                numbers = f.numbers;
                busy = f.busy;
                behind = f.behind;
                noted = f.noted;
                turn_is = λ on. absurd (one_turn k id j v u at e ne mine on);
                draws_few = f.draws_few;
              })
              (record {
                settings_is = fits.settings_is;
                numbers = fits.numbers;
                busy = λ on. absurd (cc);
                behind = fits.behind;
                noted = fits.noted;
                turn_is = λ on. absurd (cc);
                draws_few = fits.draws_few;
              });
          ticketed = λ x.
              let t = total_set (tickets x) s.views id v w at in
              let had = ap (λ o. one_if (is_mine x o)) mine in
              let was = k.ticketed x in
              let b = between_serve x k.serving k.ticket before in
              omega arith;
          drawn = total_same draws s.views id v w at refl ∙ k.drawn;
          all_passes = total_same passes s.views id v w at refl ∙ k.all_passes;
          apart = λ n. let t = total_same (count_numbered n) s.views id v w at refl in let d = k.apart n in omega arith;
          few = k.few;
          word_sized = k.word_sized;
        },
        ap (λ c. (w, rest c)) has.holds,
      )
