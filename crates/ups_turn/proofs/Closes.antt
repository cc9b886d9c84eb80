-- What a desk has when all its passes are back.
use Rattle.std.proofs.Common.{◌≡◌, ⊎_elim, ℕ, suc, ◌-◌, ◌<◌, Bool, false, true≢false, List, [], ◌∷◌, ◌++◌, length, map, slice_index_or, slice_set, Some, None, refl, sym, ap, ◌∙◌, subst, arith}
use Rattle.std.specs.Prelude.{◌+◌, ◌≤◌, ◌==◌, cond, sum_by, count_by, Option, All}
use Rattle.std.proofs.lemmas.List.Folds.{fold-map}
use Rattle.std.proofs.lemmas.List.Elements.{All-nil, All-cons, All-head, All-tail}
use mathlib.Core.Option.{some, some-ne-none, some-injective}
use mathlib.Core.Option as maybe
use mathlib.Core.Logic.{dite}
use native.Mathlib.Decide.{ℕ_discrete}
use lib.ListN.{get_elem?}
use Rattle.atomic_table.specs.Table.{State as Table, Final, Seen}
use Rattle.ups_life.specs.declared.entry.Entry.{Entry}
use Rattle.ups_service.specs.State.{State}
use Rattle.ups_service.specs.Law.{is_legal}
use Rattle.ups_turn.specs.declared.view.Part.{Part}
use Rattle.ups_turn.specs.declared.view.View.{View}
use Rattle.ups_turn.specs.Opening.{Opening}
use Rattle.ups_turn.specs.Rule.{Kept, Behind, EnteredByPasses, IsPassNumber, settings_of, manager_state, turns, passes, count_numbered}
use Rattle.ups_turn.specs.Pass.{PassView, part_of, EndsFor, HaveNumbers}
use Rattle.ups_turn.proofs.Sums.{total_least, total_two, total_some}
use Rattle.ups_turn.proofs.Steps.{on_turn}

pub middle : {X : Type 0} (P : X → Type 0) (all front rest : List X) (x : X) → All P all → all ≡ front ++ x ∷ rest → P x
middle P all [] rest x h e = All-head P x rest (subst (All P) e h)
middle P all (y ∷ ys) rest x h e = middle P (ys ++ x ∷ rest) ys rest x (All-tail P y (ys ++ x ∷ rest) (subst (All P) e h)) refl

module _ {A : Type 0} where
  -- who has all passes knows that nobody has the turn
  nobody_else : {o : Opening A} {s : Table (Option (State A)) (View A)} (k : Kept o s) (id : ℕ) (v : (View A)) → get_elem? s.views id ≡ some v → v.turn ≡ false → length v.parts ≡ o.seats → sum_by turns s.views ≡ 1 → ⊥
  nobody_else {o} {s} k id v at off all one =
      let t = total_some turns s.views (omega arith) in
      let on = on_turn (t.1).turn t.3 in
      let busy = (k.each t.0 t.1 t.2).busy on in
      dite (ℕ_discrete t.0 id)
      (λ e. let same : some t.1 ≡ some v = sym t.2 ∙ (ap (get_elem? s.views) e ∙ at) in true≢false (sym on ∙ (ap (λ (x : (View A)). x.turn) (some-injective t.1 v same) ∙ off)))
      (λ ne. let two = total_two passes s.views t.0 id t.1 v ne t.2 at in let sum = k.all_passes in absurd (omega arith))

  pub record Ended (o : Opening A) (parts : List (Part A)) (slots : List (Option (State A))) : Type 0 where
    pub log : List (Entry A)
    pub legal : is_legal (settings_of o) log
    pub since : EnteredByPasses o.seats o.manager.history log
    pub behind : All (Behind log) parts
    pub numbers : All (λ (p : Part A). IsPassNumber o.seats p.number) parts
    pub apart : (k : ℕ) → count_by (λ (p : Part A). p.number == k) parts ≤ 1
    pub manager_is : get_elem? slots 0 ≡ some (Some (manager_state (settings_of o) log))

  pub ends : (o : Opening A) (id : ℕ) (v : View A) (words : List ℕ) (slots : List (Option (State A))) → Final (Seen (Kept o) id v) words slots → v.turn ≡ false → length v.parts ≡ o.seats → Ended o v.parts slots
  ends o id v words slots f off all =
      let k = f.1.0 in
      let home = ⊎_elim (λ (h : (sum_by turns (f.0).views ≡ 0) × ((f.0).homes ≡ some (Some (manager_state (settings_of o) k.log)) ∷ [])). h.1) (λ (h : (sum_by turns (f.0).views ≡ 1) × ((f.0).homes ≡ maybe.none ∷ [])). absurd (nobody_else k id v f.1.1 off all h.0)) k.slot in
      record {
        log = k.log;
        legal = k.legal;
        since = k.since;
        behind = (k.each id v f.1.1).behind;
        numbers = (k.each id v f.1.1).numbers;
        apart = λ x. let some = total_least (count_numbered x) (f.0).views id v f.1.1 in let one = k.apart x in omega arith;
        manager_is = f.4 0 (Some (manager_state (settings_of o) k.log)) (ap (λ hs. get_elem? hs 0) home);
      }

  all_parts : (P : Part A → Type 0) (ps : List (PassView A)) → All P (map part_of ps) → All (λ p. P (part_of p)) ps
  all_parts P [] h = All-nil (λ p. P (part_of p))
  all_parts P (p ∷ ps) h = All-cons (λ q. P (part_of q)) p ps (All-head P (part_of p) (map part_of ps) h) (all_parts P ps (All-tail P (part_of p) (map part_of ps) h))

  length-parts : (ps : List (PassView A)) → length (map part_of ps) ≡ length ps
  length-parts [] = refl
  length-parts (p ∷ ps) = ap suc (length-parts ps)

  count-parts : (x : ℕ) (ps : List (PassView A)) → count_by (λ (p : Part A). p.number == x) (map part_of ps) ≡ count_by (λ p. p.number == x) ps
  count-parts x ps = fold-map (λ (n : ℕ) (p : Part A). n + cond (p.number == x) 1 0) part_of 0 ps

  -- the manager that is found in the slot, and what each pass has seen of its history
  module _ (o : Opening A) (id : ℕ) (v : View A) (ps : List (PassView A)) (words : List ℕ) (slots : List (Option (State A))) (found : Option (State A)) (f : Final (Seen (Kept o) id v) words slots) (off : v.turn ≡ false) (parts : v.parts ≡ map part_of ps) (all : length ps ≡ o.seats)
      (found_is : get_elem? slots 0 ≡ some found) where
    pub ended : Ended o v.parts slots
    ended = ends o id v words slots f off (ap length parts ∙ (length-parts ps ∙ all))

    is_there : found ≡ Some (manager_state (settings_of o) ended.log)
    is_there = some-injective _ _ (sym found_is ∙ ended.manager_is)

    pub not_there : found ≡ None → ⊥
    not_there e = let h = is_there in absurd (cc)

    pub closed : (last : State A) → found ≡ Some last → last ≡ manager_state (settings_of o) ended.log
    closed last e = let h = is_there in cc

    pub closed_settings : (last : State A) → found ≡ Some last → last.settings ≡ settings_of o
    closed_settings last e = ap (λ (x : State A). x.settings) (closed last e)

    pub closed_legal : (last : State A) → found ≡ Some last → is_legal last.settings last.history
    closed_legal last e = subst (λ (x : State A). is_legal x.settings x.history) (sym (closed last e)) ended.legal

    pub closed_callers : (last : State A) → found ≡ Some last → EnteredByPasses o.seats o.manager.history last.history
    closed_callers last e = subst (λ (x : State A). EnteredByPasses o.seats o.manager.history x.history) (sym (closed last e)) ended.since

    pub closed_passes : (last : State A) → found ≡ Some last → EndsFor last.history ps
    closed_passes last e = subst (λ (x : State A). EndsFor x.history ps) (sym (closed last e)) (all_parts (Behind ended.log) ps (subst (All (Behind ended.log)) parts ended.behind))

    pub closed_numbers : HaveNumbers o.seats ps
    closed_numbers = (
      all_parts (λ p. IsPassNumber o.seats p.number) ps (subst (All (λ p. IsPassNumber o.seats p.number)) parts ended.numbers),
      λ x. subst (λ n. n ≤ 1) (ap (count_by (λ (p : Part A). p.number == x)) parts ∙ count-parts x ps) (ended.apart x),
    )

-- what a place that was emptied says
pub emptied : (filled : List Bool) → slice_index_or (slice_set filled 0 false) 0 false ≡ false
emptied [] = refl
emptied (b ∷ bs) = refl

-- what is taken of one that stands alone
pub taken_alone : {X : Type 0} (slots : List (Option X)) (n : ℕ) (m : X) (popped : Option (Option X)) → slots ≡ Some m ∷ [] → length slots ≡ n → ((d : Option X) → 0 < n → popped ≡ Some (slice_index_or slots (n - 1) d)) → popped ≡ Some (Some m)
taken_alone {X} slots n m popped alone many value =
    let one : n ≡ 1 = sym many ∙ ap length alone in
    value None (omega (arith, one)) ∙ ap (λ (k : ℕ). Some (slice_index_or slots (k - 1) None)) one ∙ ap (λ (l : List (Option X)). Some (slice_index_or l 0 None)) alone

pub not_some_none : {X : Type 0} (m : X) (popped : Option (Option X)) (inner : Option X) → popped ≡ Some (Some m) → popped ≡ Some inner → inner ≡ None → ⊥
not_some_none m popped inner is was none = absurd cc

pub not_none : {X : Type 0} (m : X) (popped : Option (Option X)) → popped ≡ Some (Some m) → popped ≡ None → ⊥
not_none m popped is none = absurd cc
