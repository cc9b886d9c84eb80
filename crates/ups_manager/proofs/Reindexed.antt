-- The index has the steps held after a request too.
use Rattle.std.proofs.Common.{◌≡◌, ℕ, ℤ, ◌+◌, ◌<◌, Bool, true, false, not, ◌||◌, cond, List, [], ◌∷◌, ◌++◌, length, map, filter, take, get_or, None, Some, refl, sym, ap, subst, ◌∙◌}
use Rattle.std.specs.List.{list_any}
use Rattle.std.specs.Str.{bytes_eq}
use Rattle.std.proofs.lemmas.List.{take_more, map-append}
use Rattle.std.proofs.lemmas.List.Folds.{list_any-append}
use Rattle.ups_index.specs.Indexed.{has_step, altered, put_values, without_uid}
use Rattle.ups_index.specs.Stored.{RowValues, values_of_row}
use Rattle.ups_keep.specs.declared.due.Final.{Final}
use Rattle.ups_keep.specs.Waits.{steps_of}
use Rattle.ups_keep.proofs.Waiting.{other_text}
use Rattle.ups_life.specs.declared.entry.Entry.{Entry}
use Rattle.ups_life.specs.declared.request.Request.TheVariants.{Create, Set, Subscribe, Suspend, Ack, Sweep, Reserve}
use Rattle.ups_life.specs.Settings.{Settings}
use Rattle.ups_life.specs.Distinct.{Distinct}
use Rattle.ups_life.specs.Steps.{past, step_of}
use Rattle.ups_life.specs.Watching.{is_among, removed}
use Rattle.ups_life.specs.History.{legal}
use Rattle.ups_life.proofs.Texts.{same_text}
use Rattle.ups_life.proofs.Accepted.{neither}
use Rattle.ups_life.proofs.HeldOnce.{held_once}
use Rattle.ups_tables.specs.declared.rows.HeldStep.{HeldStep}
use Rattle.ups_tables.specs.HeldSteps.{held_steps, put_step}
use Rattle.ups_tables.specs.Live.{is_of_no_step}
use Rattle.ups_tables.proofs.Holding.{steps_same, steps_sweep}
use Rattle.ups_tables.specs.declared.plan.Plan.{Plan}
use Rattle.ups_tables.specs.declared.plan.Plan.TheVariants.{Create as ToCreate, Change as ToChange, Set as ToSet, Single as ToSingle, Global as ToGlobal, End as ToEnd, EndAll as ToEndAll, Suspend as ToSuspend, Ack as ToAck, Sweep as ToSweep, Reserve as ToReserve, Idle as ToIdle}
use Rattle.ups_tables.specs.declared.tables.Tables.{Tables}
use Rattle.ups_tables.specs.Planned.{IsPlan, removed_by}
use Rattle.ups_tables.specs.Stands.{Stands}
use Rattle.ups_tables.proofs.Removing.{due_is, none_due}
use Rattle.ups_manager.proofs.Matches.{uids_are}
use Rattle.ups_manager.specs.Indexing.{uids_in, indexed, indexed_steps, without_steps}

-- NO STEP IS HELD TWICE

pub are_once : {A : Type 0} (s : Settings) (es : List (Entry A)) → legal s es ≡ true → Distinct (uids_in (held_steps s es))
are_once s es so = subst Distinct (sym (uids_are s es (held_steps s es) (held_steps s es) refl refl)) (held_once s es so)

-- A STEP IS PUT

-- other values of a step that isn't there change nothing
altered_none : {A : Type 0} (offset : ℤ) (u : List ℕ) (v : RowValues) (hs : List (HeldStep A)) → list_any (λ w. bytes_eq w u) (uids_in hs) ≡ false → altered u v (map (indexed offset) hs) ≡ map (indexed offset) hs
altered_none offset u v [] none = refl
altered_none {A} offset u v (h ∷ hs) none =
    let both = neither (bytes_eq h.step u) (list_any (λ w. bytes_eq w u) (uids_in hs)) none in
    ap (λ (b : Bool). cond b (u, v) (indexed offset h) ∷ altered u v (map (indexed offset) hs)) both.0 ∙ ap (λ (l : List (List ℕ × RowValues)). indexed offset h ∷ l) (altered_none offset u v hs both.1)

put_indexed : {A : Type 0} (offset : ℤ) (x : HeldStep A) (v : RowValues) (hs : List (HeldStep A)) → v ≡ values_of_row offset x.row.attributes → Distinct (uids_in hs)
    → put_values x.step v (map (indexed offset) hs) ≡ map (indexed offset) (put_step x hs)
put_indexed offset x v [] is once = ap (λ (w : RowValues). (x.step, w) ∷ []) is
put_indexed {A} offset x v (h ∷ hs) is (none, once) = here (bytes_eq h.step x.step) refl (put_indexed offset x v hs is once)
  where
    old : List (List ℕ × RowValues)
    old = map (indexed offset) hs

    push : {X : Type 0} (c : Bool) (y : X) (a b : List X) → cond c (y ∷ a) (y ∷ b) ≡ y ∷ cond c a b
    push true y a b = refl
    push false y a b = refl

    here : (b : Bool) → bytes_eq h.step x.step ≡ b → put_values x.step v old ≡ map (indexed offset) (put_step x hs)
        → cond (b || has_step x.step old) (cond b (x.step, v) (indexed offset h) ∷ altered x.step v old) (indexed offset h ∷ (old ++ (x.step, v) ∷ [])) ≡ map (indexed offset) (cond b (x ∷ hs) (h ∷ put_step x hs))
    here true same rest =
        let its : list_any (λ w. bytes_eq w x.step) (uids_in hs) ≡ false = ap (λ (u : List ℕ). list_any (λ w. bytes_eq w u) (uids_in hs)) (sym (same_text h.step x.step same)) ∙ none in
        ap (λ (w : RowValues). (x.step, w) ∷ altered x.step v old) is ∙ ap (λ (l : List (List ℕ × RowValues)). indexed offset x ∷ l) (altered_none offset x.step v hs its)
    here false other rest = push (has_step x.step old) (indexed offset h) (altered x.step v old) (old ++ (x.step, v) ∷ []) ∙ ap (λ (l : List (List ℕ × RowValues)). indexed offset h ∷ l) rest

-- by a request that creates or changes a step
pub step_indexed : {A : Type 0} (s : Settings) (history : List (Entry A)) (call : Entry A) (x : HeldStep A) (v : RowValues) (offset : ℤ) (hs : List (HeldStep A)) → legal s (past history) ≡ true → offset ≡ s.offset → v ≡ values_of_row offset x.row.attributes
    → hs ≡ held_steps s (past history) → put_step x hs ≡ held_steps s (call ∷ past history) → put_values x.step v (indexed_steps s (past history)) ≡ indexed_steps s (call ∷ past history)
step_indexed {A} s history call x v offset hs so zone is kept after =
    put_indexed s.offset x v (held_steps s (past history)) (is ∙ ap (λ (z : ℤ). values_of_row z x.row.attributes) zone) (are_once s (past history) so)
    ∙ ap (map (indexed s.offset)) (ap (put_step x) (sym kept) ∙ after)

-- A REQUEST OF NO STEP leaves the index

pub same_indexed : {A : Type 0} (s : Settings) (es : List (Entry A)) (e : Entry A) → is_of_no_step e.request ≡ true → indexed_steps s es ≡ indexed_steps s (e ∷ es)
same_indexed s es e none = ap (map (indexed s.offset)) (sym (steps_same s e es none))

-- STEPS ARE REMOVED

without_indexed : {A : Type 0} (offset : ℤ) (us : List (List ℕ)) (hs : List (HeldStep A)) → without_steps us (map (indexed offset) hs) ≡ map (indexed offset) (filter (λ (h : HeldStep A). not (is_among h.step us)) hs)
without_indexed offset us [] = refl
without_indexed {A} offset us (h ∷ hs) = here (is_among h.step us) (without_indexed offset us hs)
  where
    here : (b : Bool) → without_steps us (map (indexed offset) hs) ≡ map (indexed offset) (filter (λ (k : HeldStep A). not (is_among k.step us)) hs)
        → cond (not b) (indexed offset h ∷ without_steps us (map (indexed offset) hs)) (without_steps us (map (indexed offset) hs))
        ≡ map (indexed offset) (cond (not b) (h ∷ filter (λ (k : HeldStep A). not (is_among k.step us)) hs) (filter (λ (k : HeldStep A). not (is_among k.step us)) hs))
    here true rest = rest
    here false rest = ap (λ (l : List (List ℕ × RowValues)). indexed offset h ∷ l) rest

module _ {A : Type 0} (s : Settings) (history : List (Entry A)) (t : Tables A) (st : Stands s history t) (e : Entry A) (request : e.request ≡ Sweep) where
  -- the plan of a sweep removes the steps that the definitions remove
  removed_is : (p : Plan A) → IsPlan s (past history) e t p → (u : List ℕ) → is_among u (steps_of (removed_by p)) ≡ is_among u (removed s (past history) e.moment)
  removed_is (ToSweep due moment) p u = due_is s history t st e due.items moment p u
  removed_is ToIdle p u = sym (none_due s history t st e p u)
  removed_is (ToCreate step held told) p u = let bad : Create step p.attributes ≡ Sweep = sym p.request ∙ request in absurd cc
  removed_is (ToChange step held told) p u = let bad : Some step ≡ None = sym p.request ∙ ap step_of request in absurd cc
  removed_is (ToSet step held told newly first) p u = let bad : Set (Some step) p.transaction p.attributes ≡ Sweep = sym p.request ∙ request in absurd cc
  removed_is (ToSingle peer step subscription told) p u = let bad = sym p.request ∙ request in absurd cc
  removed_is (ToGlobal peer cover steps freed told) p u = let bad : Subscribe p.target p.receiver p.lock ≡ Sweep = sym p.request ∙ request in absurd cc
  removed_is (ToEnd peer step) p u = let bad = sym p.request ∙ request in absurd cc
  removed_is (ToEndAll peer freed) p u = let bad = sym p.request ∙ request in absurd cc
  removed_is (ToSuspend peer) p u = let bad : Suspend p.receiver ≡ Sweep = sym p.request ∙ request in absurd cc
  removed_is (ToAck peer upto) p u = let bad : Ack upto ≡ Sweep = sym p.request ∙ request in absurd cc
  removed_is (ToReserve step) p u = let bad : Reserve step ≡ Sweep = sym p.request ∙ request in absurd cc

  -- so it leaves in the index the steps that are held after it
  pub sweep_indexed : (p : Plan A) → IsPlan s (past history) e t p → without_steps (steps_of (removed_by p)) (indexed_steps s (past history)) ≡ indexed_steps s (e ∷ past history)
  sweep_indexed p plan =
      let us = steps_of (removed_by p) in
      without_indexed s.offset us (held_steps s (past history))
      ∙ ap (map (indexed s.offset)) (steps_sweep s e (past history) us (held_steps s (past history)) request (removed_is p plan) refl)

-- ONE AFTER THE OTHER

or_none : (a b : Bool) → a || (b || false) ≡ a || b
or_none a true = refl
or_none a false = refl

dropped_push : (u : List ℕ) (us : List (List ℕ)) (steps : List (List ℕ × RowValues)) → without_uid u (without_steps us steps) ≡ without_steps (us ++ u ∷ []) steps
dropped_push u us [] = refl
dropped_push u us (s ∷ ss) =
    here (is_among s.0 us) (bytes_eq s.0 u) refl (dropped_push u us ss)
    ∙ ap (λ (b : Bool). cond (not b) (s ∷ without_steps (us ++ u ∷ []) ss) (without_steps (us ++ u ∷ []) ss)) (sym (list_any-append (λ v. bytes_eq v s.0) us (u ∷ []) ∙ or_none (is_among s.0 us) (bytes_eq u s.0) ∙ ap (λ (b : Bool). is_among s.0 us || b) (other_text u s.0)))
  where
    here : (a b : Bool) → bytes_eq s.0 u ≡ b → without_uid u (without_steps us ss) ≡ without_steps (us ++ u ∷ []) ss
        → without_uid u (cond (not a) (s ∷ without_steps us ss) (without_steps us ss)) ≡ cond (not (a || b)) (s ∷ without_steps (us ++ u ∷ []) ss) (without_steps (us ++ u ∷ []) ss)
    here true b is rest = rest
    here false true is rest = ap (λ (b : Bool). cond (not b) (s ∷ without_uid u (without_steps us ss)) (without_uid u (without_steps us ss))) is ∙ rest
    here false false is rest = ap (λ (b : Bool). cond (not b) (s ∷ without_uid u (without_steps us ss)) (without_uid u (without_steps us ss))) is ∙ ap (λ (l : List (List ℕ × RowValues)). s ∷ l) rest

-- one more is taken out
pub dropped_more : (xs : List Final) (i : ℕ) (x : Final) (steps : List (List ℕ × RowValues)) → i < length xs → x.step ≡ (get_or xs i x).step → without_uid x.step (without_steps (steps_of (take i xs)) steps) ≡ without_steps (steps_of (take (i + 1) xs)) steps
dropped_more xs i x steps low is =
    dropped_push x.step (steps_of (take i xs)) steps
    ∙ ap (λ (us : List (List ℕ)). without_steps us steps) (ap (λ (v : List ℕ). steps_of (take i xs) ++ v ∷ []) is ∙ sym (map-append (λ (y : Final). y.step) (take i xs) (get_or xs i x ∷ [])) ∙ sym (ap steps_of (take_more xs i x low)))

pub none_dropped : (steps : List (List ℕ × RowValues)) → steps ≡ without_steps [] steps
none_dropped [] = refl
none_dropped (s ∷ ss) = ap (λ (l : List (List ℕ × RowValues)). s ∷ l) (none_dropped ss)
