-- The tables fit after each change.
use Rattle.std.proofs.lemmas.Bool.Decides.{nat_tests}
use Rattle.std.proofs.Common.{◌≡◌, ◌≢◌, ◌<◌, ◌≤◌, ℕ, zero, suc, Bool, true, false, not, ◌&&◌, ◌||◌, cond, eqb, List, [], ◌∷◌, ◌++◌, filter, length, get_or, set, Option, None, Some, refl, sym, ap, ◌∙◌, subst, arith, true≢false, leb, ◌⊎◌, inl, inr}
use Rattle.std.specs.Prelude.{is_some}
use Rattle.std.specs.Option.{option_or, unwrap_or}
use Rattle.std.specs.Str.{bytes_eq}
use Rattle.std.proofs.lemmas.List.{get_or_past}
use Rattle.std.proofs.lemmas.Map.Entries.{lookup-filter-keys}
use Rattle.ups_life.specs.declared.watching.Subscription.{Subscription}
use Rattle.ups_life.specs.Distinct.{Distinct}
use Rattle.ups_life.specs.Watching.{is_among}
use Rattle.ups_life.proofs.Texts.{same_text, text_is_itself}
use Rattle.ups_keep.specs.declared.due.Final.{Final}
use Rattle.ups_keep.specs.Due.{due_until, later_than}
use Rattle.ups_keep.specs.Waits.{steps_of, waits, unless_kept, only_where}
use Rattle.ups_keep.proofs.Waiting.{is_false, other_text, among_waits, waits_kept, distinct_kept}
use Rattle.ups_watch.specs.Rows.{Cells, cell}
use Rattle.ups_watch.specs.Rows as rows
use Rattle.ups_watch.specs.Table.{WatchersView, watching, knows, cells_of, is_locked_by_any, is_locked}
use Rattle.ups_watch.proofs.Cells.{cell_set}
use Rattle.ups_watch.proofs.Keeping.{kept_same}
use Rattle.ups_dataset.specs.Data.{El}
use Rattle.ups_events.specs.Queue as queues
use Rattle.ups_events.specs.Queue.{queue_at, IsReserved, IsNew}
use Rattle.ups_events.specs.Telling.{line, line_at, empty_line}
use Rattle.ups_events.proofs.Tellings.{line_new}
use Rattle.std.proofs.lemmas.Bool.{cases_lt}
use Rattle.ups_watch.specs.declared.cover.Cover.{Cover}
use Rattle.ups_watch.specs.Covers.{covered}
use Rattle.ups_tables.specs.Effects.{Reserved}
use Rattle.ups_steps.specs.declared.held.HeldRow.{HeldRow}
use Rattle.ups_tables.specs.declared.tables.Tables.{Tables}
use Rattle.ups_tables.specs.Held.{held_at, final_of, put_held}
use Rattle.ups_tables.specs.Fit.{how, cells_at, has_lock, kept_if, final_in, holds, TablesFit, AreFreed}

-- WHAT IS HELD

pub held_pushed : {A : Type 0} (step u : List ℕ) (h : HeldRow A) (hs : List (List ℕ × HeldRow A)) → held_at step hs ≡ None → held_at u (hs ++ (step, h) ∷ []) ≡ cond (bytes_eq step u) (Some h) (held_at u hs)
held_pushed step u h [] none = ap (λ b. cond b (Some h) None) (other_text u step)
held_pushed {A} step u h (x ∷ xs) none = by (bytes_eq step x.0) refl none (λ n. held_pushed step u h xs n) (bytes_eq u x.0) refl
  where
    by : (a : Bool) → bytes_eq step x.0 ≡ a → cond a (Some x.1) (held_at step xs) ≡ None → (held_at step xs ≡ None → held_at u (xs ++ (step, h) ∷ []) ≡ cond (bytes_eq step u) (Some h) (held_at u xs))
        → (b : Bool) → bytes_eq u x.0 ≡ b → cond b (Some x.1) (held_at u (xs ++ (step, h) ∷ [])) ≡ cond (bytes_eq step u) (Some h) (cond b (Some x.1) (held_at u xs))
    by true e n rest b f = absurd cc
    by false e n rest true f = sym (ap (λ k. cond k (Some h) (Some x.1)) (is_false (bytes_eq step u) (λ s. true≢false (sym (ap (λ v. bytes_eq v x.0) (same_text step u s) ∙ f) ∙ e))))
    by false e n rest false f = rest n

pub held_put : {A : Type 0} (step u : List ℕ) (h : HeldRow A) (hs : List (List ℕ × HeldRow A)) → held_at u (put_held step h hs) ≡ cond (bytes_eq step u) (Some h) (held_at u hs)
held_put step u h [] = ap (λ b. cond b (Some h) None) (other_text u step)
held_put {A} step u h (x ∷ xs) = by (bytes_eq step x.0) refl (held_put step u h xs) (bytes_eq u x.0) refl
  where
    by : (a : Bool) → bytes_eq step x.0 ≡ a → held_at u (put_held step h xs) ≡ cond (bytes_eq step u) (Some h) (held_at u xs)
        → (b : Bool) → bytes_eq u x.0 ≡ b → held_at u (cond a ((x.0, h) ∷ xs) (x ∷ put_held step h xs)) ≡ cond (bytes_eq step u) (Some h) (cond b (Some x.1) (held_at u xs))
    by true e rest b f = at (bytes_eq step u) refl b f
      where
        at : (c : Bool) → bytes_eq step u ≡ c → (b : Bool) → bytes_eq u x.0 ≡ b → cond (bytes_eq u x.0) (Some h) (held_at u xs) ≡ cond c (Some h) (cond b (Some x.1) (held_at u xs))
        at true s b f = ap (λ k. cond k (Some h) (held_at u xs)) (ap (λ v. bytes_eq v x.0) (sym (same_text step u s)) ∙ e)
        at false s true f = absurd (true≢false (sym (text_is_itself step) ∙ ap (bytes_eq step) (same_text step x.0 e ∙ sym (same_text u x.0 f)) ∙ s))
        at false s false f = ap (λ k. cond k (Some h) (held_at u xs)) f
    by false e rest true f =
        ap (λ k. cond k (Some x.1) (held_at u (put_held step h xs))) f
        ∙ sym (ap (λ k. cond k (Some h) (Some x.1)) (is_false (bytes_eq step u) (λ s. true≢false (sym (ap (λ v. bytes_eq v x.0) (same_text step u s) ∙ f) ∙ e))))
    by false e rest false f = ap (λ k. cond k (Some x.1) (held_at u (put_held step h xs))) f ∙ rest

-- WHO KEEPS IT

pub cells_watching : {A : Type 0} (t : WatchersView A) (p : ℕ) (u : List ℕ) → get_or (cells_of t u) p None ≡ watching t p u
cells_watching t p u = by (rows.cells_in t.rows u)
  where
    by : (o : Option Cells) → get_or (unwrap_or o []) p None ≡ cell p o
    by None = refl
    by (Some row) = refl

pub kept_unless : {A : Type 0} (t t' : WatchersView A) (u : List ℕ) → ((p : ℕ) → watching t' p u ≡ watching t p u) → is_locked_by_any (cells_of t' u) ≡ is_locked_by_any (cells_of t u)
kept_unless t t' u same = kept_same (cells_of t' u) (cells_of t u) (λ p. cells_watching t' p u ∙ same p ∙ sym (cells_watching t p u))

none_kept : {A : Type 0} (t : WatchersView A) (u : List ℕ) → ((p : ℕ) → watching t p u ≡ None) → is_locked_by_any (cells_of t u) ≡ false
none_kept t u none = kept_same (cells_of t u) [] (λ p. cells_watching t p u ∙ none p)

-- the peer at a place is subscribed otherwise
pub kept_set : {A : Type 0} (t t' : WatchersView A) (u : List ℕ) (peer : ℕ) (s : Option Subscription) → peer < length (cells_of t u) → ((p : ℕ) → watching t' p u ≡ cond (eqb peer p) s (watching t p u)) → is_locked_by_any (cells_of t' u) ≡ is_locked_by_any (set (cells_of t u) peer s)
kept_set t t' u peer s within step = kept_same (cells_of t' u) (set (cells_of t u) peer s) (λ p. cells_watching t' p u ∙ step p ∙ ap (cond (eqb peer p) s) (sym (cells_watching t p u)) ∙ sym (cell_set (cells_of t u) peer s p within))

-- a peer without a lock keeps nothing more
pub still_free : (row : Cells) (peer : ℕ) (s : Option Subscription) → is_locked s ≡ false → is_locked_by_any row ≡ false → is_locked_by_any (set row peer s) ≡ false
still_free [] peer s free none = refl
still_free (x ∷ xs) zero s free none = by (is_locked x) none
  where
    by : (b : Bool) → (b || is_locked_by_any xs) ≡ false → (is_locked s || is_locked_by_any xs) ≡ false
    by true n = absurd (true≢false n)
    by false n = ap (λ b. b || is_locked_by_any xs) free ∙ n
still_free (x ∷ xs) (suc peer) s free none = by (is_locked x) none (still_free xs peer s free)
  where
    by : (b : Bool) → (b || is_locked_by_any xs) ≡ false → (is_locked_by_any xs ≡ false → is_locked_by_any (set xs peer s) ≡ false) → (b || is_locked_by_any (set xs peer s)) ≡ false
    by true n rest = absurd (true≢false n)
    by false n rest = rest n

pub never_waits : (b : Bool) → unless_kept b None ≡ None
never_waits true = refl
never_waits false = refl

-- each step that is known has a cell for each peer
abbrev Wide : {A : Type 0} → Tables A → Type 0
Wide t = (u : List ℕ) → knows t.watchers u ≡ true → length (cells_at t u) ≡ length t.watchers.covers

-- A STEP IS CREATED

module _ {A : Type 0} (t t' : Tables A) (step : List ℕ) (h : HeldRow A) (old : TablesFit t) (fresh : held_at step t.steps.entries ≡ None) (open_yet : h.row.final_at ≡ None)
    (steps : t'.steps.entries ≡ t.steps.entries ++ (step, h) ∷ []) (new_hows : (p : ℕ) (u : List ℕ) → bytes_eq step u ≡ false → how t' p u ≡ how t p u)
    (new_known : (u : List ℕ) → knows t'.watchers u ≡ (bytes_eq step u || knows t.watchers u)) (queues : length t'.queues ≡ length t'.watchers.covers) (wide : Wide t') (due : t'.due.steps ≡ t.due.steps) where
  pub fits_created : TablesFit t'
  fits_created = record {
    queues = queues;
    known = λ u. new_known u ∙ ap (λ b. bytes_eq step u || b) (old.known u) ∙ sym (ap is_some (now u) ∙ either (bytes_eq step u) (held_at u t.steps.entries));
    width = wide;
    once = subst (λ (xs : List Final). Distinct (steps_of xs)) (sym due) old.once;
    waiting = λ u. ap (waits u) due ∙ old.waiting u ∙ by u (bytes_eq step u) refl;
  }
    where
      now : (u : List ℕ) → held_at u t'.steps.entries ≡ cond (bytes_eq step u) (Some h) (held_at u t.steps.entries)
      now u = ap (held_at u) steps ∙ held_pushed step u h t.steps.entries fresh

      either : (b : Bool) (o : Option (HeldRow A)) → is_some (cond b (Some h) o) ≡ (b || is_some o)
      either true o = refl
      either false o = refl

      by : (u : List ℕ) (b : Bool) → bytes_eq step u ≡ b → unless_kept (has_lock t u) (final_in t u) ≡ unless_kept (has_lock t' u) (final_in t' u)
      by u true e =
          ap (λ o. unless_kept (has_lock t u) (final_of o)) (ap (λ v. held_at v t.steps.entries) (sym (same_text step u e)) ∙ fresh) ∙ never_waits (has_lock t u)
          ∙ sym (ap (λ o. unless_kept (has_lock t' u) (final_of o)) (now u ∙ ap (λ b. cond b (Some h) (held_at u t.steps.entries)) e) ∙ ap (unless_kept (has_lock t' u)) open_yet ∙ never_waits (has_lock t' u))
      by u false e =
          ap (λ b. unless_kept b (final_in t u)) (sym (kept_unless t.watchers t'.watchers u (λ p. new_hows p u e)))
          ∙ ap (λ o. unless_kept (has_lock t' u) (final_of o)) (sym (now u ∙ ap (λ b. cond b (Some h) (held_at u t.steps.entries)) e))

-- ONE STEP IS SETTLED: what is held of it or who keeps it may change, and of no other

module _ {A : Type 0} (t t' : Tables A) (step : List ℕ) (old : TablesFit t) (queues : length t'.queues ≡ length t'.watchers.covers) (wide : Wide t')
    (new_hows : (p : ℕ) (u : List ℕ) → bytes_eq step u ≡ false → how t' p u ≡ how t p u) (new_known : (u : List ℕ) → knows t'.watchers u ≡ knows t.watchers u)
    (new_holds : (u : List ℕ) → holds t' u ≡ holds t u) (new_final : (u : List ℕ) → bytes_eq step u ≡ false → final_in t' u ≡ final_in t u)
    (once : Distinct (steps_of t'.due.steps)) (settled : (u : List ℕ) → waits u t'.due.steps ≡ cond (bytes_eq step u) (unless_kept (has_lock t' step) (final_in t' step)) (waits u t.due.steps)) where
  pub fits_settled : TablesFit t'
  fits_settled = record {
    queues = queues;
    known = λ u. new_known u ∙ old.known u ∙ sym (new_holds u);
    width = wide;
    once = once;
    waiting = λ u. settled u ∙ by u (bytes_eq step u) refl;
  }
    where
      by : (u : List ℕ) (b : Bool) → bytes_eq step u ≡ b → cond b (unless_kept (has_lock t' step) (final_in t' step)) (waits u t.due.steps) ≡ unless_kept (has_lock t' u) (final_in t' u)
      by u true e = ap (λ v. unless_kept (has_lock t' v) (final_in t' v)) (same_text step u e)
      by u false e = old.waiting u ∙ ap (λ b. unless_kept b (final_in t u)) (sym (kept_unless t.watchers t'.watchers u (λ p. new_hows p u e))) ∙ ap (unless_kept (has_lock t' u)) (sym (new_final u e))

-- nothing that matters to it changes
module _ {A : Type 0} (t t' : Tables A) (old : TablesFit t) (steps : t'.steps.entries ≡ t.steps.entries) (covers : length t'.watchers.covers ≡ length t.watchers.covers) (new_queues : length t'.queues ≡ length t.queues)
    (wide : Wide t') (new_hows : (p : ℕ) (u : List ℕ) → how t' p u ≡ how t p u) (new_known : (u : List ℕ) → knows t'.watchers u ≡ knows t.watchers u) (due : t'.due.steps ≡ t.due.steps) where
  pub fits_same : TablesFit t'
  fits_same = record {
    queues = new_queues ∙ old.queues ∙ sym covers;
    known = λ u. new_known u ∙ old.known u ∙ sym (ap (λ hs. is_some (held_at u hs)) steps);
    width = wide;
    once = subst (λ (xs : List Final). Distinct (steps_of xs)) (sym due) old.once;
    waiting = λ u. ap (waits u) due ∙ old.waiting u ∙ ap (λ b. unless_kept b (final_in t u)) (sym (kept_unless t.watchers t'.watchers u (λ p. new_hows p u))) ∙ ap (λ hs. unless_kept (has_lock t' u) (final_of (held_at u hs))) (sym steps);
  }

-- MANY STEPS: a peer is subscribed otherwise to those for which a test says so

-- where a step is not known, nobody has a cell
unknown : {A : Type 0} (t : WatchersView A) (u : List ℕ) → knows t u ≡ false → cells_of t u ≡ []
unknown t u none = by (rows.cells_in t.rows u) none
  where
    by : (o : Option Cells) → is_some o ≡ false → unwrap_or o [] ≡ []
    by None n = refl
    by (Some row) n = absurd (true≢false n)

-- nobody is subscribed to a step that is not held
pub nobody : {A : Type 0} (t : Tables A) → TablesFit t → (u : List ℕ) → holds t u ≡ false → (p : ℕ) → how t p u ≡ None
nobody t fits u out p = sym (cells_watching t.watchers p u) ∙ ap (λ (row : Cells). get_or row p None) (unknown t.watchers u (fits.known u ∙ out))

or_none : (x : Option ℕ) → option_or x None ≡ x
or_none None = refl
or_none (Some m) = refl

-- what waits after those that are kept were dropped, and those that are freed were added
freed_rule : (before after chosen : Bool) (o : Option ℕ) (kept_then : Bool) → after ≡ cond chosen kept_then before
    → option_or (unless_kept after (unless_kept before o)) (cond chosen (cond (before && not kept_then) o None) None) ≡ unless_kept after o
freed_rule true after true o true e = ap (λ b. option_or (unless_kept b None) None) e ∙ sym (ap (λ b. unless_kept b o) e)
freed_rule true after true o false e = ap (λ b. option_or (unless_kept b None) o) e ∙ sym (ap (λ b. unless_kept b o) e)
freed_rule true after false o kept_then e = ap (λ b. option_or (unless_kept b None) None) e ∙ sym (ap (λ b. unless_kept b o) e)
freed_rule false after true o true e = ap (λ b. option_or (unless_kept b o) None) e ∙ sym (ap (λ b. unless_kept b o) e)
freed_rule false after true o false e = ap (λ b. option_or (unless_kept b o) None) e ∙ or_none o ∙ sym (ap (λ b. unless_kept b o) e)
freed_rule false after false o kept_then e = ap (λ b. option_or (unless_kept b o) None) e ∙ or_none o ∙ sym (ap (λ b. unless_kept b o) e)

-- whether a step is kept then
pub kept_then : {A : Type 0} (t t' : Tables A) (old : TablesFit t) (peer : ℕ) (s : Option Subscription) (chosen : List ℕ → Bool) → peer < length t.watchers.covers
    → ((p : ℕ) (u : List ℕ) → how t' p u ≡ cond (eqb peer p && chosen u) s (how t p u)) → ((u : List ℕ) → holds t u ≡ false → (p : ℕ) → how t' p u ≡ None) → (u : List ℕ) → has_lock t' u ≡ cond (chosen u) (kept_if t peer s u) (has_lock t u)
kept_then t t' old peer s chosen within new_hows quiet u = by (chosen u) refl (holds t u) refl
  where
    never : (b : Bool) → (b && false) ≡ false
    never true = refl
    never false = refl

    always : (b : Bool) → (b && true) ≡ b
    always true = refl
    always false = refl

    by : (b : Bool) → chosen u ≡ b → (k : Bool) → holds t u ≡ k → has_lock t' u ≡ cond b (kept_if t peer s u) (has_lock t u)
    by false c k h = kept_unless t.watchers t'.watchers u (λ p. new_hows p u ∙ ap (λ b. cond (eqb peer p && b) s (how t p u)) c ∙ ap (λ b. cond b s (how t p u)) (never (eqb peer p)))
    by true c true h =
        let w = old.width u (old.known u ∙ h) in
        kept_set t.watchers t'.watchers u peer s (omega (arith, w, within)) (λ p. new_hows p u ∙ ap (λ b. cond (eqb peer p && b) s (how t p u)) c ∙ ap (λ b. cond b s (how t p u)) (always (eqb peer p)))
    by true c false h = none_kept t'.watchers u (quiet u h) ∙ sym (ap (λ (row : Cells). is_locked_by_any (set row peer s)) (unknown t.watchers u (old.known u ∙ h)))

module _ {A : Type 0} (t t' : Tables A) (old : TablesFit t) (peer : ℕ) (s : Option Subscription) (chosen : List ℕ → Bool) (freed : List Final) (are : AreFreed t peer s chosen freed) (within : peer < length t.watchers.covers)
    (steps : t'.steps.entries ≡ t.steps.entries) (queues : length t'.queues ≡ length t'.watchers.covers) (wide : Wide t')
    (new_hows : (p : ℕ) (u : List ℕ) → how t' p u ≡ cond (eqb peer p && chosen u) s (how t p u)) (quiet : (u : List ℕ) → holds t u ≡ false → (p : ℕ) → how t' p u ≡ None)
    (new_known : (u : List ℕ) → knows t'.watchers u ≡ knows t.watchers u) (once : Distinct (steps_of t'.due.steps))
    (settled : (u : List ℕ) → waits u t'.due.steps ≡ option_or (unless_kept (has_lock t' u) (waits u t.due.steps)) (waits u freed)) where
  pub fits_many : TablesFit t'
  fits_many = record {
    queues = queues;
    known = λ u. new_known u ∙ old.known u ∙ sym (ap (λ hs. is_some (held_at u hs)) steps);
    width = wide;
    once = once;
    waiting = λ u.
        settled u ∙ ap (λ o. option_or (unless_kept (has_lock t' u) o) (waits u freed)) (old.waiting u) ∙ ap (option_or (unless_kept (has_lock t' u) (unless_kept (has_lock t u) (final_in t u)))) (are.waiting u)
        ∙ freed_rule (has_lock t u) (has_lock t' u) (chosen u) (final_in t u) (kept_if t peer s u) (kept_then t t' old peer s chosen within new_hows quiet u)
        ∙ ap (λ hs. unless_kept (has_lock t' u) (final_of (held_at u hs))) (sym steps);
  }

-- what is freed did not wait
pub freed_apart : {A : Type 0} (t : Tables A) (old : TablesFit t) (peer : ℕ) (s : Option Subscription) (chosen : List ℕ → Bool) (freed : List Final) → AreFreed t peer s chosen freed → (u : List ℕ) → is_some (waits u freed) ≡ true → waits u t.due.steps ≡ None
freed_apart t old peer s chosen freed are u here = old.waiting u ∙ by (chosen u) (has_lock t u) (sym (ap is_some (are.waiting u)) ∙ here)
  where
    by : (c k : Bool) → is_some (cond c (cond (k && not (kept_if t peer s u)) (final_in t u) None) None) ≡ true → unless_kept k (final_in t u) ≡ None
    by true true h = refl
    by true false h = absurd (true≢false (sym h))
    by false k h = absurd (true≢false (sym h))

-- where the peer gets no lock, what is kept then was kept before, and did not wait
pub kept_before : {A : Type 0} (t t' : Tables A) (old : TablesFit t) (peer : ℕ) (s : Option Subscription) (chosen : List ℕ → Bool) → is_locked s ≡ false → ((u : List ℕ) → has_lock t' u ≡ cond (chosen u) (kept_if t peer s u) (has_lock t u))
    → (u : List ℕ) → has_lock t' u ≡ true → waits u t.due.steps ≡ None
kept_before t t' old peer s chosen free then u h = old.waiting u ∙ by (has_lock t u) refl (chosen u) (sym (then u) ∙ h)
  where
    by : (k : Bool) → has_lock t u ≡ k → (c : Bool) → cond c (kept_if t peer s u) (has_lock t u) ≡ true → unless_kept k (final_in t u) ≡ None
    by true e c g = refl
    by false e true g = absurd (true≢false (sym g ∙ still_free (cells_at t u) peer s free e))
    by false e false g = absurd (true≢false (sym g ∙ e))

-- A SWEEP

passed : (o : Option ℕ) (m : ℕ) (b : Bool) → is_some (only_where (λ k. leb k m) o) ≡ b → only_where (λ k. not (leb k m)) o ≡ cond b None o
passed None m true e = refl
passed None m false e = refl
passed (Some k) m b e = by (leb k m) e
  where
    by : (c : Bool) → is_some (cond c (Some k) None) ≡ b → cond (not c) (Some k) None ≡ cond b None (Some k)
    by true f = ap (λ x. cond x None (Some k)) f
    by false f = ap (λ x. cond x None (Some k)) f

module _ {A : Type 0} (t t' : Tables A) (old : TablesFit t) (due : List Final) (m : ℕ) (due_is : due ≡ due_until m t.due.steps)
    (steps : t'.steps.entries ≡ filter (λ (e : List ℕ × HeldRow A). not (is_among e.0 (steps_of due))) t.steps.entries) (new_hows : (p : ℕ) (u : List ℕ) → how t' p u ≡ cond (is_among u (steps_of due)) None (how t p u))
    (new_known : (u : List ℕ) → knows t'.watchers u ≡ (not (is_among u (steps_of due)) && knows t.watchers u)) (queues : length t'.queues ≡ length t'.watchers.covers) (wide : Wide t') (left : t'.due.steps ≡ later_than m t.due.steps) where
  among_due : (u : List ℕ) → is_among u (steps_of due) ≡ is_some (only_where (λ k. leb k m) (waits u t.due.steps))
  among_due u = among_waits u due ∙ ap (λ xs. is_some (waits u xs)) due_is ∙ ap is_some (waits_kept (λ (x : Final). leb x.moment m) t.due.steps old.once u)

  held_left : (u : List ℕ) → held_at u t'.steps.entries ≡ cond (not (is_among u (steps_of due))) (held_at u t.steps.entries) None
  held_left u = ap (held_at u) steps ∙ lookup-filter-keys (bytes_eq u) (λ v. not (is_among v (steps_of due))) (not (is_among u (steps_of due))) (λ k same. ap (λ v. not (is_among v (steps_of due))) (sym (same_text u k same))) t.steps.entries

  pub fits_swept : TablesFit t'
  fits_swept = record {
    queues = queues;
    known = λ u. new_known u ∙ ap (λ b. not (is_among u (steps_of due)) && b) (old.known u) ∙ sym (ap is_some (held_left u) ∙ either (not (is_among u (steps_of due))) (held_at u t.steps.entries));
    width = wide;
    once = subst (λ (xs : List Final). Distinct (steps_of xs)) (sym left) (distinct_kept (λ (x : Final). not (leb x.moment m)) t.due.steps old.once);
    waiting = λ u.
        ap (waits u) left ∙ waits_kept (λ (x : Final). not (leb x.moment m)) t.due.steps old.once u ∙ passed (waits u t.due.steps) m (is_among u (steps_of due)) (sym (among_due u)) ∙ by u (is_among u (steps_of due)) refl;
  }
    where
      either : (b : Bool) (o : Option (HeldRow A)) → is_some (cond b o None) ≡ (b && is_some o)
      either true o = refl
      either false o = refl

      by : (u : List ℕ) (b : Bool) → is_among u (steps_of due) ≡ b → cond b None (waits u t.due.steps) ≡ unless_kept (has_lock t' u) (final_in t' u)
      by u true e = sym (ap (λ o. unless_kept (has_lock t' u) (final_of o)) (held_left u ∙ ap (λ b. cond (not b) (held_at u t.steps.entries) None) e) ∙ never_waits (has_lock t' u))
      by u false e =
          old.waiting u ∙ ap (λ b. unless_kept b (final_in t u)) (sym (kept_unless t.watchers t'.watchers u (λ p. new_hows p u ∙ ap (λ b. cond b None (how t p u)) e)))
          ∙ ap (λ o. unless_kept (has_lock t' u) (final_of o)) (sym (held_left u ∙ ap (λ b. cond (not b) (held_at u t.steps.entries) None) e))

pub same_none : {X : Type 0} (b : Bool) (x : X) → cond b x x ≡ x
same_none true x = refl
same_none false x = refl

-- who is not subscribed, and does not get subscribed, is not
pub stays_none : {A : Type 0} (t : Tables A) → TablesFit t → (u : List ℕ) → holds t u ≡ false → (chosen : List ℕ → Bool) → ((v : List ℕ) → chosen v ≡ true → holds t v ≡ true) → (peer p : ℕ) (s : Option Subscription) → cond (eqb peer p && chosen u) s (how t p u) ≡ None
stays_none t fits u out chosen here peer p s =
    ap (λ b. cond (eqb peer p && b) s (how t p u)) (is_false (chosen u) (λ c. true≢false (sym (here u c) ∙ out))) ∙ ap (λ b. cond b s (how t p u)) (never (eqb peer p)) ∙ nobody t fits u out p
  where
    never : (b : Bool) → (b && false) ≡ false
    never true = refl
    never false = refl

-- WHAT IS HELD STAYS

pub put_holds : {A : Type 0} (step u : List ℕ) (h : HeldRow A) (hs : List (List ℕ × HeldRow A)) → is_some (held_at step hs) ≡ true → is_some (held_at u (put_held step h hs)) ≡ is_some (held_at u hs)
put_holds {A} step u h hs here = ap is_some (held_put step u h hs) ∙ by (bytes_eq step u) refl
  where
    by : (b : Bool) → bytes_eq step u ≡ b → is_some (cond b (Some h) (held_at u hs)) ≡ is_some (held_at u hs)
    by true e = sym here ∙ ap (λ v. is_some (held_at v hs)) (same_text step u e)
    by false e = refl

pub put_final : {A : Type 0} (step u : List ℕ) (h : HeldRow A) (hs : List (List ℕ × HeldRow A)) → bytes_eq step u ≡ false → final_of (held_at u (put_held step h hs)) ≡ final_of (held_at u hs)
put_final step u h hs e = ap final_of (held_put step u h hs ∙ ap (λ b. cond b (Some h) (held_at u hs)) e)

pub put_final_here : {A : Type 0} (step : List ℕ) (h : HeldRow A) (hs : List (List ℕ × HeldRow A)) → final_of (held_at step (put_held step h hs)) ≡ h.row.final_at
put_final_here step h hs = ap final_of (held_put step step h hs ∙ ap (λ b. cond b (Some h) (held_at step hs)) (text_is_itself step))

-- what is so of one step is so of no other
pub not_at : {X : Type 0} (b c : Bool) (x y : X) → c ≡ false → cond (b && c) x y ≡ y
not_at true c x y e = ap (λ k. cond k x y) e
not_at false c x y e = refl

-- a step waits as what is held of it and who keeps it say
pub waits_so : (x y : Option ℕ) (k k' : Bool) (o o' : Option ℕ) → x ≡ unless_kept k o → k ≡ k' → o ≡ o' → x ≡ unless_kept k' o'
waits_so x y k k' o o' e f g = e ∙ ap (λ b. unless_kept b o) f ∙ ap (unless_kept k') g

-- CHOICES

-- a change at a place
pub at_peer : {X : Type 0} (peer p : ℕ) (new old : ℕ → X) (f : X → X) → new peer ≡ f (old peer) → ((q : ℕ) → q ≢ peer → new q ≡ old q) → new p ≡ cond (eqb peer p) (f (old p)) (old p)
at_peer {X} peer p new old f here others = by (eqb peer p) refl
  where
    by : (b : Bool) → eqb peer p ≡ b → new p ≡ cond b (f (old p)) (old p)
    by true e = let s : peer ≡ p = grind (arith, nat_tests, e) in subst (λ k. new k ≡ f (old k)) s here
    by false e = others p (λ s. grind (arith, nat_tests, e, s))

-- who is subscribed to a new step has a global subscription
pub covered_by_one : {A : Type 0} (c : Option (Cover A)) (attributes : List El) → is_some (covered c attributes) ≡ true → is_some c ≡ true
covered_by_one None attributes h = h
covered_by_one (Some c) attributes h = refl

-- ROOM

pub fits_reserved : {A : Type 0} (t t' : Tables A) → Reserved t t' → TablesFit t → TablesFit t'
fits_reserved t t' r old = record {
  queues = r.peers ∙ old.queues ∙ sym (ap length r.covers);
  known = λ u. r.known u ∙ old.known u ∙ sym (ap (λ hs. is_some (held_at u hs)) r.steps);
  width = λ u here. ap length (r.cells_same u) ∙ old.width u (sym (r.known u) ∙ here) ∙ sym (ap length r.covers);
  once = subst (λ (xs : List Final). Distinct (steps_of xs)) (sym r.due) old.once;
  waiting = λ u. ap (waits u) r.due ∙ old.waiting u ∙ ap (λ (row : Cells). unless_kept (is_locked_by_any row) (final_in t u)) (sym (r.cells_same u)) ∙ ap (λ hs. unless_kept (has_lock t' u) (final_of (held_at u hs))) (sym r.steps);
}

-- NOTHING YET

pub lines_new : (qs : List queues.QueueView) (n : ℕ) → length qs ≡ n → ((p : ℕ) → p < n → IsNew (queue_at qs p)) → (p : ℕ) → line_at qs p ≡ empty_line
lines_new qs n len fresh p = by (cases_lt p n)
  where
    by : (p < n) ⊎ (n ≤ p) → line_at qs p ≡ empty_line
    by (inl l) = line_new (queue_at qs p) (fresh p l)
    by (inr l) = ap line (get_or_past qs p queues.empty (omega (arith, l, len)))

pub fits_new : {A : Type 0} (t : Tables A) → length t.queues ≡ length t.watchers.covers → t.steps.entries ≡ [] → t.watchers.rows ≡ [] → t.due.steps ≡ [] → TablesFit t
fits_new t peers steps none due = record {
  queues = peers;
  known = λ u. unknown_all u ∙ sym (ap (λ hs. is_some (held_at u hs)) steps);
  width = λ u here. absurd (true≢false (sym here ∙ unknown_all u));
  once = subst (λ (xs : List Final). Distinct (steps_of xs)) (sym due) tt;
  waiting = λ u. ap (waits u) due ∙ sym (ap (λ hs. unless_kept (has_lock t u) (final_of (held_at u hs))) steps ∙ never_waits (has_lock t u));
}
  where
    unknown_all : (u : List ℕ) → knows t.watchers u ≡ false
    unknown_all u = ap (λ rs. is_some (rows.cells_in rs u)) none
