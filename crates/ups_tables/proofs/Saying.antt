-- What the tables say of the steps that are held, and what stays as it was.
use Rattle.std.proofs.Common.{◌≡◌, ℕ, suc, Bool, true, false, ◌||◌, cond, List, [], ◌∷◌, get_or, filter, Option, None, Some, refl, sym, ap, ◌∙◌}
use Rattle.std.specs.Prelude.{is_some}
use Rattle.std.specs.Option.{option_map}
use Rattle.std.specs.Str.{bytes_eq}
use Rattle.ups_life.specs.declared.entry.Entry.{Entry}
use Rattle.ups_life.specs.declared.peer.Peer.{Peer}
use Rattle.ups_life.specs.Settings.{Settings}
use Rattle.ups_life.specs.Steps.{past, final_at}
use Rattle.ups_life.specs.Watching.{is_held, is_locked, watch}
use Rattle.ups_life.proofs.Texts.{same_text}
use Rattle.ups_keep.proofs.Waiting.{other_text}
use Rattle.ups_tables.specs.declared.rows.HeldStep.{HeldStep}
use Rattle.ups_tables.specs.HeldSteps.{held_step, held_steps, step_at, put_step}
use Rattle.ups_tables.specs.Live.{live, final, locked}
use Rattle.ups_tables.proofs.Holding.{step_at-held_steps}
use Rattle.ups_events.specs.Telling.{empty_line}
use Rattle.ups_watch.specs.declared.cover.Cover.{Cover}
use Rattle.ups_watch.specs.Rows.{Cells}
use Rattle.ups_watch.specs.Table.{is_locked_by_any}
use Rattle.ups_steps.specs.declared.held.HeldRow.{HeldRow}
use Rattle.ups_tables.specs.declared.tables.Tables.{Tables}
use Rattle.ups_tables.specs.Held.{held_at, final_of, put_held}
use Rattle.ups_tables.specs.Fit.{how, cells_at, has_lock, holds, queue_line}
use Rattle.ups_tables.specs.Fit as fit
use Rattle.ups_tables.specs.Places.{place_of_title, by_place}
use Rattle.ups_tables.specs.Stands.{cover_of, how_of, queue_of, entry_of, entries_of, Stands}
use Rattle.ups_tables.specs.Keyed.{step_with_held}
use Rattle.ups_tables.proofs.Fitness.{cells_watching, nobody}
use Rattle.ups_tables.proofs.Titled.{same_at, kept_by_titles, any_same, nobody_locks}

-- WHAT IS HELD

abbrev pub bare : {A : Type 0} → HeldStep A → HeldRow A
bare h = record { row = h.row; holder = h.holder }

held_entries : {A : Type 0} (u : List ℕ) (hs : List (HeldStep A)) → held_at u (entries_of hs) ≡ option_map bare (step_at u hs)
held_entries u [] = refl
held_entries {A} u (h ∷ hs) = ap (λ b. cond b (Some (bare h)) (held_at u (entries_of hs))) (other_text u h.step) ∙ by (bytes_eq h.step u) (held_entries u hs)
  where
    by : (b : Bool) → held_at u (entries_of hs) ≡ option_map bare (step_at u hs) → cond b (Some (bare h)) (held_at u (entries_of hs)) ≡ option_map bare (cond b (Some h) (step_at u hs))
    by true rest = refl
    by false rest = rest

pub put_entries : {A : Type 0} (step : List ℕ) (x : HeldRow A) (hs : List (HeldStep A)) → put_held step x (entries_of hs) ≡ entries_of (put_step (step_with_held step x) hs)
put_entries step x [] = refl
put_entries {A} step x (h ∷ hs) =
    ap (λ b. cond b ((h.step, x) ∷ entries_of hs) (entry_of h ∷ put_held step x (entries_of hs))) (other_text step h.step) ∙ by (bytes_eq h.step step) refl (put_entries step x hs)
  where
    by : (b : Bool) → bytes_eq h.step step ≡ b → put_held step x (entries_of hs) ≡ entries_of (put_step (step_with_held step x) hs) → cond b ((h.step, x) ∷ entries_of hs) (entry_of h ∷ put_held step x (entries_of hs)) ≡ entries_of (cond b (step_with_held step x ∷ hs) (h ∷ put_step (step_with_held step x) hs))
    by true same rest = ap (λ v. (v, x) ∷ entries_of hs) (same_text h.step step same)
    by false other rest = ap (λ r. entry_of h ∷ r) rest

pub left_entries : {A : Type 0} (p : List ℕ → Bool) (hs : List (HeldStep A)) → filter (λ (e : List ℕ × HeldRow A). p e.0) (entries_of hs) ≡ entries_of (filter (λ (h : HeldStep A). p h.step) hs)
left_entries p [] = refl
left_entries {A} p (h ∷ hs) = by (p h.step) (left_entries p hs)
  where
    by : (b : Bool) → filter (λ (e : List ℕ × HeldRow A). p e.0) (entries_of hs) ≡ entries_of (filter (λ (h : HeldStep A). p h.step) hs)
        → cond b (entry_of h ∷ filter (λ (e : List ℕ × HeldRow A). p e.0) (entries_of hs)) (filter (λ (e : List ℕ × HeldRow A). p e.0) (entries_of hs)) ≡ entries_of (cond b (h ∷ filter (λ (h : HeldStep A). p h.step) hs) (filter (λ (h : HeldStep A). p h.step) hs))
    by true rest = ap (λ r. entry_of h ∷ r) rest
    by false rest = rest

module _ {A : Type 0} (s : Settings) (history : List (Entry A)) (t : Tables A) (st : Stands s history t) where
  -- what is held of u
  pub held_is : (u : List ℕ) → held_at u t.steps.entries ≡ cond (is_held s (past history) u) (Some (bare (held_step s (past history) u))) None
  held_is u = ap (held_at u) st.steps ∙ held_entries u (held_steps s (past history)) ∙ ap (option_map bare) (step_at-held_steps s (past history) u) ∙ by (is_held s (past history) u)
    where
      by : (b : Bool) → option_map bare (cond b (Some (held_step s (past history) u)) None) ≡ cond b (Some (bare (held_step s (past history) u))) None
      by true = refl
      by false = refl

  -- u is held
  pub holds_is : (u : List ℕ) → holds t u ≡ is_held s (past history) u
  holds_is u = ap is_some (held_is u) ∙ by (is_held s (past history) u)
    where
      by : (b : Bool) → is_some (cond b (Some (bare (held_step s (past history) u))) None) ≡ b
      by true = refl
      by false = refl

  -- when the state of u became final
  pub final_is : (u : List ℕ) → fit.final_in t u ≡ final s (past history) u
  final_is u = ap final_of (held_is u) ∙ by (is_held s (past history) u)
    where
      by : (b : Bool) → final_of (cond b (Some (bare (held_step s (past history) u))) None) ≡ cond b (final_at (past history) u) None
      by true = refl
      by false = refl

  -- whether a peer keeps u
  pub kept_is : (u : List ℕ) → has_lock t u ≡ locked s (past history) u
  kept_is u = by (holds t u) refl
    where
      seen : (p : Peer) → how_of s.peers t p.ae u ≡ by_place None (λ i. get_or (cells_at t u) i None) (place_of_title s.peers p.ae)
      seen p = same_at (place_of_title s.peers p.ae) None (λ i. get_or (cells_at t u) i None) (λ i. how t i u) (λ i. sym (cells_watching t.watchers i u))

      by : (b : Bool) → holds t u ≡ b → has_lock t u ≡ locked s (past history) u
      by true h =
          sym (kept_by_titles s.peers (cells_at t u) st.titles (st.fits.width u (st.fits.known u ∙ h) ∙ st.peers))
          ∙ any_same (λ (p : Peer). is_locked (by_place None (λ i. get_or (cells_at t u) i None) (place_of_title s.peers p.ae))) (λ (p : Peer). is_locked (live s (past history) p.ae u)) s.peers
          (λ p. ap is_locked (sym (seen p) ∙ st.lives.pairs p.ae u))
      by false h =
          none_kept ∙ sym (nobody_locks s.peers (λ p. live s (past history) p.ae u) (λ p. ap (λ b. cond b (watch s (past history) p.ae u) None) (sym (holds_is u) ∙ h)))
        where
          none_kept : has_lock t u ≡ false
          none_kept = nothing_kept (cells_at t u) (λ i. cells_watching t.watchers i u ∙ nobody t st.fits u h i)
            where
              nothing_kept : (row : Cells) → ((i : ℕ) → get_or row i None ≡ None) → is_locked_by_any row ≡ false
              nothing_kept [] n = refl
              nothing_kept (c ∷ cs) n = ap (λ o. is_locked o || is_locked_by_any cs) (n 0) ∙ nothing_kept cs (λ i. n (suc i))

-- LOOKUPS THAT STAY

module _ {A : Type 0} (peers : List Peer) (t t' : Tables A) (w : List ℕ) where
  pub covers_stay : t'.watchers.covers ≡ t.watchers.covers → cover_of peers t' w ≡ cover_of peers t w
  covers_stay e = same_at (place_of_title peers w) None (λ p. get_or t.watchers.covers p None) (λ p. get_or t'.watchers.covers p None) (λ p. ap (λ (cs : List (Option (Cover A))). get_or cs p None) e)

  pub hows_stay : (u : List ℕ) → ((p : ℕ) → how t' p u ≡ how t p u) → how_of peers t' w u ≡ how_of peers t w u
  hows_stay u h = same_at (place_of_title peers w) None (λ p. how t p u) (λ p. how t' p u) h

  pub queues_stay : ((p : ℕ) → queue_line t' p ≡ queue_line t p) → queue_of peers t' w ≡ queue_of peers t w
  queues_stay h = same_at (place_of_title peers w) empty_line (λ p. queue_line t p) (λ p. queue_line t' p) h
