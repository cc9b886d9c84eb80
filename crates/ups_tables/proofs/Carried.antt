-- Where the tables are changed as a plan says, they stand by the history that has its entry behind the others.
use Rattle.std.proofs.Common.{◌≡◌, ◌<◌, ℕ, suc, Bool, true, false, not, ◌&&◌, ◌||◌, cond, eqb, List, [], ◌∷◌, ◌++◌, length, get_or, set, map, filter, Option, None, Some, refl, sym, ap, subst, ◌∙◌, arith, true≢false}
use Rattle.std.specs.Prelude.{is_some}
use Rattle.std.specs.Option.{option_or, option_map}
use Rattle.std.specs.Str.{bytes_eq}
use Rattle.std.proofs.lemmas.Grind.{get_or-set_at}
use Rattle.std.proofs.lemmas.List.{length-set, get_or-set_other}
use Rattle.std.proofs.lemmas.Bool.Decides.{nat_tests}
use Rattle.ups_dataset.specs.Data.{El}
use Rattle.ups_life.specs.declared.entry.Entry.{Entry}
use Rattle.ups_life.specs.declared.peer.Peer.{Peer}
use Rattle.ups_life.specs.declared.event.Report.{Report}
use Rattle.ups_life.specs.declared.request.Request.TheVariants.{Set, Unsubscribe, Sweep}
use Rattle.ups_life.specs.declared.request.Transaction.{Transaction}
use Rattle.ups_life.specs.declared.row.Row.{Row}
use Rattle.ups_life.specs.declared.watching.Place.{Place}
use Rattle.ups_life.specs.declared.watching.Place.TheVariants.{At, Everywhere}
use Rattle.ups_life.specs.declared.watching.Subscription.{Subscription}
use Rattle.ups_life.specs.declared.watching.Target.{Target}
use Rattle.ups_life.specs.declared.watching.Target.TheVariants.{Single, Global, Filtered}
use Rattle.ups_life.specs.Settings.{Settings}
use Rattle.ups_life.specs.Steps.{past, row, final_at}
use Rattle.ups_life.specs.Watching.{is_among, is_at, is_held, is_peer, granted, held, newly_covered, removed, watch}
use Rattle.ups_life.specs.Events.{as_it_is}
use Rattle.ups_life.specs.History.{legal}
use Rattle.ups_life.proofs.Past.{past-push, length-past}
use Rattle.ups_life.proofs.Texts.{same_text, text_is_itself}
use Rattle.ups_life.proofs.Accepted.{said, succeeded, legal_tail, created_fresh, on_held}
use Rattle.ups_keep.specs.declared.due.Final.{Final}
use Rattle.ups_keep.specs.Waits.{steps_of}
use Rattle.ups_tables.specs.HeldSteps.{held_step, held_steps}
use Rattle.ups_tables.specs.Live.{cover_to, cover_left, global, live, final, locked, chosen, queue, any_lock, news, newly_by, IsLive, is_of_no_step, is_of_cover, is_of_uid}
use Rattle.ups_tables.proofs.Living.{newly-covers, live_set}
use Rattle.ups_tables.proofs.Finals.{not_held}
use Rattle.ups_tables.proofs.Queueing.{queue_set}
use Rattle.ups_tables.proofs.Keeping.{global_same, used_same, after_create, after_change, after_subscribe, after_unsubscribe, after_suspend, after_ack, after_reserve, after_sweep}
use Rattle.ups_tables.proofs.Holding.{steps_same, steps_sweep}
use Rattle.ups_tables.proofs.Outside.{no_live}
use Rattle.ups_tables.proofs.Asking.{chosen_one}
use Rattle.ups_events.specs.Telling.{Line, empty_line, told, acked_to}
use Rattle.ups_watch.specs.declared.cover.Cover.{Cover}
use Rattle.ups_watch.specs.Covers.{covered}
use Rattle.ups_steps.specs.declared.held.HeldRow.{HeldRow}
use Rattle.ups_steps.proofs.Putting.{put_new}
use Rattle.ups_tables.specs.declared.tables.Tables.{Tables}
use Rattle.ups_tables.specs.Held.{held_at, put_held}
use Rattle.ups_tables.specs.Fit.{how, queue_line, uses, TablesFit}
use Rattle.ups_tables.specs.Places.{place_of_title, by_place}
use Rattle.ups_tables.specs.Stands.{cover_of, how_of, queue_of, entries_of, Lives, Stands}
use Rattle.ups_tables.specs.Planned.{PlansCreate, PlansChange, PlansSet, PlansSingle, PlansGlobal, PlansEnd, PlansEndAll, PlansSuspend, PlansAck, PlansReserve, PlansSweep, PlansIdle}
use Rattle.ups_tables.specs.Effects.{IsCreated, IsChanged, IsSubscribed, IsUnsubscribed, IsSuspended, AcknowledgesUpto, ReservesUid, IsSwept}
use Rattle.ups_tables.proofs.Fitness.{same_none}
use Rattle.ups_tables.proofs.Titled.{set_at, place_within}
use Rattle.ups_tables.proofs.Saying.{bare, held_is, put_entries, left_entries, covers_stay, hows_stay, queues_stay}
use Rattle.ups_tables.proofs.Removing.{due_is, none_due}

-- THE STEP

stands : {A : Type 0} (s : Settings) (history after : List (Entry A)) (e : Entry A) (t t' : Tables A) → Stands s history t → after ≡ history ++ e ∷ [] → legal s (e ∷ past history) ≡ true
    → t'.steps.entries ≡ entries_of (held_steps s (e ∷ past history)) → length t'.watchers.covers ≡ length t.watchers.covers → TablesFit t' → Lives s (e ∷ past history) t' → Stands s after t'
stands {A} s history after e t t' old is l steps covers fits lives =
    let now : e ∷ past history ≡ past after = sym (ap past is ∙ past-push history e) in
    record {
      legal = sym (ap (legal s) now) ∙ l;
      titles = old.titles;
      peers = covers ∙ old.peers;
      fits = fits;
      steps = steps ∙ ap (λ es. entries_of (held_steps s es)) now;
      lives = subst (λ (es : List (Entry A)). Lives s es t') now lives;
    }

to_live : {A : Type 0} (s : Settings) (es : List (Entry A)) (t : Tables A) → Lives s es t → IsLive s es (cover_of s.peers t) (how_of s.peers t) (final s es) (locked s es) (queue_of s.peers t) (uses t)
to_live s es t l = record { covers = l.covers; pairs = l.pairs; finals = λ u. refl; locks = λ u. refl; queues = l.queues; used = l.used }

from_live : {A : Type 0} (s : Settings) (es : List (Entry A)) (t : Tables A) (fin : List ℕ → Option ℕ) (lck : List ℕ → Bool) → IsLive s es (cover_of s.peers t) (how_of s.peers t) fin lck (queue_of s.peers t) (uses t) → Lives s es t
from_live s es t fin lck l = record { covers = l.covers; pairs = l.pairs; queues = l.queues; used = l.used }

-- those that watch a step are told
told_at : (o : Option ℕ) (has : ℕ → Option Subscription) (place : ℕ) (xs : List Report) (qs qs' : ℕ → Line) → ((p : ℕ) → qs' p ≡ cond (is_some (has p)) (told place xs (qs p)) (qs p))
    → by_place empty_line (λ p. qs' p) o ≡ cond (is_some (by_place None has o)) (told place xs (by_place empty_line (λ p. qs p) o)) (by_place empty_line (λ p. qs p) o)
told_at None has place xs qs qs' h = refl
told_at (Some p) has place xs qs qs' h = h p

-- A STEP IS CREATED

created_at : {A : Type 0} (o : Option ℕ) (b : Bool) (attributes : List El) (cs : ℕ → Option (Cover A)) (f f' : ℕ → Option Subscription) → ((p : ℕ) → f' p ≡ cond b (covered (cs p) attributes) (f p))
    → by_place None f' o ≡ cond b (covered (by_place None cs o) attributes) (by_place None f o)
created_at None b attributes cs f f' h = sym (same_none b None)
created_at (Some p) b attributes cs f f' h = h p

module _ {A : Type 0} (s : Settings) (history after : List (Entry A)) (e : Entry A) (t t' : Tables A) (old : Stands s history t) (is : after ≡ history ++ e ∷ []) (l : legal s (e ∷ past history) ≡ true) (place : ℕ) (at : place ≡ length history) where
  here_is : place ≡ length (past history)
  here_is = at ∙ sym (length-past history)

  pub fresh_step : (step : List ℕ) (held : HeldRow A) (told : List Report) → PlansCreate s (past history) e step held told → held_at step t.steps.entries ≡ None
  fresh_step step held told p =
      held_is s history t old step ∙ ap (λ b. cond b (Some (bare (held_step s (past history) step))) None) (not_held s (past history) step (created_fresh s (past history) step p.attributes (sym (ap (said s (past history)) p.request) ∙ succeeded s e (past history) l)))

  pub stands_create : (step : List ℕ) (held : HeldRow A) (told lent : List Report) → PlansCreate s (past history) e step held told → lent ≡ told → IsCreated place step held lent t t' → TablesFit t' → Stands s after t'
  stands_create step held told lent p same c0 fits =
      let c1 : IsCreated (length (past history)) step held lent t t' = subst (λ (n : ℕ). IsCreated n step held lent t t') here_is c0 in
      let c : IsCreated (length (past history)) step held (news s (past history) e step) t t' = subst (λ (xs : List Report). IsCreated (length (past history)) step held xs t t') (same ∙ p.on.news) c1 in
      stands s history after e t t' old is l
      (c.steps ∙ sym (put_new step held t.steps.entries (fresh_step step held told p)) ∙ ap (put_held step held) old.steps ∙ put_entries step held (held_steps s (past history)) ∙ ap entries_of p.on.steps)
      (ap length c.covers) fits
      (from_live s (e ∷ past history) t' _ _
      (after_create s e (past history) step p.attributes (cover_of s.peers t) (cover_of s.peers t') (how_of s.peers t) (how_of s.peers t') (final s (past history)) (final s (past history)) (locked s (past history))
      (λ u. cond (bytes_eq step u) (any_lock s.peers (how_of s.peers t') u) (locked s (past history) u)) (queue_of s.peers t) (queue_of s.peers t') (uses t) (uses t') (to_live s (past history) t old.lives) l p.request
      (λ w. covers_stay s.peers t t' w c.covers)
      (λ w u. created_at (place_of_title s.peers w) (bytes_eq step u) held.row.attributes (λ q. get_or t.watchers.covers q None) (λ q. how t q u) (λ q. how t' q u) (λ q. c.hows q u)
      ∙ ap (λ (r : List El). cond (bytes_eq step u) (covered (cover_of s.peers t w) r) (how_of s.peers t w u)) (ap (λ (r : Row A). r.attributes) p.on.row))
      (λ u. refl) (λ u. refl)
      (λ w. told_at (place_of_title s.peers w) (λ q. how t' q step) (length (past history)) (news s (past history) e step) (queue_line t) (queue_line t') c.queues)
      c.used))

  -- WHAT IS HELD OF A STEP CHANGES

  pub stands_change : (step : List ℕ) (held : HeldRow A) (told lent : List Report) (newly : List (Option Subscription)) (first : List Report) → PlansChange s (past history) e step held told → lent ≡ told → newly ≡ [] → IsChanged place step held lent newly first t t' → TablesFit t' → Stands s after t'
  stands_change step held told lent newly first p same none c0 fits =
      let c1 : IsChanged (length (past history)) step held lent newly first t t' = subst (λ (n : ℕ). IsChanged n step held lent newly first t t') here_is c0 in
      let c2 : IsChanged (length (past history)) step held lent [] first t t' = subst (λ (ns : List (Option Subscription)). IsChanged (length (past history)) step held lent ns first t t') none c1 in
      let c : IsChanged (length (past history)) step held (news s (past history) e step) [] first t t' = subst (λ (xs : List Report). IsChanged (length (past history)) step held xs [] first t t') (same ∙ p.on.news) c2 in
      stands s history after e t t' old is l
      (c.steps ∙ ap (put_held step held) old.steps ∙ put_entries step held (held_steps s (past history)) ∙ ap entries_of p.on.steps)
      (ap length c.covers) fits
      (from_live s (e ∷ past history) t' _ _
      (after_change s e (past history) step (cover_of s.peers t) (cover_of s.peers t') (how_of s.peers t) (how_of s.peers t') (final s (past history)) (λ u. cond (bytes_eq step u) (final_at (e ∷ past history) step) (final s (past history) u))
      (locked s (past history)) (locked s (past history)) (queue_of s.peers t) (queue_of s.peers t') (uses t) (uses t') (to_live s (past history) t old.lives) l p.request p.old
      (λ w. covers_stay s.peers t t' w c.covers)
      (λ w u. hows_stay s.peers t t' w u (λ q. c.hows q u ∙ ap (λ o. cond (bytes_eq step u) o (how t q u)) (or_none (how t q u)) ∙ same_none (bytes_eq step u) (how t q u)))
      (λ u. refl) (λ u. refl)
      (λ w. told_at (place_of_title s.peers w) (λ q. how t q step) (length (past history)) (news s (past history) e step) (queue_line t) (queue_line t') (λ q. c.queues q))
      c.used))
    where
      or_none : {X : Type 0} (o : Option X) → option_or o None ≡ o
      or_none None = refl
      or_none (Some x) = refl

  -- ATTRIBUTES ARE SET

  set_held : (transaction : Transaction) (attributes : List El) (step : List ℕ) → e.request ≡ Set (Some step) transaction attributes → is_held s (past history) step ≡ true
  set_held transaction attributes step r = on_held s (past history) step (Set (Some step) transaction attributes) (sym (ap (said s (past history)) r) ∙ succeeded s e (past history) l) (text_is_itself step) refl

  -- who is no peer watches nothing
  out : (w : List ℕ) → place_of_title s.peers w ≡ None → is_peer s.peers w ≡ false
  out w none = by s.peers none
    where
      by : (ps : List Peer) → place_of_title ps w ≡ None → is_peer ps w ≡ false
      by [] h = refl
      by (q ∷ qs) h = one (bytes_eq q.ae w) h (by qs)
        where
          one : (b : Bool) → cond b (Some 0) (option_map suc (place_of_title qs w)) ≡ None → (place_of_title qs w ≡ None → is_peer qs w ≡ false) → (b || is_peer qs w) ≡ false
          one true h rest = absurd cc
          one false h rest = rest (none_of (place_of_title qs w) h)
            where
              none_of : (o : Option ℕ) → option_map suc o ≡ None → o ≡ None
              none_of None h = refl
              none_of (Some k) h = absurd cc

  covered_then : (w : List ℕ) (step : List ℕ) (c : Option (Cover A)) → c ≡ global s.peers (past history) w → newly_by c (row s (past history) step) (row s (e ∷ past history) step) ≡ newly_covered s (past history) e w step
  covered_then w step c same =
      ap (λ (k : Option (Cover A)). newly_by k (row s (past history) step) (row s (e ∷ past history) step)) same ∙ sym (newly-covers s e (past history) w step)

  first_of_two : (o : Option Subscription) (x : Option Subscription) → option_or o (cond (is_some o) None x) ≡ option_or o x
  first_of_two None x = refl
  first_of_two (Some y) x = refl

  set_pairs : (step : List ℕ) (held : HeldRow A) (newly : List (Option Subscription)) (transaction : Transaction) (attributes : List El) → e.request ≡ Set (Some step) transaction attributes → is_held s (past history) step ≡ true
      → held.row.attributes ≡ row s (e ∷ past history) step
      → ((q : ℕ) → get_or newly q None ≡ cond (is_some (how t q step)) None (newly_by (get_or t.watchers.covers q None) (row s (past history) step) held.row.attributes))
      → ((q : ℕ) (u : List ℕ) → how t' q u ≡ cond (bytes_eq step u) (option_or (how t q u) (get_or newly q None)) (how t q u))
      → (w u : List ℕ) → how_of s.peers t' w u ≡ live s (e ∷ past history) w u
  set_pairs step held newly transaction attributes r here now_is newly_is hows w u = by (place_of_title s.peers w) refl
    where
      by : (o : Option ℕ) → place_of_title s.peers w ≡ o → how_of s.peers t' w u ≡ live s (e ∷ past history) w u
      by None none = ap (by_place None (λ q. how t' q u)) none ∙ sym (no_live s (e ∷ past history) w u (out w none) l)
      by (Some q) some =
          ap (by_place None (λ q. how t' q u)) some ∙ hows q u
          ∙ chosen_at (bytes_eq step u) refl
          ∙ sym (live_set s e (past history) w u step transaction attributes r here)
        where
          live_at : (v : List ℕ) → how t q v ≡ live s (past history) w v
          live_at v = sym (ap (by_place None (λ q. how t q v)) some) ∙ old.lives.pairs w v

          cover_at : get_or t.watchers.covers q None ≡ global s.peers (past history) w
          cover_at = sym (ap (by_place None (λ q. get_or t.watchers.covers q None)) some) ∙ old.lives.covers w

          chosen_at : (b : Bool) → bytes_eq step u ≡ b → cond b (option_or (how t q u) (get_or newly q None)) (how t q u) ≡ cond b (option_or (live s (past history) w u) (newly_covered s (past history) e w u)) (live s (past history) w u)
          chosen_at false d = live_at u
          chosen_at true d =
              ap (option_or (how t q u)) (newly_is q ∙ ap (λ v. cond (is_some (how t q v)) None (newly_by (get_or t.watchers.covers q None) (row s (past history) step) held.row.attributes)) (same_text step u d))
              ∙ first_of_two (how t q u) (newly_by (get_or t.watchers.covers q None) (row s (past history) step) held.row.attributes)
              ∙ ap (λ (set : List El). option_or (how t q u) (newly_by (get_or t.watchers.covers q None) (row s (past history) step) set)) now_is
              ∙ ap (option_or (how t q u)) (covered_then w step (get_or t.watchers.covers q None) cover_at ∙ ap (newly_covered s (past history) e w) (same_text step u d))
              ∙ ap (λ o. option_or o (newly_covered s (past history) e w u)) (live_at u)

  set_queues : (step : List ℕ) (held : HeldRow A) (newly : List (Option Subscription)) (transaction : Transaction) (attributes : List El) → e.request ≡ Set (Some step) transaction attributes → is_held s (past history) step ≡ true
      → ((q : ℕ) → get_or newly q None ≡ cond (is_some (how t q step)) None (newly_by (get_or t.watchers.covers q None) (row s (past history) step) held.row.attributes))
      → ((q : ℕ) (u : List ℕ) → how t' q u ≡ cond (bytes_eq step u) (option_or (how t q u) (get_or newly q None)) (how t q u))
      → ((q : ℕ) → queue_line t' q ≡ cond (is_some (how t q step)) (told (length (past history)) (news s (past history) e step) (queue_line t q)) (cond (is_some (get_or newly q None)) (told (length (past history)) (as_it_is s (e ∷ past history) step ∷ []) (queue_line t q)) (queue_line t q)))
      → ((w u : List ℕ) → how_of s.peers t' w u ≡ live s (e ∷ past history) w u)
      → (w : List ℕ) → queue_of s.peers t' w ≡ queue s (e ∷ past history) w
  set_queues step held newly transaction attributes r here newly_is hows queues pairs_are w = by (place_of_title s.peers w) refl ∙ sym (queue_set s e (past history) w step transaction attributes l r here)
    where
      by : (o : Option ℕ) → place_of_title s.peers w ≡ o → queue_of s.peers t' w ≡ cond (is_some (live s (past history) w step)) (told (length (past history)) (news s (past history) e step) (queue s (past history) w))
          (cond (is_some (live s (e ∷ past history) w step)) (told (length (past history)) (as_it_is s (e ∷ past history) step ∷ []) (queue s (past history) w)) (queue s (past history) w))
      by None none =
          ap (by_place empty_line (λ q. queue_line t' q)) none ∙ sym (ap (by_place empty_line (λ q. queue_line t q)) none) ∙ old.lives.queues w
          ∙ sym (ap (λ o. cond (is_some o) (told (length (past history)) (news s (past history) e step) (queue s (past history) w))
          (cond (is_some (live s (e ∷ past history) w step)) (told (length (past history)) (as_it_is s (e ∷ past history) step ∷ []) (queue s (past history) w)) (queue s (past history) w))) (no_live s (past history) w step (out w none) (legal_tail s e (past history) l))
          ∙ ap (λ o. cond (is_some o) (told (length (past history)) (as_it_is s (e ∷ past history) step ∷ []) (queue s (past history) w)) (queue s (past history) w)) (no_live s (e ∷ past history) w step (out w none) l))
      by (Some q) some =
          ap (by_place empty_line (λ q. queue_line t' q)) some ∙ queues q
          ∙ ap (λ k. cond (is_some (how t q step)) (told (length (past history)) (news s (past history) e step) k) (cond (is_some (get_or newly q None)) (told (length (past history)) (as_it_is s (e ∷ past history) step ∷ []) k) k)) (sym (ap (by_place empty_line (λ q. queue_line t q)) some) ∙ old.lives.queues w)
          ∙ either (how t q step) (get_or newly q None) how_is now_is
        where
          how_is : how t q step ≡ live s (past history) w step
          how_is = sym (ap (by_place None (λ q. how t q step)) some) ∙ old.lives.pairs w step

          now_is : option_or (how t q step) (get_or newly q None) ≡ live s (e ∷ past history) w step
          now_is = sym (hows q step ∙ ap (λ b. cond b (option_or (how t q step) (get_or newly q None)) (how t q step)) (text_is_itself step)) ∙ sym (ap (by_place None (λ q. how t' q step)) some) ∙ pairs_are w step

          either : (o x : Option Subscription) → o ≡ live s (past history) w step → option_or o x ≡ live s (e ∷ past history) w step
              → cond (is_some o) (told (length (past history)) (news s (past history) e step) (queue s (past history) w)) (cond (is_some x) (told (length (past history)) (as_it_is s (e ∷ past history) step ∷ []) (queue s (past history) w)) (queue s (past history) w))
              ≡ cond (is_some (live s (past history) w step)) (told (length (past history)) (news s (past history) e step) (queue s (past history) w))
              (cond (is_some (live s (e ∷ past history) w step)) (told (length (past history)) (as_it_is s (e ∷ past history) step ∷ []) (queue s (past history) w)) (queue s (past history) w))
          either (Some y) x f g = ap (λ k. cond (is_some k) (told (length (past history)) (news s (past history) e step) (queue s (past history) w))
              (cond (is_some (live s (e ∷ past history) w step)) (told (length (past history)) (as_it_is s (e ∷ past history) step ∷ []) (queue s (past history) w)) (queue s (past history) w))) f
          either None x f g =
              ap (λ k. cond (is_some k) (told (length (past history)) (as_it_is s (e ∷ past history) step ∷ []) (queue s (past history) w)) (queue s (past history) w)) g
              ∙ ap (λ k. cond (is_some k) (told (length (past history)) (news s (past history) e step) (queue s (past history) w))
              (cond (is_some (live s (e ∷ past history) w step)) (told (length (past history)) (as_it_is s (e ∷ past history) step ∷ []) (queue s (past history) w)) (queue s (past history) w))) f

  pub stands_set : (step : List ℕ) (held : HeldRow A) (told lent : List Report) (newly lent_newly : List (Option Subscription)) (first lent_first : List Report) → PlansSet s (past history) e t step held told newly first → lent ≡ told → lent_newly ≡ newly → lent_first ≡ first
      → IsChanged place step held lent lent_newly lent_first t t' → TablesFit t' → Stands s after t'
  stands_set step held told lent newly lent_newly first lent_first p same same_newly same_first c0 fits =
      let c1 : IsChanged (length (past history)) step held lent lent_newly lent_first t t' = subst (λ (n : ℕ). IsChanged n step held lent lent_newly lent_first t t') here_is c0 in
      let c2 : IsChanged (length (past history)) step held lent newly lent_first t t' = subst (λ (ns : List (Option Subscription)). IsChanged (length (past history)) step held lent ns lent_first t t') same_newly c1 in
      let c3 : IsChanged (length (past history)) step held (news s (past history) e step) newly lent_first t t' = subst (λ (xs : List Report). IsChanged (length (past history)) step held xs newly lent_first t t') (same ∙ p.on.news) c2 in
      let c : IsChanged (length (past history)) step held (news s (past history) e step) newly (as_it_is s (e ∷ past history) step ∷ []) t t' = subst (λ (xs : List Report). IsChanged (length (past history)) step held (news s (past history) e step) newly xs t t') (same_first ∙ p.first_is) c3 in
      let here : is_held s (past history) step ≡ true = set_held p.transaction p.attributes step p.request in
      let pairs_are = set_pairs step held newly p.transaction p.attributes p.request here (ap (λ (r : Row A). r.attributes) p.on.row) (λ q. p.newly_are q) c.hows in
      stands s history after e t t' old is l
      (c.steps ∙ ap (put_held step held) old.steps ∙ put_entries step held (held_steps s (past history)) ∙ ap entries_of p.on.steps)
      (ap length c.covers) fits
      (record {
        covers = λ w. covers_stay s.peers t t' w c.covers ∙ old.lives.covers w ∙ sym (global_same s.peers e (past history) w (ap is_of_cover p.request));
        pairs = pairs_are;
        queues = λ w. set_queues step held newly p.transaction p.attributes p.request here (λ q. p.newly_are q) c.hows c.queues pairs_are w;
        used = λ u. c.used u ∙ old.lives.used u ∙ sym (used_same e (past history) u (ap is_of_uid p.request));
      })

  -- A WATCHER IS SUBSCRIBED

  and_true : (b : Bool) → (b && true) ≡ b
  and_true true = refl
  and_true false = refl

  -- a change at a peer's place is a change at its title
  one_at : {X : Type 0} (receiver w : List ℕ) (peer : ℕ) (none : X) (x : X → X) (f f' : ℕ → X) → place_of_title s.peers receiver ≡ Some peer → ((q : ℕ) → f' q ≡ cond (eqb peer q) (x (f q)) (f q))
      → by_place none f' (place_of_title s.peers w) ≡ cond (bytes_eq receiver w) (x (by_place none f (place_of_title s.peers w))) (by_place none f (place_of_title s.peers w))
  one_at receiver w peer none x f f' here step =
      set_at s.peers receiver w peer none x true f f' here (λ q. step q ∙ ap (λ b. cond b (x (f q)) (f q)) (sym (and_true (eqb peer q))))
      ∙ ap (λ b. cond b (x (by_place none f (place_of_title s.peers w))) (by_place none f (place_of_title s.peers w))) (and_true (bytes_eq receiver w))

  set_covers : (peer : ℕ) (c : Option (Cover A)) (receiver w : List ℕ) → place_of_title s.peers receiver ≡ Some peer → t'.watchers.covers ≡ set t.watchers.covers peer c → cover_of s.peers t' w ≡ cond (bytes_eq receiver w) c (cover_of s.peers t w)
  set_covers peer c receiver w here covers =
      one_at receiver w peer None (λ k. c) (λ q. get_or t.watchers.covers q None) (λ q. get_or t'.watchers.covers q None) here
      (λ q. ap (λ (cs : List (Option (Cover A))). get_or cs q None) covers ∙ placed q)
    where
      within : peer < length t.watchers.covers
      within = let n = place_within s.peers receiver peer here in let m = old.peers in omega (arith, n, m)

      placed : (q : ℕ) → get_or (set t.watchers.covers peer c) q None ≡ cond (eqb peer q) c (get_or t.watchers.covers q None)
      placed q = grind (arith, nat_tests, get_or-set_at t.watchers.covers peer q c None, get_or-set_other t.watchers.covers peer q c None, within)

  tell_one : (peer : ℕ) (receiver w : List ℕ) (xs : List Report) → place_of_title s.peers receiver ≡ Some peer → ((q : ℕ) → queue_line t' q ≡ cond (eqb peer q) (told (length (past history)) xs (queue_line t q)) (queue_line t q))
      → queue_of s.peers t' w ≡ cond (bytes_eq receiver w) (told (length (past history)) xs (queue_of s.peers t w)) (queue_of s.peers t w)
  tell_one peer receiver w xs here queues =
      one_at receiver w peer empty_line (told (length (past history)) xs) (λ q. queue_line t q) (λ q. queue_line t' q) here queues

  pub stands_single : (peer : ℕ) (step : List ℕ) (subscription : Subscription) (told lent : List Report) → PlansSingle s (past history) e peer step subscription told → lent ≡ told
      → IsSubscribed place peer subscription None (step ∷ []) lent t t' → TablesFit t' → Stands s after t'
  stands_single peer step subscription told lent p same c0 fits =
      let target : Target A = Single (Some step) in
      let g = granted s.peers p.receiver p.lock in
      let one : chosen s (past history) target ≡ step ∷ [] = chosen_one s (past history) step old.legal p.here in
      let c1 : IsSubscribed (length (past history)) peer subscription None (step ∷ []) lent t t' = subst (λ (n : ℕ). IsSubscribed n peer subscription None (step ∷ []) lent t t') here_is c0 in
      let c2 : IsSubscribed (length (past history)) peer g None (step ∷ []) lent t t' = subst (λ (h : Subscription). IsSubscribed (length (past history)) peer h None (step ∷ []) lent t t') p.how_is c1 in
      let c3 : IsSubscribed (length (past history)) peer g None (step ∷ []) (map (as_it_is s (past history)) (step ∷ [])) t t' = subst (λ (xs : List Report). IsSubscribed (length (past history)) peer g None (step ∷ []) xs t t') (same ∙ p.news) c2 in
      let c : IsSubscribed (length (past history)) peer g None (chosen s (past history) target) (map (as_it_is s (past history)) (chosen s (past history) target)) t t' =
      subst (λ (us : List (List ℕ)). IsSubscribed (length (past history)) peer g None us (map (as_it_is s (past history)) us) t t') (sym one) c3 in
      stands s history after e t t' old is l (c.steps ∙ old.steps ∙ ap entries_of (sym (steps_same s e (past history) (ap is_of_no_step p.request)))) (ap length c.covers) fits
      (from_live s (e ∷ past history) t' _ _
      (after_subscribe s e (past history) target p.receiver p.lock (cover_of s.peers t) (cover_of s.peers t') (how_of s.peers t) (how_of s.peers t') (final s (past history)) (final s (past history)) (locked s (past history))
      (λ u. cond (is_among u (chosen s (past history) target)) (any_lock s.peers (how_of s.peers t') u) (locked s (past history) u)) (queue_of s.peers t) (queue_of s.peers t') (uses t) (uses t') (to_live s (past history) t old.lives) l p.request
      (λ w. covers_stay s.peers t t' w c.covers ∙ sym (same_none (bytes_eq p.receiver w) (cover_of s.peers t w)))
      (λ w u. set_at s.peers p.receiver w peer None (λ k. Some g) (is_among u (chosen s (past history) target)) (λ q. how t q u) (λ q. how t' q u) p.place (λ q. c.hows q u))
      (λ u. refl) (λ u. refl) (λ w. tell_one peer p.receiver w (map (as_it_is s (past history)) (chosen s (past history) target)) p.place c.queues) c.used))

  pub stands_global : (peer : ℕ) (k : Cover A) (steps lent_steps : List (List ℕ)) (freed : List Final) (told lent : List Report) → PlansGlobal s (past history) e t peer k steps freed told → lent_steps ≡ steps → lent ≡ told
      → IsSubscribed place peer k.subscription (Some k) lent_steps lent t t' → TablesFit t' → Stands s after t'
  stands_global peer k steps lent_steps freed told lent p same_steps same c0 fits =
      let g = granted s.peers p.receiver p.lock in
      let us = chosen s (past history) p.target in
      let c1 : IsSubscribed (length (past history)) peer k.subscription (Some k) lent_steps lent t t' = subst (λ (n : ℕ). IsSubscribed n peer k.subscription (Some k) lent_steps lent t t') here_is c0 in
      let c2 : IsSubscribed (length (past history)) peer k.subscription (Some k) us lent t t' = subst (λ (vs : List (List ℕ)). IsSubscribed (length (past history)) peer k.subscription (Some k) vs lent t t') (same_steps ∙ p.steps_are) c1 in
      let c : IsSubscribed (length (past history)) peer k.subscription (Some k) us (map (as_it_is s (past history)) us) t t' = subst (λ (xs : List Report). IsSubscribed (length (past history)) peer k.subscription (Some k) us xs t t') (same ∙ p.news) c2 in
      let how_is : k.subscription ≡ g = subscribes p.target g k p.cover_is in
      stands s history after e t t' old is l (c.steps ∙ old.steps ∙ ap entries_of (sym (steps_same s e (past history) (ap is_of_no_step p.request)))) (ap length c.covers ∙ length-set t.watchers.covers peer (Some k)) fits
      (from_live s (e ∷ past history) t' _ _
      (after_subscribe s e (past history) p.target p.receiver p.lock (cover_of s.peers t) (cover_of s.peers t') (how_of s.peers t) (how_of s.peers t') (final s (past history)) (final s (past history)) (locked s (past history))
      (λ u. cond (is_among u us) (any_lock s.peers (how_of s.peers t') u) (locked s (past history) u)) (queue_of s.peers t) (queue_of s.peers t') (uses t) (uses t') (to_live s (past history) t old.lives) l p.request
      (λ w. set_covers peer (Some k) p.receiver w p.place c.covers ∙ ap (λ (x : Option (Cover A)). cond (bytes_eq p.receiver w) x (cover_of s.peers t w)) (covers_so (cover_to p.target g) k (cover_of s.peers t w) p.cover_is))
      (λ w u. set_at s.peers p.receiver w peer None (λ x. Some k.subscription) (is_among u us) (λ q. how t q u) (λ q. how t' q u) p.place (λ q. c.hows q u)
      ∙ ap (λ (h : Subscription). cond (bytes_eq p.receiver w && is_among u us) (Some h) (how_of s.peers t w u)) how_is)
      (λ u. refl) (λ u. refl) (λ w. tell_one peer p.receiver w (map (as_it_is s (past history)) us) p.place c.queues) c.used))
    where
      covers_so : (o : Option (Cover A)) (k : Cover A) (before : Option (Cover A)) → Some k ≡ o → Some k ≡ option_or o before
      covers_so None k before h = absurd cc
      covers_so (Some c) k before h = h

      subscribes : (target : Target A) (g : Subscription) (k : Cover A) → Some k ≡ cover_to target g → k.subscription ≡ g
      subscribes (Single step) g k h = absurd cc
      subscribes Global g k h = ap (λ (o : Option (Cover A)). from o) h
        where
          from : Option (Cover A) → Subscription
          from None = g
          from (Some c) = c.subscription
      subscribes (Filtered keys) g k h = ap (λ (o : Option (Cover A)). from o) h
        where
          from : Option (Cover A) → Subscription
          from None = g
          from (Some c) = c.subscription

  -- SUBSCRIPTIONS END

  module _ (peer : ℕ) (receiver : List ℕ) (place_ended : Place) (here : place_of_title s.peers receiver ≡ Some peer) (request : e.request ≡ Unsubscribe place_ended receiver) (c : IsUnsubscribed peer place_ended t t') (fits : TablesFit t') where
    at_held : (u : List ℕ) → is_at place_ended u ≡ true → is_some (how_of s.peers t receiver u) ≡ true → is_among u (held s (past history)) ≡ true
    at_held u ends has = by (is_held s (past history) u) refl (sym (ap is_some (old.lives.pairs receiver u)) ∙ has)
      where
        by : (b : Bool) → is_held s (past history) u ≡ b → is_some (cond b (watch s (past history) receiver u) None) ≡ true → is_held s (past history) u ≡ true
        by true h g = h
        by false h g = absurd (true≢false (sym g))

    pub stands_ended : ((w : List ℕ) → cover_of s.peers t' w ≡ cond (bytes_eq receiver w) (cover_left place_ended (cover_of s.peers t w)) (cover_of s.peers t w)) → length t'.watchers.covers ≡ length t.watchers.covers → Stands s after t'
    stands_ended covers len =
        stands s history after e t t' old is l (c.steps ∙ old.steps ∙ ap entries_of (sym (steps_same s e (past history) (ap is_of_no_step request)))) len fits
        (from_live s (e ∷ past history) t' _ _
        (after_unsubscribe s e (past history) place_ended receiver (held s (past history)) (cover_of s.peers t) (cover_of s.peers t') (how_of s.peers t) (how_of s.peers t') (final s (past history)) (final s (past history)) (locked s (past history))
        (λ u. cond (is_among u (held s (past history))) (any_lock s.peers (how_of s.peers t') u) (locked s (past history) u)) (queue_of s.peers t) (queue_of s.peers t') (uses t) (uses t') (to_live s (past history) t old.lives) l request at_held
        covers
        (λ w u. set_at s.peers receiver w peer None (λ k. None) (is_at place_ended u) (λ q. how t q u) (λ q. how t' q u) here (λ q. c.hows q u))
        (λ u. refl) (λ u. refl) (λ w. queues_stay s.peers t t' w c.queues) c.used))

  pub stands_end : (peer : ℕ) (step : List ℕ) → PlansEnd s e peer step → IsUnsubscribed peer (At (Some step)) t t' → TablesFit t' → Stands s after t'
  stands_end peer step p c fits =
      stands_ended peer p.receiver (At (Some step)) p.place p.request c fits (λ w. covers_stay s.peers t t' w c.covers ∙ sym (same_none (bytes_eq p.receiver w) (cover_of s.peers t w))) (ap length c.covers)

  pub stands_end_all : (peer : ℕ) (freed : List Final) → PlansEndAll s e t peer freed → IsUnsubscribed peer Everywhere t t' → TablesFit t' → Stands s after t'
  stands_end_all peer freed p c fits =
      stands_ended peer p.receiver Everywhere p.place p.request c fits (λ w. set_covers peer None p.receiver w p.place c.covers) (ap length c.covers ∙ length-set t.watchers.covers peer None)

  pub stands_suspend : (peer : ℕ) → PlansSuspend s e peer → IsSuspended peer t t' → TablesFit t' → Stands s after t'
  stands_suspend peer p c fits =
      stands s history after e t t' old is l (c.steps ∙ old.steps ∙ ap entries_of (sym (steps_same s e (past history) (ap is_of_no_step p.request)))) (ap length c.covers ∙ length-set t.watchers.covers peer None) fits
      (from_live s (e ∷ past history) t' _ _
      (after_suspend s e (past history) p.receiver (cover_of s.peers t) (cover_of s.peers t') (how_of s.peers t) (how_of s.peers t') (final s (past history)) (final s (past history)) (locked s (past history)) (locked s (past history))
      (queue_of s.peers t) (queue_of s.peers t') (uses t) (uses t') (to_live s (past history) t old.lives) l p.request
      (λ w. set_covers peer None p.receiver w p.place c.covers) (λ w u. hows_stay s.peers t t' w u (λ q. c.hows q u)) (λ u. refl) (λ u. refl) (λ w. queues_stay s.peers t t' w c.queues) c.used))

  pub stands_ack : (peer upto : ℕ) → PlansAck s e t peer upto → AcknowledgesUpto peer upto t t' → TablesFit t' → Stands s after t'
  stands_ack peer upto p c fits =
      stands s history after e t t' old is l (c.steps ∙ old.steps ∙ ap entries_of (sym (steps_same s e (past history) (ap is_of_no_step p.request)))) (ap length c.covers) fits
      (from_live s (e ∷ past history) t' _ _
      (after_ack s e (past history) upto (cover_of s.peers t) (cover_of s.peers t') (how_of s.peers t) (how_of s.peers t') (final s (past history)) (final s (past history)) (locked s (past history)) (locked s (past history))
      (queue_of s.peers t) (queue_of s.peers t') (uses t) (uses t') (to_live s (past history) t old.lives) l p.request
      (λ w. covers_stay s.peers t t' w c.covers) (λ w u. hows_stay s.peers t t' w u (λ q. c.hows q u)) (λ u. refl) (λ u. refl)
      (λ w. one_at e.ae w peer empty_line (acked_to upto) (λ q. queue_line t q) (λ q. queue_line t' q) p.place (λ q. c.queues q))
      c.used))

  -- A UID IS RESERVED

  pub stands_reserve : (step : List ℕ) → PlansReserve e step → ReservesUid step t t' → TablesFit t' → Stands s after t'
  stands_reserve step p c fits =
      stands s history after e t t' old is l (c.steps ∙ old.steps ∙ ap entries_of (sym (steps_same s e (past history) (ap is_of_no_step p.request)))) (ap length c.covers) fits
      (from_live s (e ∷ past history) t' _ _
      (after_reserve s e (past history) step (cover_of s.peers t) (cover_of s.peers t') (how_of s.peers t) (how_of s.peers t') (final s (past history)) (final s (past history)) (locked s (past history)) (locked s (past history))
      (queue_of s.peers t) (queue_of s.peers t') (uses t) (uses t') (to_live s (past history) t old.lives) l p.request
      (λ w. covers_stay s.peers t t' w c.covers) (λ w u. hows_stay s.peers t t' w u (λ q. c.hows q u)) (λ u. refl) (λ u. refl) (λ w. queues_stay s.peers t t' w c.queues) c.used))

  -- A SWEEP

  module _ (due : List (List ℕ)) (request : e.request ≡ Sweep) (gone : (u : List ℕ) → is_among u due ≡ is_among u (removed s (past history) e.moment)) (c : IsSwept due t t') (fits : TablesFit t') where
    swept_at : (o : Option ℕ) (b : Bool) (f f' : ℕ → Option Subscription) → ((q : ℕ) → f' q ≡ cond b None (f q)) → by_place None f' o ≡ cond b None (by_place None f o)
    swept_at None b f f' h = sym (same_none b None)
    swept_at (Some q) b f f' h = h q

    pub stands_swept : Stands s after t'
    stands_swept =
        stands s history after e t t' old is l
        (c.steps ∙ ap (filter (λ (x : List ℕ × HeldRow A). not (is_among x.0 due))) old.steps ∙ left_entries (λ u. not (is_among u due)) (held_steps s (past history)) ∙ ap entries_of (steps_sweep s e (past history) due (held_steps s (past history)) request gone refl))
        (ap length c.covers) fits
        (from_live s (e ∷ past history) t' _ _
        (after_sweep s e (past history) due (cover_of s.peers t) (cover_of s.peers t') (how_of s.peers t) (how_of s.peers t') (final s (past history)) (λ u. cond (is_among u due) None (final s (past history) u))
        (locked s (past history)) (λ u. cond (is_among u due) false (locked s (past history) u)) (queue_of s.peers t) (queue_of s.peers t') (uses t) (uses t') (to_live s (past history) t old.lives) l request gone
        (λ w. covers_stay s.peers t t' w c.covers) (λ w u. swept_at (place_of_title s.peers w) (is_among u due) (λ q. how t q u) (λ q. how t' q u) (λ q. c.hows q u)) (λ u. refl) (λ u. refl) (λ w. queues_stay s.peers t t' w c.queues) c.used))

  pub stands_sweep : (due lent : List Final) (moment : ℕ) → PlansSweep s e t due moment → lent ≡ due → IsSwept (steps_of lent) t t' → TablesFit t' → Stands s after t'
  stands_sweep due lent moment p same c fits = stands_swept (steps_of lent) p.request (λ u. ap (λ xs. is_among u (steps_of xs)) same ∙ due_is s history t old e due moment p u) c fits

-- nothing is due
pub stands_idle : {A : Type 0} (s : Settings) (history after : List (Entry A)) (e : Entry A) (t : Tables A) → Stands s history t → after ≡ history ++ e ∷ [] → legal s (e ∷ past history) ≡ true → PlansIdle s e t → Stands s after t
stands_idle {A} s history after e t old is l p =
    stands_swept s history after e t t old is l (length history) refl [] p.request (λ u. sym (none_due s history t old e p u)) (record {
      steps = sym (all_stay t.steps.entries);
      used = λ u. refl;
      covers = refl;
      hows = λ q u. refl;
      queues = λ q. refl;
    }) old.fits
  where
    all_stay : (xs : List (List ℕ × HeldRow A)) → filter (λ (x : List ℕ × HeldRow A). true) xs ≡ xs
    all_stay [] = refl
    all_stay (x ∷ xs) = ap (λ r. x ∷ r) (all_stay xs)
