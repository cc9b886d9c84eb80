-- What a plan that is right gives to those that carry it out: their premises, and the room that they need.
use Rattle.std.proofs.Common.{◌≡◌, ◌<◌, ℕ, Bool, true, false, ◌&&◌, ◌||◌, cond, List, [], ◌∷◌, ◌++◌, length, get_or, Option, None, Some, refl, sym, ap, subst, ◌∙◌, arith, true≢false}
use Rattle.std.specs.Prelude.{is_some}
use Rattle.ups_life.specs.declared.entry.Entry.{Entry}
use Rattle.ups_life.specs.declared.event.Report.{Report}
use Rattle.ups_life.specs.declared.request.Request.{Request}
use Rattle.ups_life.specs.declared.request.Request.TheVariants.{Create, Change, AskCancel, Set, Subscribe, Unsubscribe, Suspend, Ack, Sweep, Reserve}
use Rattle.ups_life.specs.declared.row.Row.{Row}
use Rattle.ups_life.specs.declared.watching.Subscription.{Subscription}
use Rattle.ups_life.specs.Settings.{Settings}
use Rattle.ups_life.specs.Steps.{past, row, used, final_at, step_of, creates, is_step}
use Rattle.ups_life.specs.Watching.{is_among, is_held, held, held_after, takes_in}
use Rattle.ups_life.specs.History.{legal}
use Rattle.ups_life.proofs.Texts.{text_is_itself}
use Rattle.ups_life.proofs.Accepted.{said, succeeded, legal_tail, created_fresh, on_held}
use Rattle.ups_keep.specs.declared.due.Final.{Final}
use Rattle.ups_tables.specs.Live.{newly_by, is_of_watch}
use Rattle.ups_tables.proofs.Among.{among_push, among_filter}
use Rattle.ups_tables.proofs.Finals.{not_held, final_create}
use Rattle.ups_events.specs.Queue as lists
use Rattle.ups_watch.specs.declared.cover.Cover.{Cover}
use Rattle.ups_steps.specs.declared.held.HeldRow.{HeldRow}
use Rattle.ups_tables.specs.declared.tables.Tables.{Tables}
use Rattle.ups_tables.specs.Held.{held_at}
use Rattle.ups_tables.specs.Effects.{RoomFor}
use Rattle.ups_tables.specs.Fit.{how, holds, AreFreed}
use Rattle.ups_tables.specs.Places.{place_of_title}
use Rattle.ups_tables.specs.Stands.{Stands}
use Rattle.ups_tables.specs.Planned.{PlansCreate, PlansSet, PlansGlobal}
use Rattle.ups_tables.proofs.Titled.{place_within}
use Rattle.ups_tables.proofs.Saying.{holds_is}
use Rattle.ups_tables.proofs.Carried.{fresh_step}

module _ {A : Type 0} (s : Settings) (history : List (Entry A)) (e : Entry A) (t : Tables A) (st : Stands s history t) (l : legal s (e ∷ past history) ≡ true) where
  pub fresh_now : (step : List ℕ) (held_now : HeldRow A) (told : List Report) → PlansCreate s (past history) e step held_now told → held_at step t.steps.entries ≡ None
  fresh_now step held_now told p = fresh_step s history (history ++ e ∷ []) e t t st refl l (length history) refl step held_now told p

  pub unfinished : (step : List ℕ) (held_now : HeldRow A) (told : List Report) → PlansCreate s (past history) e step held_now told → held_now.row.final_at ≡ None
  unfinished step held_now told p =
      ap (λ (r : Row A). r.final_at) p.on.row
      ∙ sym (ap (λ b. cond b (final_at (e ∷ past history) step) None) held_here)
      ∙ final_create s e (past history) step step p.attributes p.request (legal_tail s e (past history) l) new
      ∙ ap (λ b. cond b (final_at (past history) step) None) (not_held s (past history) step new)
    where
      new : used (past history) step ≡ false
      new = created_fresh s (past history) step p.attributes (sym (ap (said s (past history)) p.request) ∙ succeeded s e (past history) l)

      held_here : is_held s (e ∷ past history) step ≡ true
      held_here =
          ap (λ (r : Request A). is_among step (held_after s (past history) e.moment (held s (past history)) r)) p.request ∙ among_push step step (held s (past history))
          ∙ ap (λ b. b || is_among step (held s (past history))) (text_is_itself step)

  pub here_now : (step : List ℕ) → step_of e.request ≡ Some step → is_of_watch e.request ≡ false → holds t step ≡ true
  here_now step on other = holds_is s history t st step ∙ on_held s (past history) step e.request (succeeded s e (past history) l) (ap (is_step step) on ∙ text_is_itself step) (new e.request other)
    where
      new : (r : Request A) → is_of_watch r ≡ false → creates step r ≡ false
      new (Create step set) n = absurd cc
      new (Change step state t) n = refl
      new (AskCancel step reasons) n = refl
      new (Set step t set) n = refl
      new (Subscribe target receiver lock) n = refl
      new (Unsubscribe place receiver) n = refl
      new (Suspend receiver) n = refl
      new (Ack upto) n = refl
      new Sweep n = refl
      new (Reserve u) n = refl

  pub set_here : (step : List ℕ) (held_now : HeldRow A) (told : List Report) (newly : List (Option Subscription)) (first : List Report) → PlansSet s (past history) e t step held_now told newly first → holds t step ≡ true
  set_here step held_now told newly first p =
      holds_is s history t st step ∙ on_held s (past history) step (Set (Some step) p.transaction p.attributes) (sym (ap (said s (past history)) p.request) ∙ succeeded s e (past history) l) (text_is_itself step) refl

  pub set_apart : (step : List ℕ) (held_now : HeldRow A) (told : List Report) (newly lent : List (Option Subscription)) (first : List Report) → PlansSet s (past history) e t step held_now told newly first → lent ≡ newly → (p : ℕ) → is_some (how t p step) ≡ true → get_or lent p None ≡ None
  set_apart step held_now told newly lent first plan same p h = ap (λ xs. get_or xs p None) same ∙ plan.newly_are p ∙ ap (λ b. cond b None (newly_by (get_or t.watchers.covers p None) (row s (past history) step) held_now.row.attributes)) h

  pub chosen_held : (peer : ℕ) (k : Cover A) (steps lent : List (List ℕ)) (freed : List Final) (told : List Report) → PlansGlobal s (past history) e t peer k steps freed told → lent ≡ steps → (u : List ℕ) → is_among u lent ≡ true → holds t u ≡ true
  chosen_held peer k steps lent freed told p same u h =
      holds_is s history t st u ∙ first_true (is_held s (past history) u) (takes_in p.target u (row s (past history) u))
      (sym (ap (is_among u) (same ∙ p.steps_are) ∙ among_filter (λ v. takes_in p.target v (row s (past history) v)) u (held s (past history))) ∙ h)
    where
      first_true : (a b : Bool) → (a && b) ≡ true → a ≡ true
      first_true true b e = refl
      first_true false b e = absurd (true≢false (sym e))

  pub within : (peer : ℕ) (receiver : List ℕ) → place_of_title s.peers receiver ≡ Some peer → peer < length t.watchers.covers
  within peer receiver here = let n = place_within s.peers receiver peer here in let m = st.peers in omega (arith, n, m)

pub lent_room : (has : ℕ → Bool) (xs ys : List Report) (qs : List lists.QueueView) → ys ≡ xs → RoomFor has (length xs) qs → RoomFor has (length ys) qs
lent_room has xs ys qs same room = subst (λ n. RoomFor has n qs) (sym (ap length same)) room

pub lent_freed : {A : Type 0} (t : Tables A) (peer : ℕ) (subscription : Option Subscription) (steps lent : List (List ℕ)) (freed given : List Final) → AreFreed t peer subscription (λ u. is_among u steps) freed → lent ≡ steps → given ≡ freed
    → AreFreed t peer subscription (λ u. is_among u lent) given
lent_freed t peer subscription steps lent freed given are same same_freed =
    subst (λ us. AreFreed t peer subscription (λ u. is_among u us) given) (sym same) (subst (AreFreed t peer subscription (λ u. is_among u steps)) (sym same_freed) are)
