-- What is so of tables is so of those that say the same and have no less room.
use Rattle.std.proofs.Common.{◌≡◌, ◌≤◌, ◌<◌, ℕ, Bool, not, ◌&&◌, cond, List, [], length, get_or, set, replicate, Option, None, Some, ◌⊎◌, inl, inr, refl, sym, ap, subst, ◌∙◌, arith}
use Rattle.std.specs.Prelude.{is_some, OnOk, Result, Ok, Err}
use Rattle.std.proofs.lemmas.List.{length-replicate, get_or-replicate, get_or_past}
use Rattle.std.proofs.lemmas.Bool.{cases_lt}
use Rattle.ups_life.specs.declared.entry.Entry.{Entry}
use Rattle.ups_life.specs.declared.watching.Subscription.{Subscription}
use Rattle.ups_life.specs.Settings.{Settings}
use Rattle.ups_life.specs.Steps.{row}
use Rattle.ups_keep.specs.declared.due.Final.{Final}
use Rattle.ups_keep.specs.Due.{due_until}
use Rattle.ups_tables.specs.Live.{newly_by}
use Rattle.ups_tables.specs.Seen.{Once}
use Rattle.ups_events.specs.Queue.{queue_at, ack_fault}
use Rattle.ups_events.specs.Telling.{Line, empty_line}
use Rattle.ups_events.proofs.Tellings.{line_reserved}
use Rattle.ups_watch.specs.declared.cover.Cover.{Cover}
use Rattle.ups_watch.specs.Rows.{Cells}
use Rattle.ups_watch.specs.Table.{is_locked_by_any}
use Rattle.ups_tables.specs.declared.tables.Tables.{Tables}
use Rattle.ups_tables.specs.declared.plan.Plan.{Plan}
use Rattle.ups_tables.specs.declared.plan.Plan.TheVariants.{Create as ToCreate, Change as ToChange, Set as ToSet, Single as ToSingle, Global as ToGlobal, End as ToEnd, EndAll as ToEndAll, Suspend as ToSuspend, Ack as ToAck, Sweep as ToSweep, Reserve as ToReserve, Idle as ToIdle}
use Rattle.ups_tables.specs.Held.{held_at, final_of, is_used}
use Rattle.ups_tables.specs.Effects.{Reserved, RoomFor}
use Rattle.std.specs.HashSet as sets
use Rattle.ups_tables.specs.Fit.{how, queue_line, has_lock, kept_if, final_in, TablesFit, AreFreed}
use Rattle.ups_tables.specs.Places.{place_of_title, by_place}
use Rattle.ups_tables.specs.Stands.{Stands}
use Rattle.ups_tables.specs.Planned.{IsPlan, RoomToCreate, RoomToChange}
use Rattle.ups_tables.proofs.Fitness.{cells_watching, fits_reserved}
use Rattle.ups_tables.proofs.Saying.{covers_stay, hows_stay, queues_stay}

module _ {A : Type 0} (t t' : Tables A) (r : Reserved t t') where
  pub how_same : (p : ℕ) (u : List ℕ) → how t' p u ≡ how t p u
  how_same p u = sym (cells_watching t'.watchers p u) ∙ ap (λ (row : Cells). get_or row p None) (r.cells_same u) ∙ cells_watching t.watchers p u

  line_same : (p : ℕ) → queue_line t' p ≡ queue_line t p
  line_same p = line_reserved (queue_at t.queues p) (queue_at t'.queues p) (r.queues p)

  pub stands_reserved : (s : Settings) (history : List (Entry A)) → Stands s history t → Stands s history t'
  stands_reserved s history old = record {
    legal = old.legal;
    titles = old.titles;
    peers = ap length r.covers ∙ old.peers;
    fits = fits_reserved t t' r old.fits;
    steps = r.steps ∙ old.steps;
    lives = record {
      covers = λ w. covers_stay s.peers t t' w r.covers ∙ old.lives.covers w;
      pairs = λ w u. hows_stay s.peers t t' w u (λ p. how_same p u) ∙ old.lives.pairs w u;
      queues = λ w. queues_stay s.peers t t' w line_same ∙ old.lives.queues w;
      used = λ u. r.used u ∙ old.lives.used u;
    };
  }

  freed_same : (peer : ℕ) (x : Option Subscription) (chosen : List ℕ → Bool) (freed : List Final) → AreFreed t peer x chosen freed → AreFreed t' peer x chosen freed
  freed_same peer x chosen freed are = record {
    once = are.once;
    waiting = λ u.
        are.waiting u
        ∙ ap (λ o. cond (chosen u) o None)
        (ap (λ (row : Cells). cond (is_locked_by_any row && not (is_locked_by_any (set row peer x))) (final_in t u) None) (sym (r.cells_same u)) ∙ ap (λ hs. cond (has_lock t' u && not (kept_if t' peer x u)) (final_of (held_at u hs)) None) (sym r.steps));
  }

  pub plan_reserved : (s : Settings) (es : List (Entry A)) (e : Entry A) (plan : Plan A) → IsPlan s es e t plan → IsPlan s es e t' plan
  plan_reserved s es e (ToCreate step held told) p = p
  plan_reserved s es e (ToChange step held told) p = p
  plan_reserved s es e (ToSet step held told newly first) p = record {
    transaction = p.transaction;
    attributes = p.attributes;
    request = p.request;
    on = p.on;
    width = subst (λ (cs : List (Option (Cover A))). length newly.items ≤ length cs) (sym r.covers) p.width;
    newly_are = λ q.
        p.newly_are q ∙ ap (λ o. cond (is_some o) None (newly_by (get_or t.watchers.covers q None) (row s es step) held.row.attributes)) (sym (how_same q step))
        ∙ ap (λ (cs : List (Option (Cover A))). cond (is_some (how t' q step)) None (newly_by (get_or cs q None) (row s es step) held.row.attributes)) (sym r.covers);
    first_is = p.first_is;
  }
  plan_reserved s es e (ToSingle peer step subscription told) p = p
  plan_reserved s es e (ToGlobal peer cover steps freed told) p = record {
    receiver = p.receiver;
    place = p.place;
    target = p.target;
    lock = p.lock;
    request = p.request;
    cover_is = p.cover_is;
    steps_are = p.steps_are;
    freed_are = freed_same peer (Some cover.subscription) _ freed.items p.freed_are;
    news = p.news;
  }
  plan_reserved s es e (ToEnd peer step) p = p
  plan_reserved s es e (ToEndAll peer freed) p = record { receiver = p.receiver; place = p.place; request = p.request; freed_are = freed_same peer None _ freed.items p.freed_are }
  plan_reserved s es e (ToSuspend peer) p = p
  plan_reserved s es e (ToAck peer upto) p = record {
    place = p.place;
    request = p.request;
    allowed = ap (λ (q : Line). ack_fault (record { made = q.made; acked = q.acked; events = q.events; spare = 0 }) upto) (line_same peer) ∙ p.allowed;
  }
  plan_reserved s es e (ToSweep due moment) p = record { request = p.request; since = p.since; due_are = p.due_are ∙ ap (due_until moment) (sym r.due) }
  plan_reserved s es e (ToReserve step) p = p
  plan_reserved s es e ToIdle p = record { request = p.request; none = λ n le. ap (due_until n) r.due ∙ p.none n le }

-- what is so anyhow is so where a result is right
pub on_any : {X E : Type 0} (x : Result X E) (P : Type 0) → P → OnOk x P
on_any (Ok v) P p = p
on_any (Err e) P p = tt

pub room_create : {A X E : Type 0} (x : Result X E) (t : Tables A) (n m : ℕ) → n ≡ m → OnOk x (0 < t.steps.spare) → OnOk x (0 < sets.spare t.used) → OnOk x (0 < t.watchers.spare) → OnOk x (RoomFor (λ p. is_some (get_or t.watchers.covers p None)) n t.queues) → OnOk x (RoomToCreate t m)
room_create (Ok v) t n m is a b c d = record { steps_room = a; used_room = b; rows_room = c; events_room = subst (λ k. RoomFor (λ p. is_some (get_or t.watchers.covers p None)) k t.queues) is d }
room_create (Err e) t n m is a b c d = tt

pub room_change : {A X E : Type 0} (x : Result X E) (t : Tables A) (step : List ℕ) (n m : ℕ) → n ≡ m → OnOk x (0 < t.due.spare) → OnOk x (RoomFor (λ p. is_some (how t p step)) n t.queues) → OnOk x ((0 < t.due.spare) × RoomFor (λ p. is_some (how t p step)) m t.queues)
room_change (Ok v) t step n m is a b = (a, subst (λ k. RoomFor (λ p. is_some (how t p step)) k t.queues) is b)
room_change (Err e) t step n m is a b = tt

pub room_set : {A X E : Type 0} (x : Result X E) (t : Tables A) (step : List ℕ) (n m i j : ℕ) (lent newly : List (Option Subscription)) → n ≡ m → i ≡ j → lent ≡ newly → OnOk x (0 < t.due.spare) → OnOk x (RoomFor (λ p. is_some (how t p step)) n t.queues) → OnOk x (RoomFor (λ p. is_some (get_or lent p None)) i t.queues) → OnOk x (RoomToChange t step m newly j)
room_set (Ok v) t step n m i j lent newly is js same a b c = record {
  due_room = a;
  news_room = subst (λ k. RoomFor (λ p. is_some (how t p step)) k t.queues) is b;
  first_room = subst (λ k. RoomFor (λ p. is_some (get_or newly p None)) k t.queues) js (subst (λ (xs : List (Option Subscription)). RoomFor (λ p. is_some (get_or xs p None)) i t.queues) same c);
}
room_set (Err e) t step n m i j lent newly is js same a b c = tt

pub room_one : {X E : Type 0} (x : Result X E) (room left n m k l : ℕ) → n ≡ m → k ≡ l → OnOk x (k ≤ room) → OnOk x (n ≤ left) → OnOk x ((l ≤ room) × (m ≤ left))
room_one (Ok v) room left n m k l is js a b = (omega (arith, js, a), omega (arith, is, b))
room_one (Err e) room left n m k l is js a b = tt

pub room_single : {X E : Type 0} (x : Result X E) (room left n m : ℕ) → n ≡ m → OnOk x (0 < room) → OnOk x (n ≤ left) → OnOk x ((0 < room) × (m ≤ left))
room_single (Ok v) room left n m is a b = (a, omega (arith, is, b))
room_single (Err e) room left n m is a b = tt

-- what a plan needs is what is asked for
pub has_changed : {A : Type 0} (t : Tables A) (step : List ℕ) (n m : ℕ) → n ≡ m → (0 < t.due.spare) × RoomFor (λ p. is_some (how t p step)) m t.queues → RoomToChange t step n [] 0
has_changed t step n m is r = record { due_room = r.0; news_room = subst (λ k. RoomFor (λ p. is_some (how t p step)) k t.queues) (sym is) r.1; first_room = λ p w. omega arith }

pub has_set : {A : Type 0} (t : Tables A) (step : List ℕ) (n m i j : ℕ) (lent newly : List (Option Subscription)) → n ≡ m → i ≡ j → lent ≡ newly → RoomToChange t step m newly j → RoomToChange t step n lent i
has_set t step n m i j lent newly is js same r = subst (λ k. RoomToChange t step k lent i) (sym is) (subst (λ k. RoomToChange t step m lent k) (sym js) (subst (λ (xs : List (Option Subscription)). RoomToChange t step m xs j) (sym same) r))

-- NOTHING YET

pub stands_new : {A : Type 0} (s : Settings) (n : ℕ) (t : Tables A) → Once s.peers → n ≡ length s.peers → t.steps.entries ≡ [] → t.used.keys ≡ [] → t.watchers.covers ≡ replicate n None → ((p : ℕ) (u : List ℕ) → how t p u ≡ None) → ((p : ℕ) → queue_line t p ≡ empty_line)
    → TablesFit t → Stands s [] t
stands_new {A} s n t titles count steps used covers hows queues fits = record {
  legal = refl;
  titles = titles;
  peers = ap length covers ∙ length-replicate {A = Option (Cover A)} n None ∙ count;
  fits = fits;
  steps = steps;
  lives = record {
    covers = λ w. nothing_at (place_of_title s.peers w) None (λ p. get_or t.watchers.covers p None) (λ p. ap (λ (cs : List (Option (Cover A))). get_or cs p None) covers ∙ no_cover n p);
    pairs = λ w u. nothing_at (place_of_title s.peers w) None (λ p. how t p u) (λ p. hows p u);
    queues = λ w. nothing_at (place_of_title s.peers w) empty_line (λ p. queue_line t p) queues;
    used = λ u. ap (is_used u) used;
  };
}
  where
    nothing_at : {X : Type 0} (o : Option ℕ) (none : X) (f : ℕ → X) → ((p : ℕ) → f p ≡ none) → by_place none f o ≡ none
    nothing_at None none f h = refl
    nothing_at (Some p) none f h = h p

    no_cover : (n p : ℕ) → get_or {A = Option (Cover A)} (replicate n None) p None ≡ None
    no_cover n p = by (cases_lt p n)
      where
        by : (p < n) ⊎ (n ≤ p) → get_or {A = Option (Cover A)} (replicate n None) p None ≡ None
        by (inl l) = get_or-replicate n p None None l
        by (inr l) = let len = length-replicate {A = Option (Cover A)} n None in get_or_past (replicate n None) p None (omega (arith, l, len))
