-- What each kind of request makes of the subscriptions that are live: the least change (PS3.4 CC.2.3).
use Rattle.std.proofs.Common.{◌≡◌, ℕ, Bool, true, false, not, ◌&&◌, ◌||◌, cond, List, [], ◌∷◌, Option, None, Some, refl, sym, ap, ◌∙◌}
use Rattle.std.specs.Prelude.{is_some}
use Rattle.std.specs.Option.{option_or}
use Rattle.std.specs.List.{list_any}
use Rattle.std.specs.Str.{bytes_eq}
use Rattle.ups_dataset.specs.Data.{El}
use Rattle.ups_life.specs.declared.entry.Entry.{Entry}
use Rattle.ups_life.specs.declared.peer.Peer.{Peer}
use Rattle.ups_life.specs.declared.request.Request.{Request}
use Rattle.ups_life.specs.declared.request.Request.TheVariants.{Create, Change, AskCancel, Set, Subscribe, Unsubscribe, Suspend, Ack, Sweep, Reserve}
use Rattle.ups_life.specs.declared.request.Transaction.{Transaction}
use Rattle.ups_life.specs.declared.watching.Subscription.{Subscription}
use Rattle.ups_watch.specs.declared.cover.Cover.{Cover}
use Rattle.ups_life.specs.declared.watching.Target.{Target}
use Rattle.ups_life.specs.declared.watching.Target.TheVariants.{Single, Global, Filtered}
use Rattle.ups_life.specs.declared.watching.Place.{Place}
use Rattle.ups_life.specs.declared.watching.Place.TheVariants.{At, Everywhere}
use Rattle.ups_life.specs.Settings.{Settings}
use Rattle.ups_life.specs.Steps.{row, final_at}
use Rattle.ups_life.specs.Watching.{granted, takes_in, is_at, global_after, cover_after, cover, newly_covered, watch_after, watch, is_locked, is_kept, has_passed, is_due, held_after, held, is_held, is_among, removed}
use Rattle.ups_watch.specs.Covers.{covered, subscription_gained as newly_met}
use Rattle.ups_watch.proofs.Newly.{newly_is}
use Rattle.ups_tables.specs.Live.{cover_to, global_then, global, live, locked, final, chosen, newly_by, is_of_watch}
use Rattle.ups_life.proofs.Texts.{same_text}
use Rattle.ups_tables.proofs.Among.{among_filter, among_push}

-- GLOBAL SUBSCRIPTIONS: what a watcher has now says of every set of attributes what the definition says

either : {X Y : Type 0} (f : X → Y) (b : Bool) (x y : X) → f (cond b x y) ≡ cond b (f x) (f y)
either f true x y = refl
either f false x y = refl

choose : {X : Type 0} (b : Bool) (x y z v : X) → x ≡ z → y ≡ v → cond b x y ≡ cond b z v
choose true x y z v p q = p
choose false x y z v p q = q

target_covers : {A : Type 0} (target : Target A) (set : List El) (how : Subscription) (before : Option (Cover A)) → global_after target set how (covered before set) ≡ covered (option_or (cover_to target how) before) set
target_covers (Single step) set how before = refl
target_covers Global set how before = refl
target_covers (Filtered keys) set how before = refl

cover_then : {A : Type 0} (peers : List Peer) (w : List ℕ) (set : List El) (before : Option (Cover A)) (r : Request A) → cover_after peers w set (covered before set) r ≡ covered (global_then peers w before r) set
cover_then peers w set before (Create step attributes) = refl
cover_then peers w set before (Change step state t) = refl
cover_then peers w set before (AskCancel step reasons) = refl
cover_then peers w set before (Set step t attributes) = refl
cover_then {A} peers w set before (Subscribe target receiver lock) =
    choose (bytes_eq receiver w) _ _ _ _ (target_covers target set (granted peers w lock) before) refl
    ∙ sym (either (λ (c : Option (Cover A)). covered c set) (bytes_eq receiver w) (option_or (cover_to target (granted peers w lock)) before) before)
cover_then {A} peers w set before (Unsubscribe (At step) receiver) = choose (bytes_eq receiver w) _ _ _ _ refl refl ∙ sym (either (λ (c : Option (Cover A)). covered c set) (bytes_eq receiver w) before before)
cover_then {A} peers w set before (Unsubscribe Everywhere receiver) = sym (either (λ (c : Option (Cover A)). covered c set) (bytes_eq receiver w) None before)
cover_then {A} peers w set before (Suspend receiver) = sym (either (λ (c : Option (Cover A)). covered c set) (bytes_eq receiver w) None before)
cover_then peers w set before (Ack upto) = refl
cover_then peers w set before Sweep = refl
cover_then peers w set before (Reserve step) = refl

pub cover-global : {A : Type 0} (peers : List Peer) (es : List (Entry A)) (w : List ℕ) (set : List El) → cover peers es w set ≡ covered (global peers es w) set
cover-global peers [] w set = refl
cover-global peers (e ∷ es) w set = ap (λ b. cover_after peers w set b e.request) (cover-global peers es w set) ∙ cover_then peers w set (global peers es w) e.request

-- a subscription may replace the global one of its receiver
pub global_subscribe : {A : Type 0} (peers : List Peer) (e : Entry A) (es : List (Entry A)) (w : List ℕ) (target : Target A) (receiver : List ℕ) (lock : Bool) → e.request ≡ Subscribe target receiver lock
    → global peers (e ∷ es) w ≡ cond (bytes_eq receiver w) (option_or (cover_to target (granted peers receiver lock)) (global peers es w)) (global peers es w)
global_subscribe {A} peers e es w target receiver lock is =
    ap (λ (r : Request A). global_then peers w (global peers es w) r) is ∙ at (bytes_eq receiver w) refl
  where
    at : (b : Bool) → bytes_eq receiver w ≡ b → cond b (option_or (cover_to target (granted peers w lock)) (global peers es w)) (global peers es w) ≡ cond b (option_or (cover_to target (granted peers receiver lock)) (global peers es w)) (global peers es w)
    at true e = ap (λ x. option_or (cover_to target (granted peers x lock)) (global peers es w)) (sym (same_text receiver w e))
    at false e = refl

-- SUBSCRIPTIONS

abbrev live_then : {A : Type 0} → Settings → List (Entry A) → Entry A → List ℕ → List ℕ → Request A → Option Subscription
live_then s es e w u r = cond (is_among u (held_after s es e.moment (held s es) r)) (watch_after s es e w u (watch s es w u) r) None

-- a new step: each watcher as its global subscription says
pub live_create : {A : Type 0} (s : Settings) (e : Entry A) (es : List (Entry A)) (w u step : List ℕ) (set : List El) → e.request ≡ Create step set
    → live s (e ∷ es) w u ≡ cond (bytes_eq step u) (covered (global s.peers es w) (row s (e ∷ es) step)) (live s es w u)
live_create {A} s e es w u step set is =
    ap (λ (r : Request A). live_then s es e w u r) is
    ∙ ap (λ b. cond b (cond (bytes_eq step u) (cover s.peers es w (row s (e ∷ es) u)) (watch s es w u)) None) (among_push u step (held s es))
    ∙ at (bytes_eq step u) refl
  where
    at : (b : Bool) → bytes_eq step u ≡ b
        → cond (b || is_held s es u) (cond b (cover s.peers es w (row s (e ∷ es) u)) (watch s es w u)) None ≡ cond b (covered (global s.peers es w) (row s (e ∷ es) step)) (live s es w u)
    at true same = ap (λ x. cover s.peers es w (row s (e ∷ es) x)) (sym (same_text step u same)) ∙ cover-global s.peers es w (row s (e ∷ es) step)
    at false other = refl

-- a subscription: the receiver, to the steps that are chosen
pub live_subscribe : {A : Type 0} (s : Settings) (e : Entry A) (es : List (Entry A)) (w u : List ℕ) (target : Target A) (receiver : List ℕ) (lock : Bool) → e.request ≡ Subscribe target receiver lock
    → live s (e ∷ es) w u ≡ cond (bytes_eq receiver w && is_among u (chosen s es target)) (Some (granted s.peers receiver lock)) (live s es w u)
live_subscribe {A} s e es w u target receiver lock is =
    ap (λ (r : Request A). live_then s es e w u r) is
    ∙ at (is_held s es u) (takes_in target u (row s es u)) (bytes_eq receiver w) refl
    ∙ ap (λ b. cond (bytes_eq receiver w && b) (Some (granted s.peers receiver lock)) (live s es w u)) (sym (among_filter (λ v. takes_in target v (row s es v)) u (held s es)))
  where
    at : (here takes own : Bool) → bytes_eq receiver w ≡ own
        → cond here (cond (own && takes) (Some (granted s.peers w lock)) (watch s es w u)) None ≡ cond (own && (here && takes)) (Some (granted s.peers receiver lock)) (cond here (watch s es w u) None)
    at true true true own = ap (λ x. Some (granted s.peers x lock)) (sym (same_text receiver w own))
    at true false true own = refl
    at true takes false own = refl
    at false takes true own = refl
    at false takes false own = refl

-- the end of subscriptions: of the receiver, at a step or at each
pub live_unsubscribe : {A : Type 0} (s : Settings) (e : Entry A) (es : List (Entry A)) (w u : List ℕ) (place : Place) (receiver : List ℕ) → e.request ≡ Unsubscribe place receiver
    → live s (e ∷ es) w u ≡ cond (bytes_eq receiver w && is_at place u) None (live s es w u)
live_unsubscribe {A} s e es w u place receiver is =
    ap (λ (r : Request A). live_then s es e w u r) is ∙ at (is_held s es u) (bytes_eq receiver w && is_at place u)
  where
    at : (here ends : Bool) → cond here (cond ends None (watch s es w u)) None ≡ cond ends None (cond here (watch s es w u) None)
    at true ends = refl
    at false true = refl
    at false false = refl

-- what a filter newly takes in, by the global subscription that is live
pub newly-covers : {A : Type 0} (s : Settings) (e : Entry A) (es : List (Entry A)) (w u : List ℕ) → newly_covered s es e w u ≡ newly_by (global s.peers es w) (row s es u) (row s (e ∷ es) u)
newly-covers s e es w u =
    ap (λ (o : Option Subscription). cond (is_some o) None (cover s.peers es w (row s (e ∷ es) u))) (cover-global s.peers es w (row s es u))
    ∙ ap (λ (o : Option Subscription). cond (is_some (covered (global s.peers es w) (row s es u))) None o) (cover-global s.peers es w (row s (e ∷ es) u))

none_or : (o : Option Subscription) → option_or o None ≡ o
none_or None = refl
none_or (Some how) = refl

-- and by the table of subscriptions: who is subscribed so far, as `how` says, is not newly subscribed
pub newly-met : {A : Type 0} (c : Option (Cover A)) (how : Option Subscription) (before after : List El) → newly_met c how before after ≡ cond (is_some how) None (newly_by c before after)
newly-met None None before after = refl
newly-met None (Some how) before after = refl
newly-met (Some c) (Some how) before after = refl
newly-met (Some c) None before after = sym (none_or (newly_met (Some c) None before after)) ∙ newly_is (Some c) None before after

-- an N-SET: who isn't subscribed, where its filter takes the step in only by it
pub live_set : {A : Type 0} (s : Settings) (e : Entry A) (es : List (Entry A)) (w u step : List ℕ) (t : Transaction) (set : List El) → e.request ≡ Set (Some step) t set → is_held s es step ≡ true
    → live s (e ∷ es) w u ≡ cond (bytes_eq step u) (option_or (live s es w u) (newly_covered s es e w u)) (live s es w u)
live_set {A} s e es w u step t set is here =
    ap (λ (r : Request A). live_then s es e w u r) is ∙ at (bytes_eq step u) refl
  where
    at : (b : Bool) → bytes_eq step u ≡ b
        → cond (is_held s es u) (cond b (option_or (watch s es w u) (newly_covered s es e w u)) (watch s es w u)) None ≡ cond b (option_or (live s es w u) (newly_covered s es e w u)) (live s es w u)
    at true same =
        let held_so : is_held s es u ≡ true = ap (is_held s es) (sym (same_text step u same)) ∙ here in
        ap (λ b. cond b (option_or (watch s es w u) (newly_covered s es e w u)) None) held_so
        ∙ sym (ap (λ b. option_or (cond b (watch s es w u) None) (newly_covered s es e w u)) held_so)
    at false other = refl

-- a sweep: the steps that it removes
pub live_sweep : {A : Type 0} (s : Settings) (e : Entry A) (es : List (Entry A)) (w u : List ℕ) → e.request ≡ Sweep
    → live s (e ∷ es) w u ≡ cond (is_among u (removed s es e.moment)) None (live s es w u)
live_sweep {A} s e es w u is =
    ap (λ (r : Request A). live_then s es e w u r) is
    ∙ ap (λ b. cond b (watch s es w u) None) (among_filter (λ v. not (is_due s es e.moment v)) u (held s es))
    ∙ at (is_held s es u) (is_due s es e.moment u)
    ∙ ap (λ b. cond b None (live s es w u)) (sym (among_filter (is_due s es e.moment) u (held s es)))
  where
    at : (here due : Bool) → cond (here && not due) (watch s es w u) None ≡ cond (here && due) None (cond here (watch s es w u) None)
    at true true = refl
    at true false = refl
    at false due = refl

-- any other request leaves each as it was
pub live_same : {A : Type 0} (s : Settings) (e : Entry A) (es : List (Entry A)) (w u : List ℕ) → is_of_watch e.request ≡ false → live s (e ∷ es) w u ≡ live s es w u
live_same {A} s e es w u none = at e.request none
  where
    at : (r : Request A) → is_of_watch r ≡ false → live_then s es e w u r ≡ live s es w u
    at (Create step set) h = absurd cc
    at (Change step state t) h = refl
    at (AskCancel step reasons) h = refl
    at (Set step t set) h = absurd cc
    at (Subscribe target receiver lock) h = absurd cc
    at (Unsubscribe place receiver) h = absurd cc
    at (Suspend receiver) h = refl
    at (Ack upto) h = refl
    at Sweep h = absurd cc
    at (Reserve step) h = refl

-- LOCKS

no_lock : {A : Type 0} (s : Settings) (es : List (Entry A)) (u : List ℕ) (ps : List Peer) → list_any (λ (p : Peer). is_locked None) ps ≡ false
no_lock s es u [] = refl
no_lock s es u (p ∷ ps) = no_lock s es u ps

-- a step is kept by a lock where it is held, and the definition says so
pub locked-kept : {A : Type 0} (s : Settings) (es : List (Entry A)) (u : List ℕ) → locked s es u ≡ (is_held s es u && is_kept s es u)
locked-kept s es u = at (is_held s es u)
  where
    at : (here : Bool) → list_any (λ (p : Peer). is_locked (cond here (watch s es p.ae u) None)) s.peers ≡ (here && is_kept s es u)
    at true = refl
    at false = no_lock s es u s.peers

-- DUE

pub due-live : {A : Type 0} (s : Settings) (es : List (Entry A)) (moment : ℕ) (u : List ℕ) → is_among u (removed s es moment) ≡ (has_passed s.keep moment (final s es u) && not (locked s es u))
due-live s es moment u =
    among_filter (is_due s es moment) u (held s es) ∙ at (is_held s es u) ∙ ap (λ b. has_passed s.keep moment (final s es u) && not b) (sym (locked-kept s es u))
  where
    at : (here : Bool) → (here && is_due s es moment u) ≡ (has_passed s.keep moment (cond here (final_at es u) None) && not (here && is_kept s es u))
    at true = refl
    at false = refl
