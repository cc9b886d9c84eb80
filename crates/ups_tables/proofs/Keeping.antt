-- For each kind of request: where what was live is changed as little as the request asks, it is live after it.
use Rattle.std.proofs.Common.{◌≡◌, ℕ, Bool, true, false, ◌&&◌, ◌||◌, cond, List, [], ◌∷◌, length, map, Option, None, Some, refl, sym, ap, ◌∙◌}
use Rattle.std.specs.Prelude.{is_some}
use Rattle.std.specs.Option.{option_or}
use Rattle.std.specs.List.{list_any}
use Rattle.std.specs.Str.{bytes_eq}
use Rattle.ups_dataset.specs.Data.{El}
use Rattle.ups_life.specs.declared.entry.Entry.{Entry}
use Rattle.ups_life.specs.declared.peer.Peer.{Peer}
use Rattle.ups_life.specs.declared.request.Request.{Request}
use Rattle.ups_life.specs.declared.request.Request.TheVariants.{Create, Change, AskCancel, Set, Subscribe, Unsubscribe, Suspend, Ack, Sweep, Reserve}
use Rattle.ups_watch.specs.declared.cover.Cover.{Cover}
use Rattle.ups_life.specs.declared.watching.Subscription.{Subscription}
use Rattle.ups_life.specs.declared.watching.Target.{Target}
use Rattle.ups_life.specs.declared.watching.Place.{Place}
use Rattle.ups_life.specs.Settings.{Settings}
use Rattle.ups_life.specs.Steps.{row, used, creates, uses_uid, is_step, step_of, final_at}
use Rattle.ups_life.specs.Watching.{granted, is_at, is_locked, is_held, is_among, removed}
use Rattle.ups_life.specs.Events.{as_it_is}
use Rattle.ups_life.specs.History.{legal}
use Rattle.ups_watch.specs.Covers.{covered}
use Rattle.ups_tables.specs.Live.{cover_to, cover_left, global_then, global, live, locked, final, chosen, queue, news, any_lock, IsLive, is_of_no_step, is_of_cover, is_of_uid, is_set, is_of_watch, is_silent}
use Rattle.ups_events.specs.Telling.{Line, told, acked_to}
use Rattle.ups_life.proofs.Texts.{same_text, text_is_itself}
use Rattle.ups_life.proofs.Accepted.{said, succeeded, legal_tail, created_fresh, on_held, differ}
use Rattle.ups_tables.proofs.Living.{global_subscribe, live_create, live_subscribe, live_unsubscribe, live_sweep, live_same}
use Rattle.ups_tables.proofs.Finals.{final_create, final_on, final_sweep, final_same}
use Rattle.ups_tables.proofs.Queueing.{queue_on, queue_subscribe, queue_ack, queue_same}
use Rattle.ups_tables.proofs.Titled.{any_same}

-- GLOBAL SUBSCRIPTIONS

pub global_same : {A : Type 0} (peers : List Peer) (e : Entry A) (es : List (Entry A)) (w : List ℕ) → is_of_cover e.request ≡ false → global peers (e ∷ es) w ≡ global peers es w
global_same {A} peers e es w none = at e.request none
  where
    at : (r : Request A) → is_of_cover r ≡ false → global_then peers w (global peers es w) r ≡ global peers es w
    at (Create step set) h = refl
    at (Change step state t) h = refl
    at (AskCancel step reasons) h = refl
    at (Set step t set) h = refl
    at (Ack upto) h = refl
    at Sweep h = refl
    at (Reserve step) h = refl
    at r h = absurd cc

-- LOCKS

-- what the pairs say of locks
pub lock_by : {A : Type 0} (s : Settings) (es : List (Entry A)) (how : List ℕ → List ℕ → Option Subscription) (u : List ℕ) → ((w v : List ℕ) → how w v ≡ live s es w v) → any_lock s.peers how u ≡ locked s es u
lock_by s es how u pairs = any_same (λ (p : Peer). is_locked (how p.ae u)) (λ (p : Peer). is_locked (live s es p.ae u)) s.peers (λ p. ap is_locked (pairs p.ae u))

lock_same : {A : Type 0} (s : Settings) (e : Entry A) (es : List (Entry A)) (u : List ℕ) → ((w : List ℕ) → live s (e ∷ es) w u ≡ live s es w u) → locked s (e ∷ es) u ≡ locked s es u
lock_same s e es u same = any_same (λ (p : Peer). is_locked (live s (e ∷ es) p.ae u)) (λ (p : Peer). is_locked (live s es p.ae u)) s.peers (λ p. ap is_locked (same p.ae))

-- the locks of these steps are looked at again, and those of the others stay
locks_again : {A : Type 0} (s : Settings) (e : Entry A) (es : List (Entry A)) (how : List ℕ → List ℕ → Option Subscription) (lck lck' again : List ℕ → Bool)
    → ((w u : List ℕ) → how w u ≡ live s (e ∷ es) w u) → ((u : List ℕ) → lck u ≡ locked s es u)
    → ((u : List ℕ) → again u ≡ false → (w : List ℕ) → live s (e ∷ es) w u ≡ live s es w u)
    → ((u : List ℕ) → lck' u ≡ cond (again u) (any_lock s.peers how u) (lck u)) → (u : List ℕ) → lck' u ≡ locked s (e ∷ es) u
locks_again s e es how lck lck' again pairs old rest step u = step u ∙ at (again u) refl
  where
    at : (b : Bool) → again u ≡ b → cond b (any_lock s.peers how u) (lck u) ≡ locked s (e ∷ es) u
    at true is = lock_by s (e ∷ es) how u pairs
    at false is = old u ∙ sym (lock_same s e es u (rest u is))

cond_both : {X : Type 0} (b c : Bool) (x y z v : X) → b ≡ c → x ≡ z → y ≡ v → cond b x y ≡ cond c z v
cond_both b c x y z v p q r = ap (λ t. cond t x y) p ∙ ap (λ t. cond c t y) q ∙ ap (cond c z) r

-- USED

pub used_create : {A : Type 0} (e : Entry A) (es : List (Entry A)) (step u : List ℕ) (set : List El) → e.request ≡ Create step set → used (e ∷ es) u ≡ (bytes_eq step u || used es u)
used_create {A} e es step u set is = ap (λ (r : Request A). uses_uid u r || used es u) is

pub used_reserve : {A : Type 0} (e : Entry A) (es : List (Entry A)) (step u : List ℕ) → e.request ≡ Reserve step → used (e ∷ es) u ≡ (bytes_eq step u || used es u)
used_reserve {A} e es step u is = ap (λ (r : Request A). uses_uid u r || used es u) is

pub used_same : {A : Type 0} (e : Entry A) (es : List (Entry A)) (u : List ℕ) → is_of_uid e.request ≡ false → used (e ∷ es) u ≡ used es u
used_same {A} e es u none = at e.request none
  where
    at : (r : Request A) → is_of_uid r ≡ false → (uses_uid u r || used es u) ≡ used es u
    at (Create step set) h = absurd cc
    at (Change step state t) h = refl
    at (AskCancel step reasons) h = refl
    at (Set step t set) h = refl
    at (Subscribe target receiver lock) h = refl
    at (Unsubscribe place receiver) h = refl
    at (Suspend receiver) h = refl
    at (Ack upto) h = refl
    at Sweep h = refl
    at (Reserve step) h = absurd cc

-- EACH KIND OF REQUEST

pub after_create : {A : Type 0} (s : Settings) (e : Entry A) (es : List (Entry A)) (step : List ℕ) (set : List El) (cov cov' : List ℕ → Option (Cover A)) (how how' : List ℕ → List ℕ → Option Subscription)
    (fin fin' : List ℕ → Option ℕ) (lck lck' : List ℕ → Bool) (q q' : List ℕ → Line) (us us' : List ℕ → Bool)
    → IsLive s es cov how fin lck q us → legal s (e ∷ es) ≡ true → e.request ≡ Create step set
    → ((w : List ℕ) → cov' w ≡ cov w)
    → ((w u : List ℕ) → how' w u ≡ cond (bytes_eq step u) (covered (cov w) (row s (e ∷ es) step)) (how w u))
    → ((u : List ℕ) → fin' u ≡ fin u)
    → ((u : List ℕ) → lck' u ≡ cond (bytes_eq step u) (any_lock s.peers how' u) (lck u))
    → ((w : List ℕ) → q' w ≡ cond (is_some (how' w step)) (told (length es) (news s es e step) (q w)) (q w))
    → ((u : List ℕ) → us' u ≡ (bytes_eq step u || us u))
    → IsLive s (e ∷ es) cov' how' fin' lck' q' us'
after_create {A} s e es step set cov cov' how how' fin fin' lck lck' q q' us us' old l is c_cov c_how c_fin c_lck c_q c_us = record {
  covers = λ w. c_cov w ∙ old.covers w ∙ sym (global_same s.peers e es w (ap is_of_cover is));
  pairs = pairs_are;
  finals = λ u. c_fin u ∙ old.finals u ∙ sym (final_create s e es u step set is (legal_tail s e es l) fresh);
  locks = locks_again s e es how' lck lck' (λ u. bytes_eq step u) pairs_are old.locks
      (λ u other w. live_create s e es w u step set is ∙ ap (λ b. cond b (covered (global s.peers es w) (row s (e ∷ es) step)) (live s es w u)) other) c_lck;
  queues = λ w. c_q w ∙ cond_both (is_some (how' w step)) (is_some (live s (e ∷ es) w step)) (told (length es) (news s es e step) (q w)) (q w) (told (length es) (news s es e step) (queue s es w)) (queue s es w)
      (ap is_some (pairs_are w step)) (ap (told (length es) (news s es e step)) (old.queues w)) (old.queues w) ∙ sym (queue_on s e es w step l (ap step_of is) (ap is_set is));
  used = λ u. c_us u ∙ ap (λ b. bytes_eq step u || b) (old.used u) ∙ sym (used_create e es step u set is);
}
  where
    fresh : used es step ≡ false
    fresh = created_fresh s es step set (sym (ap (said s es) is) ∙ succeeded s e es l)

    pairs_are : (w u : List ℕ) → how' w u ≡ live s (e ∷ es) w u
    pairs_are w u =
        c_how w u ∙ cond_both (bytes_eq step u) (bytes_eq step u) (covered (cov w) (row s (e ∷ es) step)) (how w u) (covered (global s.peers es w) (row s (e ∷ es) step)) (live s es w u)
        refl (ap (λ (c : Option (Cover A)). covered c (row s (e ∷ es) step)) (old.covers w)) (old.pairs w u) ∙ sym (live_create s e es w u step set is)

-- a request on a step that is there
pub after_change : {A : Type 0} (s : Settings) (e : Entry A) (es : List (Entry A)) (step : List ℕ) (cov cov' : List ℕ → Option (Cover A)) (how how' : List ℕ → List ℕ → Option Subscription)
    (fin fin' : List ℕ → Option ℕ) (lck lck' : List ℕ → Bool) (q q' : List ℕ → Line) (us us' : List ℕ → Bool)
    → IsLive s es cov how fin lck q us → legal s (e ∷ es) ≡ true → step_of e.request ≡ Some step → is_of_watch e.request ≡ false
    → ((w : List ℕ) → cov' w ≡ cov w)
    → ((w u : List ℕ) → how' w u ≡ how w u)
    → ((u : List ℕ) → fin' u ≡ cond (bytes_eq step u) (final_at (e ∷ es) step) (fin u))
    → ((u : List ℕ) → lck' u ≡ lck u)
    → ((w : List ℕ) → q' w ≡ cond (is_some (how w step)) (told (length es) (news s es e step) (q w)) (q w))
    → ((u : List ℕ) → us' u ≡ us u)
    → IsLive s (e ∷ es) cov' how' fin' lck' q' us'
after_change {A} s e es step cov cov' how how' fin fin' lck lck' q q' us us' old l on none c_cov c_how c_fin c_lck c_q c_us = record {
  covers = λ w. c_cov w ∙ old.covers w ∙ sym (global_same s.peers e es w (on_cover e.request on));
  pairs = λ w u. c_how w u ∙ old.pairs w u ∙ sym (same w u);
  finals = λ u. c_fin u ∙ ap (cond (bytes_eq step u) (final_at (e ∷ es) step)) (old.finals u) ∙ sym (final_on s e es u step on (new e.request none) here);
  locks = λ u. c_lck u ∙ old.locks u ∙ sym (lock_same s e es u (λ w. same w u));
  queues = λ w. c_q w ∙ cond_both (is_some (how w step)) (is_some (live s (e ∷ es) w step)) (told (length es) (news s es e step) (q w)) (q w) (told (length es) (news s es e step) (queue s es w)) (queue s es w)
      (ap is_some (old.pairs w step ∙ sym (same w step))) (ap (told (length es) (news s es e step)) (old.queues w)) (old.queues w) ∙ sym (queue_on s e es w step l on (no_set e.request none));
  used = λ u. c_us u ∙ old.used u ∙ sym (used_same e es u (no_uid e.request on none));
}
  where
    on_cover : (r : Request A) → step_of r ≡ Some step → is_of_cover r ≡ false
    on_cover (Create step set) h = refl
    on_cover (Change step state t) h = refl
    on_cover (AskCancel step reasons) h = refl
    on_cover (Set step t set) h = refl
    on_cover r h = absurd cc

    new : (r : Request A) → is_of_watch r ≡ false → creates step r ≡ false
    new (Change step state t) n = refl
    new (AskCancel step reasons) n = refl
    new (Suspend receiver) n = refl
    new (Ack upto) n = refl
    new (Reserve u) n = refl
    new r n = absurd cc

    no_set : (r : Request A) → is_of_watch r ≡ false → is_set r ≡ false
    no_set (Change step state t) n = refl
    no_set (AskCancel step reasons) n = refl
    no_set (Suspend receiver) n = refl
    no_set (Ack upto) n = refl
    no_set (Reserve u) n = refl
    no_set r n = absurd cc

    no_uid : (r : Request A) → step_of r ≡ Some step → is_of_watch r ≡ false → is_of_uid r ≡ false
    no_uid (Change step state t) h n = refl
    no_uid (AskCancel step reasons) h n = refl
    no_uid r h n = absurd cc

    here : is_held s es step ≡ true
    here = on_held s es step e.request (succeeded s e es l) (ap (is_step step) on ∙ text_is_itself step) (new e.request none)

    same : (w u : List ℕ) → live s (e ∷ es) w u ≡ live s es w u
    same w u = live_same s e es w u none

pub after_subscribe : {A : Type 0} (s : Settings) (e : Entry A) (es : List (Entry A)) (target : Target A) (receiver : List ℕ) (lock : Bool) (cov cov' : List ℕ → Option (Cover A)) (how how' : List ℕ → List ℕ → Option Subscription)
    (fin fin' : List ℕ → Option ℕ) (lck lck' : List ℕ → Bool) (q q' : List ℕ → Line) (us us' : List ℕ → Bool)
    → IsLive s es cov how fin lck q us → legal s (e ∷ es) ≡ true → e.request ≡ Subscribe target receiver lock
    → ((w : List ℕ) → cov' w ≡ cond (bytes_eq receiver w) (option_or (cover_to target (granted s.peers receiver lock)) (cov w)) (cov w))
    → ((w u : List ℕ) → how' w u ≡ cond (bytes_eq receiver w && is_among u (chosen s es target)) (Some (granted s.peers receiver lock)) (how w u))
    → ((u : List ℕ) → fin' u ≡ fin u)
    → ((u : List ℕ) → lck' u ≡ cond (is_among u (chosen s es target)) (any_lock s.peers how' u) (lck u))
    → ((w : List ℕ) → q' w ≡ cond (bytes_eq receiver w) (told (length es) (map (as_it_is s es) (chosen s es target)) (q w)) (q w))
    → ((u : List ℕ) → us' u ≡ us u)
    → IsLive s (e ∷ es) cov' how' fin' lck' q' us'
after_subscribe {A} s e es target receiver lock cov cov' how how' fin fin' lck lck' q q' us us' old l is c_cov c_how c_fin c_lck c_q c_us = record {
  covers = λ w. c_cov w ∙ ap (λ (c : Option (Cover A)). cond (bytes_eq receiver w) (option_or (cover_to target (granted s.peers receiver lock)) c) c) (old.covers w) ∙ sym (global_subscribe s.peers e es w target receiver lock is);
  pairs = pairs_are;
  finals = λ u. c_fin u ∙ old.finals u ∙ sym (final_same s e es u (ap is_of_no_step is));
  locks = locks_again s e es how' lck lck' (λ u. is_among u (chosen s es target)) pairs_are old.locks
      (λ u other w. live_subscribe s e es w u target receiver lock is ∙ ap (λ b. cond (bytes_eq receiver w && b) (Some (granted s.peers receiver lock)) (live s es w u)) other ∙ nobody (bytes_eq receiver w) (Some (granted s.peers receiver lock)) (live s es w u)) c_lck;
  queues = λ w. c_q w ∙ ap (λ (k : Line). cond (bytes_eq receiver w) (told (length es) (map (as_it_is s es) (chosen s es target)) k) k) (old.queues w) ∙ sym (queue_subscribe s e es w target receiver lock (legal_tail s e es l) is);
  used = λ u. c_us u ∙ old.used u ∙ sym (used_same e es u (ap is_of_uid is));
}
  where
    nobody : {X : Type 0} (b : Bool) (x y : X) → cond (b && false) x y ≡ y
    nobody true x y = refl
    nobody false x y = refl

    pairs_are : (w u : List ℕ) → how' w u ≡ live s (e ∷ es) w u
    pairs_are w u =
        c_how w u ∙ ap (cond (bytes_eq receiver w && is_among u (chosen s es target)) (Some (granted s.peers receiver lock))) (old.pairs w u) ∙ sym (live_subscribe s e es w u target receiver lock is)

pub after_unsubscribe : {A : Type 0} (s : Settings) (e : Entry A) (es : List (Entry A)) (place : Place) (receiver : List ℕ) (steps : List (List ℕ)) (cov cov' : List ℕ → Option (Cover A)) (how how' : List ℕ → List ℕ → Option Subscription)
    (fin fin' : List ℕ → Option ℕ) (lck lck' : List ℕ → Bool) (q q' : List ℕ → Line) (us us' : List ℕ → Bool)
    → IsLive s es cov how fin lck q us → legal s (e ∷ es) ≡ true → e.request ≡ Unsubscribe place receiver
    → ((u : List ℕ) → is_at place u ≡ true → is_some (how receiver u) ≡ true → is_among u steps ≡ true)
    → ((w : List ℕ) → cov' w ≡ cond (bytes_eq receiver w) (cover_left place (cov w)) (cov w))
    → ((w u : List ℕ) → how' w u ≡ cond (bytes_eq receiver w && is_at place u) None (how w u))
    → ((u : List ℕ) → fin' u ≡ fin u)
    → ((u : List ℕ) → lck' u ≡ cond (is_among u steps) (any_lock s.peers how' u) (lck u))
    → ((w : List ℕ) → q' w ≡ q w)
    → ((u : List ℕ) → us' u ≡ us u)
    → IsLive s (e ∷ es) cov' how' fin' lck' q' us'
after_unsubscribe {A} s e es place receiver steps cov cov' how how' fin fin' lck lck' q q' us us' old l is all c_cov c_how c_fin c_lck c_q c_us = record {
  covers = λ w. c_cov w ∙ ap (λ (c : Option (Cover A)). cond (bytes_eq receiver w) (cover_left place c) c) (old.covers w) ∙ sym (ap (λ (r : Request A). global_then s.peers w (global s.peers es w) r) is);
  pairs = pairs_are;
  finals = λ u. c_fin u ∙ old.finals u ∙ sym (final_same s e es u (ap is_of_no_step is));
  locks = locks_again s e es how' lck lck' (λ u. is_among u steps) pairs_are old.locks
      (λ u other w. live_unsubscribe s e es w u place receiver is ∙ unmoved u other w (bytes_eq receiver w) refl (is_at place u) refl (live s es w u) refl) c_lck;
  queues = λ w. c_q w ∙ old.queues w ∙ sym (queue_same s e es w (legal_tail s e es l) (ap is_silent is));
  used = λ u. c_us u ∙ old.used u ∙ sym (used_same e es u (ap is_of_uid is));
}
  where
    pairs_are : (w u : List ℕ) → how' w u ≡ live s (e ∷ es) w u
    pairs_are w u = c_how w u ∙ ap (cond (bytes_eq receiver w && is_at place u) None) (old.pairs w u) ∙ sym (live_unsubscribe s e es w u place receiver is)

    -- who is subscribed nowhere else stays so
    unmoved : (u : List ℕ) → is_among u steps ≡ false → (w : List ℕ) → (own : Bool) → bytes_eq receiver w ≡ own → (there : Bool) → is_at place u ≡ there → (o : Option Subscription) → live s es w u ≡ o → cond (own && there) None o ≡ o
    unmoved u other w true is_own true is_there None so = refl
    unmoved u other w true is_own true is_there (Some h) so =
        absurd (differ (is_among u steps) other (all u is_there (ap is_some (old.pairs receiver u ∙ ap (λ x. live s es x u) (same_text receiver w is_own) ∙ so))))
    unmoved u other w true is_own false is_there o so = refl
    unmoved u other w false is_own there is_there o so = refl

pub after_suspend : {A : Type 0} (s : Settings) (e : Entry A) (es : List (Entry A)) (receiver : List ℕ) (cov cov' : List ℕ → Option (Cover A)) (how how' : List ℕ → List ℕ → Option Subscription)
    (fin fin' : List ℕ → Option ℕ) (lck lck' : List ℕ → Bool) (q q' : List ℕ → Line) (us us' : List ℕ → Bool)
    → IsLive s es cov how fin lck q us → legal s (e ∷ es) ≡ true → e.request ≡ Suspend receiver
    → ((w : List ℕ) → cov' w ≡ cond (bytes_eq receiver w) None (cov w))
    → ((w u : List ℕ) → how' w u ≡ how w u)
    → ((u : List ℕ) → fin' u ≡ fin u)
    → ((u : List ℕ) → lck' u ≡ lck u)
    → ((w : List ℕ) → q' w ≡ q w)
    → ((u : List ℕ) → us' u ≡ us u)
    → IsLive s (e ∷ es) cov' how' fin' lck' q' us'
after_suspend {A} s e es receiver cov cov' how how' fin fin' lck lck' q q' us us' old l is c_cov c_how c_fin c_lck c_q c_us = record {
  covers = λ w. c_cov w ∙ ap (cond (bytes_eq receiver w) None) (old.covers w) ∙ sym (ap (λ (r : Request A). global_then s.peers w (global s.peers es w) r) is);
  pairs = λ w u. c_how w u ∙ old.pairs w u ∙ sym (live_same s e es w u (ap is_of_watch is));
  finals = λ u. c_fin u ∙ old.finals u ∙ sym (final_same s e es u (ap is_of_no_step is));
  locks = λ u. c_lck u ∙ old.locks u ∙ sym (lock_same s e es u (λ w. live_same s e es w u (ap is_of_watch is)));
  queues = λ w. c_q w ∙ old.queues w ∙ sym (queue_same s e es w (legal_tail s e es l) (ap is_silent is));
  used = λ u. c_us u ∙ old.used u ∙ sym (used_same e es u (ap is_of_uid is));
}

pub after_ack : {A : Type 0} (s : Settings) (e : Entry A) (es : List (Entry A)) (upto : ℕ) (cov cov' : List ℕ → Option (Cover A)) (how how' : List ℕ → List ℕ → Option Subscription)
    (fin fin' : List ℕ → Option ℕ) (lck lck' : List ℕ → Bool) (q q' : List ℕ → Line) (us us' : List ℕ → Bool)
    → IsLive s es cov how fin lck q us → legal s (e ∷ es) ≡ true → e.request ≡ Ack upto
    → ((w : List ℕ) → cov' w ≡ cov w)
    → ((w u : List ℕ) → how' w u ≡ how w u)
    → ((u : List ℕ) → fin' u ≡ fin u)
    → ((u : List ℕ) → lck' u ≡ lck u)
    → ((w : List ℕ) → q' w ≡ cond (bytes_eq e.ae w) (acked_to upto (q w)) (q w))
    → ((u : List ℕ) → us' u ≡ us u)
    → IsLive s (e ∷ es) cov' how' fin' lck' q' us'
after_ack {A} s e es upto cov cov' how how' fin fin' lck lck' q q' us us' old l is c_cov c_how c_fin c_lck c_q c_us = record {
  covers = λ w. c_cov w ∙ old.covers w ∙ sym (global_same s.peers e es w (ap is_of_cover is));
  pairs = λ w u. c_how w u ∙ old.pairs w u ∙ sym (live_same s e es w u (ap is_of_watch is));
  finals = λ u. c_fin u ∙ old.finals u ∙ sym (final_same s e es u (ap is_of_no_step is));
  locks = λ u. c_lck u ∙ old.locks u ∙ sym (lock_same s e es u (λ w. live_same s e es w u (ap is_of_watch is)));
  queues = λ w. c_q w ∙ ap (λ (k : Line). cond (bytes_eq e.ae w) (acked_to upto k) k) (old.queues w) ∙ sym (queue_ack s e es w upto l is);
  used = λ u. c_us u ∙ old.used u ∙ sym (used_same e es u (ap is_of_uid is));
}

pub after_reserve : {A : Type 0} (s : Settings) (e : Entry A) (es : List (Entry A)) (step : List ℕ) (cov cov' : List ℕ → Option (Cover A)) (how how' : List ℕ → List ℕ → Option Subscription)
    (fin fin' : List ℕ → Option ℕ) (lck lck' : List ℕ → Bool) (q q' : List ℕ → Line) (us us' : List ℕ → Bool)
    → IsLive s es cov how fin lck q us → legal s (e ∷ es) ≡ true → e.request ≡ Reserve step
    → ((w : List ℕ) → cov' w ≡ cov w)
    → ((w u : List ℕ) → how' w u ≡ how w u)
    → ((u : List ℕ) → fin' u ≡ fin u)
    → ((u : List ℕ) → lck' u ≡ lck u)
    → ((w : List ℕ) → q' w ≡ q w)
    → ((u : List ℕ) → us' u ≡ (bytes_eq step u || us u))
    → IsLive s (e ∷ es) cov' how' fin' lck' q' us'
after_reserve {A} s e es step cov cov' how how' fin fin' lck lck' q q' us us' old l is c_cov c_how c_fin c_lck c_q c_us = record {
  covers = λ w. c_cov w ∙ old.covers w ∙ sym (global_same s.peers e es w (ap is_of_cover is));
  pairs = λ w u. c_how w u ∙ old.pairs w u ∙ sym (live_same s e es w u (ap is_of_watch is));
  finals = λ u. c_fin u ∙ old.finals u ∙ sym (final_same s e es u (ap is_of_no_step is));
  locks = λ u. c_lck u ∙ old.locks u ∙ sym (lock_same s e es u (λ w. live_same s e es w u (ap is_of_watch is)));
  queues = λ w. c_q w ∙ old.queues w ∙ sym (queue_same s e es w (legal_tail s e es l) (ap is_silent is));
  used = λ u. c_us u ∙ ap (λ b. bytes_eq step u || b) (old.used u) ∙ sym (used_reserve e es step u is);
}

-- a sweep: `due` are the steps that it removes, in whatever order
pub after_sweep : {A : Type 0} (s : Settings) (e : Entry A) (es : List (Entry A)) (due : List (List ℕ)) (cov cov' : List ℕ → Option (Cover A)) (how how' : List ℕ → List ℕ → Option Subscription)
    (fin fin' : List ℕ → Option ℕ) (lck lck' : List ℕ → Bool) (q q' : List ℕ → Line) (us us' : List ℕ → Bool)
    → IsLive s es cov how fin lck q us → legal s (e ∷ es) ≡ true → e.request ≡ Sweep
    → ((u : List ℕ) → is_among u due ≡ is_among u (removed s es e.moment))
    → ((w : List ℕ) → cov' w ≡ cov w)
    → ((w u : List ℕ) → how' w u ≡ cond (is_among u due) None (how w u))
    → ((u : List ℕ) → fin' u ≡ cond (is_among u due) None (fin u))
    → ((u : List ℕ) → lck' u ≡ cond (is_among u due) false (lck u))
    → ((w : List ℕ) → q' w ≡ q w)
    → ((u : List ℕ) → us' u ≡ us u)
    → IsLive s (e ∷ es) cov' how' fin' lck' q' us'
after_sweep {A} s e es due cov cov' how how' fin fin' lck lck' q q' us us' old l is gone c_cov c_how c_fin c_lck c_q c_us = record {
  covers = λ w. c_cov w ∙ old.covers w ∙ sym (global_same s.peers e es w (ap is_of_cover is));
  pairs = λ w u. c_how w u ∙ cond_both _ _ None (how w u) None (live s es w u) (gone u) refl (old.pairs w u) ∙ sym (live_sweep s e es w u is);
  finals = λ u. c_fin u ∙ cond_both _ _ None (fin u) None (final s es u) (gone u) refl (old.finals u) ∙ sym (final_sweep s e es u is);
  locks = λ u. c_lck u ∙ cond_both _ _ false (lck u) false (locked s es u) (gone u) refl (old.locks u) ∙ sym (locks_sweep u);
  queues = λ w. c_q w ∙ old.queues w ∙ sym (queue_same s e es w (legal_tail s e es l) (ap is_silent is));
  used = λ u. c_us u ∙ old.used u ∙ sym (used_same e es u (ap is_of_uid is));
}
  where
    none_of : (u : List ℕ) (ps : List Peer) → is_among u (removed s es e.moment) ≡ true → list_any (λ (p : Peer). is_locked (live s (e ∷ es) p.ae u)) ps ≡ false
    none_of u [] h = refl
    none_of u (p ∷ ps) h = ap (λ b. b || list_any (λ (p : Peer). is_locked (live s (e ∷ es) p.ae u)) ps) (ap is_locked (live_sweep s e es p.ae u is ∙ ap (λ b. cond b None (live s es p.ae u)) h)) ∙ none_of u ps h

    locks_sweep : (u : List ℕ) → locked s (e ∷ es) u ≡ cond (is_among u (removed s es e.moment)) false (locked s es u)
    locks_sweep u = at (is_among u (removed s es e.moment)) refl
      where
        at : (b : Bool) → is_among u (removed s es e.moment) ≡ b → locked s (e ∷ es) u ≡ cond b false (locked s es u)
        at true h = none_of u s.peers h
        at false h = lock_same s e es u (λ w. live_sweep s e es w u is ∙ ap (λ b. cond b None (live s es w u)) h)
