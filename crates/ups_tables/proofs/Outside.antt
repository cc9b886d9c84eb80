-- Who is no peer is subscribed to nothing (PS3.4 CC.2.3).
use Rattle.std.proofs.Common.{◌≡◌, ℕ, Bool, true, false, cond, ◌&&◌, List, [], ◌∷◌, Option, None, Some, refl, sym, ap, ◌∙◌}
use Rattle.std.specs.Option.{option_or}
use Rattle.std.specs.Str.{bytes_eq}
use Rattle.ups_life.specs.declared.entry.Entry.{Entry}
use Rattle.ups_life.specs.declared.peer.Peer.{Peer}
use Rattle.ups_life.specs.declared.request.Request.{Request}
use Rattle.ups_life.specs.declared.request.Request.TheVariants.{Create, Change, AskCancel, Set, Subscribe, Unsubscribe, Suspend, Ack, Sweep, Reserve}
use Rattle.ups_cycle.specs.declared.status.Status.{Status}
use Rattle.ups_life.specs.declared.watching.Subscription.{Subscription}
use Rattle.ups_life.specs.Settings.{Settings}
use Rattle.ups_life.specs.Steps.{is_step, named_step, row}
use Rattle.ups_life.specs.Watching.{is_peer, takes_in, is_at, granted, cover, newly_covered, watch_after, watch, is_held, known}
use Rattle.ups_cycle.specs.Statuses.{is_done}
use Rattle.ups_life.specs.History.{of_peer, of_lock, sized, row_then, repeats, accepts, decided, receiver_of, legal}
use Rattle.ups_life.specs.Verdict.{verdict}
use Rattle.ups_life.proofs.Texts.{same_text}
use Rattle.ups_life.proofs.Accepted.{differ, legal_head, legal_tail, for_peer}
use Rattle.ups_watch.specs.declared.cover.Cover.{Cover}
use Rattle.ups_watch.specs.Covers.{covered}
use Rattle.ups_tables.specs.Live.{global_then, global, live, newly_by}
use Rattle.ups_tables.proofs.Living.{cover-global, newly-covers}

-- what is decided of it, whoever it is for
abbrev inner : {A : Type 0} → Settings → List (Entry A) → Entry A → Status
inner s es e = of_lock s.peers e.request (sized e.request (row_then s es e).attributes (verdict (known s es (named_step e.request)) (repeats es e.request) e.request))

receiver_is_peer : {A : Type 0} (s : Settings) (e : Entry A) (es : List (Entry A)) (r : Request A) (receiver : List ℕ) → e.request ≡ r → receiver_of r ≡ Some receiver → legal s (e ∷ es) ≡ true → is_peer s.peers receiver ≡ true
receiver_is_peer {A} s e es r receiver is of l = at r is of (sym (ap (λ (q : Request A). accepts (decided s es e q)) is) ∙ legal_head s e es l)
  where
    named : (q : Request A) → e.request ≡ q → receiver_of q ≡ Some receiver → receiver_of e.request ≡ Some receiver
    named q same h = ap receiver_of same ∙ h

    at : (q : Request A) → e.request ≡ q → receiver_of q ≡ Some receiver → accepts (decided s es e q) ≡ true → is_peer s.peers receiver ≡ true
    at (Subscribe target w lock) same h ok = for_peer s.peers receiver (inner s es e) (sym (ap (λ o. is_done (of_peer s.peers o (inner s es e))) (named (Subscribe target w lock) same h)) ∙ ok)
    at (Unsubscribe place w) same h ok = for_peer s.peers receiver (inner s es e) (sym (ap (λ o. is_done (of_peer s.peers o (inner s es e))) (named (Unsubscribe place w) same h)) ∙ ok)
    at (Suspend w) same h ok = for_peer s.peers receiver (inner s es e) (sym (ap (λ o. is_done (of_peer s.peers o (inner s es e))) (named (Suspend w) same h)) ∙ ok)
    at q same h ok = absurd cc

-- what a peer asks for changes nothing for another
beside : {X : Type 0} (peers : List Peer) (receiver w : List ℕ) (more : Bool) (now before : X) → is_peer peers w ≡ false → is_peer peers receiver ≡ true → cond (bytes_eq receiver w && more) now before ≡ before
beside peers receiver w more now before out is = at (bytes_eq receiver w) refl
  where
    at : (b : Bool) → bytes_eq receiver w ≡ b → cond (b && more) now before ≡ before
    at true e = absurd (differ (is_peer peers w) out (ap (is_peer peers) (sym (same_text receiver w e)) ∙ is))
    at false e = refl

and_true : (b : Bool) → b ≡ (b && true)
and_true true = refl
and_true false = refl

alone : {X : Type 0} (peers : List Peer) (receiver w : List ℕ) (now before : X) → is_peer peers w ≡ false → is_peer peers receiver ≡ true → cond (bytes_eq receiver w) now before ≡ before
alone peers receiver w now before out is = ap (λ b. cond b now before) (and_true (bytes_eq receiver w)) ∙ beside peers receiver w true now before out is

pub no_global : {A : Type 0} (s : Settings) (es : List (Entry A)) (w : List ℕ) → is_peer s.peers w ≡ false → legal s es ≡ true → global s.peers es w ≡ None
no_global s [] w out l = refl
no_global {A} s (e ∷ es) w out l = at e.request refl ∙ no_global s es w out (legal_tail s e es l)
  where
    before : Option (Cover A)
    before = global s.peers es w

    at : (r : Request A) → e.request ≡ r → global_then s.peers w (global s.peers es w) r ≡ global s.peers es w
    at (Subscribe target receiver lock) is = alone s.peers receiver w _ _ out (receiver_is_peer s e es (Subscribe target receiver lock) receiver is refl l)
    at (Unsubscribe place receiver) is = alone s.peers receiver w _ _ out (receiver_is_peer s e es (Unsubscribe place receiver) receiver is refl l)
    at (Suspend receiver) is = alone s.peers receiver w _ _ out (receiver_is_peer s e es (Suspend receiver) receiver is refl l)
    at (Create step set) is = refl
    at (Change step state t) is = refl
    at (AskCancel step reasons) is = refl
    at (Set step t set) is = refl
    at (Ack upto) is = refl
    at Sweep is = refl
    at (Reserve step) is = refl

either : {X : Type 0} (b : Bool) (x y z : X) → x ≡ z → y ≡ z → cond b x y ≡ z
either true x y z h k = h
either false x y z h k = k

-- and whose filter never takes a step in
pub no_newly : {A : Type 0} (s : Settings) (e : Entry A) (es : List (Entry A)) (w u : List ℕ) → is_peer s.peers w ≡ false → legal s es ≡ true → newly_covered s es e w u ≡ None
no_newly {A} s e es w u out l = newly-covers s e es w u ∙ ap (λ (c : Option (Cover A)). newly_by c (row s es u) (row s (e ∷ es) u)) (no_global s es w out l)

no_watch : {A : Type 0} (s : Settings) (es : List (Entry A)) (w u : List ℕ) → is_peer s.peers w ≡ false → legal s es ≡ true → watch s es w u ≡ None
no_watch s [] w u out l = refl
no_watch {A} s (e ∷ es) w u out l = at e.request refl (no_watch s es w u out (legal_tail s e es l))
  where
    at : (r : Request A) → e.request ≡ r → watch s es w u ≡ None → watch_after s es e w u (watch s es w u) r ≡ None
    at (Create step set) is before = either (bytes_eq step u) (cover s.peers es w (row s (e ∷ es) u)) (watch s es w u) None
        (cover-global s.peers es w (row s (e ∷ es) u) ∙ ap (λ (c : Option (Cover A)). covered c (row s (e ∷ es) u)) (no_global s es w out (legal_tail s e es l))) before
    at (Subscribe target receiver lock) is before = beside s.peers receiver w (takes_in target u (row s es u)) (Some (granted s.peers w lock)) (watch s es w u) out (receiver_is_peer s e es (Subscribe target receiver lock) receiver is refl l) ∙ before
    at (Unsubscribe place receiver) is before = either (bytes_eq receiver w && is_at place u) None (watch s es w u) None refl before
    at (Change step state t) is before = before
    at (AskCancel step reasons) is before = before
    at (Set step t set) is before = either (is_step u step) (option_or (watch s es w u) (newly_covered s es e w u)) (watch s es w u) None
        (ap (λ (o : Option Subscription). option_or o (newly_covered s es e w u)) before ∙ no_newly s e es w u out (legal_tail s e es l)) before
    at (Suspend receiver) is before = before
    at (Ack upto) is before = before
    at Sweep is before = before
    at (Reserve step) is before = before

pub no_live : {A : Type 0} (s : Settings) (es : List (Entry A)) (w u : List ℕ) → is_peer s.peers w ≡ false → legal s es ≡ true → live s es w u ≡ None
no_live s es w u out l = either (is_held s es u) (watch s es w u) None None (no_watch s es w u out l) refl
