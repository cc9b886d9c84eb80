-- What each kind of request makes of the queues of events (PS3.4 CC.2.4).
use Rattle.std.proofs.Common.{◌≡◌, ℕ, ◌+◌, ◌≤◌, ◌<◌, Bool, true, false, cond, List, [], ◌∷◌, ◌++◌, length, map, Option, None, Some, refl, sym, ap, ◌∙◌, arith, append_assoc, length-append}
use Rattle.std.specs.Prelude.{is_some, nat_lt, nat_le}
use Rattle.std.specs.Str.{bytes_eq}
use Rattle.std.proofs.lemmas.Bool.Decides.{nat_tests}
use Rattle.std.proofs.lemmas.List.{append-nil}
use Rattle.ups_life.specs.declared.entry.Entry.{Entry}
use Rattle.ups_life.specs.declared.event.Event.{Event}
use Rattle.ups_life.specs.declared.event.Report.{Report}
use Rattle.ups_life.specs.declared.request.Request.{Request}
use Rattle.ups_life.specs.declared.request.Request.TheVariants.{Create, Change, AskCancel, Set, Subscribe, Unsubscribe, Suspend, Ack, Sweep, Reserve}
use Rattle.ups_life.specs.declared.request.Transaction.{Transaction}
use Rattle.ups_dataset.specs.Data.{El}
use Rattle.ups_life.specs.declared.request.Reply.TheVariants.{Status as Answered, AckAhead, AckStale}
use Rattle.ups_cycle.specs.declared.status.Status.TheVariants.{Success}
use Rattle.ups_life.specs.declared.watching.Subscription.{Subscription}
use Rattle.ups_life.specs.declared.watching.Target.{Target}
use Rattle.ups_life.specs.Settings.{Settings}
use Rattle.ups_life.specs.Steps.{is_step, step_of, creates, row, row_of}
use Rattle.ups_life.specs.Watching.{cover, watch_after, watch, held, held_after, is_held, is_among}
use Rattle.ups_life.specs.Events.{as_it_is, only_if, told_of, if_watched, reports_of, numbered, events, acked_after, acked, current}
use Rattle.ups_life.specs.History.{accepts, acknowledged, decided, legal}
use Rattle.ups_watch.specs.Covers.{covered}
use Rattle.ups_tables.specs.Live.{global, live, chosen, queue, news, news_by, is_ack, is_set, is_silent, is_of_watch}
use Rattle.ups_events.specs.Queue.{added}
use Rattle.ups_events.specs.Telling.{Line, event_of, one_more, told, acked_to}
use Rattle.ups_life.proofs.Texts.{same_text, text_is_itself}
use Rattle.ups_life.proofs.Current.{later}
use Rattle.ups_life.proofs.Queued.{pending_push, pending_ack}
use Rattle.ups_life.proofs.Receiving.{acked_made}
use Rattle.ups_life.proofs.Accepted.{said, succeeded, legal_head, legal_tail, on_held}
use Rattle.ups_tables.proofs.Living.{cover-global, live_create, live_same}

-- ACKNOWLEDGEMENTS

-- one that is accepted goes further than the one before
goes_further : (A : Type 0) (made before upto : ℕ) → accepts {A = A} (acknowledged made before upto) ≡ true → before < upto
goes_further A made before upto h = at (nat_lt made upto) (nat_le upto before) refl h
  where
    at : (a b : Bool) → nat_le upto before ≡ b → accepts {A = A} (cond a AckAhead (cond b AckStale (Answered Success))) ≡ true → before < upto
    at true b stale g = absurd cc
    at false true stale g = absurd cc
    at false false stale g = grind (arith, nat_tests, stale)

ack_is : {A : Type 0} (s : Settings) (e : Entry A) (es : List (Entry A)) (upto : ℕ) → e.request ≡ Ack upto → legal s (e ∷ es) ≡ true → acked es e.ae < upto
ack_is {A} s e es upto is h = goes_further A (length (events s es e.ae)) (acked es e.ae) upto (sym (ap (λ (r : Request A). accepts (decided s es e r)) is) ∙ legal_head s e es h)

-- MORE EVENTS

-- the line of a watcher for whom these events were made, of which it has acknowledged those up to k
abbrev line_of : ℕ → List Event → Line
line_of k xs = record { made = length xs; acked = k; events = later k (current xs) }

one_longer : (xs : List Event) (x : Event) → length (xs ++ x ∷ []) ≡ length xs + 1
one_longer xs x = length-append xs (x ∷ [])

-- what is told goes behind what is pending, and has greater numbers than what was acknowledged
told_more : (k place : ℕ) (xs : List Event) (rs : List Report) → k ≤ length xs → told place rs (line_of k xs) ≡ line_of k (xs ++ numbered (length xs + 1) place rs)
told_more k place xs [] h = ap (line_of k) (sym (append-nil xs))
told_more k place xs (r ∷ rs) h =
    ap (told place rs) one ∙ told_more k place (xs ++ x ∷ []) rs (omega (arith, h, one_longer xs x))
    ∙ ap (λ n. line_of k ((xs ++ x ∷ []) ++ numbered (n + 1) place rs)) (one_longer xs x)
    ∙ ap (line_of k) (append_assoc xs (x ∷ []) (numbered (length xs + 1 + 1) place rs))
  where
    x : Event
    x = event_of (length xs + 1) place r

    one : one_more place (line_of k xs) r ≡ line_of k (xs ++ x ∷ [])
    one =
        let next : k < length xs + 1 = omega (arith, h) in
        ap (λ n. record { made = n; acked = k; events = added (later k (current xs)) x }) (sym (one_longer xs x))
        ∙ ap (λ l. record { made = length (xs ++ x ∷ []); acked = k; events = l }) (sym (pending_push k xs x next))

pub queue_told : {A : Type 0} (s : Settings) (e : Entry A) (es : List (Entry A)) (w : List ℕ) (xs : List Report) → legal s es ≡ true → acked (e ∷ es) w ≡ acked es w → reports_of s es e w e.request ≡ xs
    → queue s (e ∷ es) w ≡ told (length es) xs (queue s es w)
queue_told {A} s e es w xs h same is =
    ap (λ n. line_of n (events s (e ∷ es) w)) same ∙ ap (λ l. line_of (acked es w) (events s es w ++ numbered (length (events s es w) + 1) (length es) l)) is
    ∙ sym (told_more (acked es w) (length es) (events s es w) xs (acked_made s es w h))

told_if : (b : Bool) (place : ℕ) (xs : List Report) (q : Line) → told place (cond b xs []) q ≡ cond b (told place xs q) q
told_if true place xs q = refl
told_if false place xs q = refl

told_either : (b c : Bool) (place : ℕ) (xs ys : List Report) (q : Line) → told place (cond b xs (cond c ys [])) q ≡ cond b (told place xs q) (cond c (told place ys q) q)
told_either true c place xs ys q = refl
told_either false c place xs ys q = told_if c place ys q

-- only an acknowledgement acknowledges
pub acked_same : {A : Type 0} (e : Entry A) (es : List (Entry A)) (w : List ℕ) → is_ack e.request ≡ false → acked (e ∷ es) w ≡ acked es w
acked_same {A} e es w none = at e.request none
  where
    at : (r : Request A) → is_ack r ≡ false → acked_after w e.ae (acked es w) r ≡ acked es w
    at (Ack upto) h = absurd cc
    at (Create step set) h = refl
    at (Change step state t) h = refl
    at (AskCancel step reasons) h = refl
    at (Set step t set) h = refl
    at (Subscribe target receiver lock) h = refl
    at (Unsubscribe place receiver) h = refl
    at (Suspend receiver) h = refl
    at Sweep h = refl
    at (Reserve step) h = refl

-- A REQUEST ON A STEP: whoever watches it afterwards is told the news of it

only : (b : Bool) (x : Report) → only_if b x ≡ cond b (x ∷ []) []
only true x = refl
only false x = refl

no_more : (o : Option Subscription) (l : List Report) (x : Report) → cond (is_some o) l (only_if (is_some o) x) ≡ cond (is_some o) l []
no_more None l x = refl
no_more (Some h) l x = refl

pub reports_on : {A : Type 0} (s : Settings) (e : Entry A) (es : List (Entry A)) (w u : List ℕ) → step_of e.request ≡ Some u → is_set e.request ≡ false → said s es e.request ≡ Success
    → reports_of s es e w e.request ≡ cond (is_some (live s (e ∷ es) w u)) (news s es e u) []
reports_on {A} s e es w u on other d = at e.request refl on other d
  where
    -- the step is held, and watched as before
    seen : (r : Request A) → e.request ≡ r → is_of_watch r ≡ false → is_held s es u ≡ true → watch s es w u ≡ live s (e ∷ es) w u
    seen r is none here = sym (live_same s e es w u (ap is_of_watch is ∙ none) ∙ ap (λ b. cond b (watch s es w u) None) here)

    stays : (r : Request A) → is_of_watch r ≡ false → watch_after s es e w u (watch s es w u) r ≡ watch s es w u
    stays (Change step state t) h = refl
    stays (AskCancel step reasons) h = refl
    stays (Suspend receiver) h = refl
    stays (Ack upto) h = refl
    stays (Reserve step) h = refl
    stays r h = absurd cc

    -- of a step that is there already
    on_it : (r : Request A) → e.request ≡ r → is_of_watch r ≡ false → step_of r ≡ Some u → is_held s es u ≡ true → told_of s es e u r ≡ news_by u (row_of s es u) (row_of s (e ∷ es) u) r
        → if_watched s es e w (step_of r) (λ v. told_of s es e v r) ≡ cond (is_some (live s (e ∷ es) w u)) (news_by u (row_of s es u) (row_of s (e ∷ es) u) r) []
    on_it r is none named here same =
        ap (λ o. if_watched s es e w o (λ v. told_of s es e v r)) named
        ∙ ap (λ (o : Option Subscription). cond (is_some (watch s es w u)) (told_of s es e u r) (only_if (is_some o) (as_it_is s (e ∷ es) u))) (ap (λ (q : Request A). watch_after s es e w u (watch s es w u) q) is ∙ stays r none)
        ∙ no_more (watch s es w u) (told_of s es e u r) (as_it_is s (e ∷ es) u)
        ∙ ap (λ (o : Option Subscription). cond (is_some o) (told_of s es e u r) []) (seen r is none here)
        ∙ ap (λ l. cond (is_some (live s (e ∷ es) w u)) l []) same

    named_held : (r : Request A) → said s es r ≡ Success → step_of r ≡ Some u → creates u r ≡ false → is_held s es u ≡ true
    named_held r dd named old = on_held s es u r dd (ap (is_step u) named ∙ text_is_itself u) old

    at : (r : Request A) → e.request ≡ r → step_of r ≡ Some u → is_set r ≡ false → said s es r ≡ Success → reports_of s es e w r ≡ cond (is_some (live s (e ∷ es) w u)) (news_by u (row_of s es u) (row_of s (e ∷ es) u) r) []
    at (Create step set) is named n dd =
        let same : step ≡ u = cc in
        ap (λ x. only_if (is_some (cover s.peers es w (row s (e ∷ es) x))) (as_it_is s (e ∷ es) x)) same
        ∙ only (is_some (cover s.peers es w (row s (e ∷ es) u))) (as_it_is s (e ∷ es) u)
        ∙ ap (λ (o : Option Subscription). cond (is_some o) (as_it_is s (e ∷ es) u ∷ []) [])
        (cover-global s.peers es w (row s (e ∷ es) u)
        ∙ sym (live_create s e es w u step set is ∙ ap (λ x. cond (bytes_eq x u) (covered (global s.peers es w) (row s (e ∷ es) x)) (live s es w u)) same
        ∙ ap (λ b. cond b (covered (global s.peers es w) (row s (e ∷ es) u)) (live s es w u)) (text_is_itself u)))
    at (Change step state t) is named n dd = on_it (Change step state t) is refl named (named_held (Change step state t) dd named refl) refl
    at (AskCancel step reasons) is named n dd = on_it (AskCancel step reasons) is refl named (named_held (AskCancel step reasons) dd named refl) refl
    at (Set step t set) is named n dd = absurd cc
    at r is named n dd = absurd cc

-- an N-SET: who watched the step is told the news, who begins to watch it by this that the step is as it is
pub reports_set : {A : Type 0} (s : Settings) (e : Entry A) (es : List (Entry A)) (w u : List ℕ) (t : Transaction) (set : List El) → e.request ≡ Set (Some u) t set → is_held s es u ≡ true
    → reports_of s es e w e.request ≡ cond (is_some (live s es w u)) (news s es e u) (cond (is_some (live s (e ∷ es) w u)) (as_it_is s (e ∷ es) u ∷ []) [])
reports_set {A} s e es w u t set is here =
    let still : is_held s (e ∷ es) u ≡ true = ap (λ (r : Request A). is_among u (held_after s es e.moment (held s es) r)) is ∙ here in
    ap (λ (r : Request A). reports_of s es e w r) is
    ∙ ap (λ (o : Option Subscription). cond (is_some o) (told_of s es e u (Set (Some u) t set)) (only_if (is_some (watch s (e ∷ es) w u)) (as_it_is s (e ∷ es) u))) (sym (ap (λ b. cond b (watch s es w u) None) here))
    ∙ ap (λ (o : Option Subscription). cond (is_some (live s es w u)) (told_of s es e u (Set (Some u) t set)) (only_if (is_some o) (as_it_is s (e ∷ es) u))) (sym (ap (λ b. cond b (watch s (e ∷ es) w u) None) still))
    ∙ ap (λ l. cond (is_some (live s es w u)) (told_of s es e u (Set (Some u) t set)) l) (only (is_some (live s (e ∷ es) w u)) (as_it_is s (e ∷ es) u))
    ∙ ap (λ (r : Request A). cond (is_some (live s es w u)) (news_by u (row_of s es u) (row_of s (e ∷ es) u) r) (cond (is_some (live s (e ∷ es) w u)) (as_it_is s (e ∷ es) u ∷ []) [])) (sym is)

of_step_is_no_ack : {A : Type 0} (r : Request A) (u : List ℕ) → step_of r ≡ Some u → is_ack r ≡ false
of_step_is_no_ack (Create step set) u on = refl
of_step_is_no_ack (Change step state t) u on = refl
of_step_is_no_ack (AskCancel step reasons) u on = refl
of_step_is_no_ack (Set step t set) u on = refl
of_step_is_no_ack r u on = absurd cc

pub queue_on : {A : Type 0} (s : Settings) (e : Entry A) (es : List (Entry A)) (w u : List ℕ) → legal s (e ∷ es) ≡ true → step_of e.request ≡ Some u → is_set e.request ≡ false
    → queue s (e ∷ es) w ≡ cond (is_some (live s (e ∷ es) w u)) (told (length es) (news s es e u) (queue s es w)) (queue s es w)
queue_on s e es w u l on other =
    queue_told s e es w _ (legal_tail s e es l) (acked_same e es w (of_step_is_no_ack e.request u on)) (reports_on s e es w u on other (succeeded s e es l))
    ∙ told_if (is_some (live s (e ∷ es) w u)) (length es) (news s es e u) (queue s es w)

pub queue_set : {A : Type 0} (s : Settings) (e : Entry A) (es : List (Entry A)) (w u : List ℕ) (t : Transaction) (set : List El) → legal s (e ∷ es) ≡ true → e.request ≡ Set (Some u) t set → is_held s es u ≡ true
    → queue s (e ∷ es) w ≡ cond (is_some (live s es w u)) (told (length es) (news s es e u) (queue s es w)) (cond (is_some (live s (e ∷ es) w u)) (told (length es) (as_it_is s (e ∷ es) u ∷ []) (queue s es w)) (queue s es w))
queue_set {A} s e es w u t set l is here =
    queue_told s e es w _ (legal_tail s e es l) (acked_same e es w (ap is_ack is)) (reports_set s e es w u t set is here)
    ∙ told_either (is_some (live s es w u)) (is_some (live s (e ∷ es) w u)) (length es) (news s es e u) (as_it_is s (e ∷ es) u ∷ []) (queue s es w)

-- A SUBSCRIPTION: the receiver is told of each step that is chosen, as it is

pub queue_subscribe : {A : Type 0} (s : Settings) (e : Entry A) (es : List (Entry A)) (w : List ℕ) (target : Target A) (receiver : List ℕ) (lock : Bool) → legal s es ≡ true → e.request ≡ Subscribe target receiver lock
    → queue s (e ∷ es) w ≡ cond (bytes_eq receiver w) (told (length es) (map (as_it_is s es) (chosen s es target)) (queue s es w)) (queue s es w)
queue_subscribe {A} s e es w target receiver lock l is =
    queue_told s e es w (cond (bytes_eq receiver w) (map (as_it_is s es) (chosen s es target)) []) l (acked_same e es w (ap is_ack is)) (ap (λ (r : Request A). reports_of s es e w r) is)
    ∙ told_if (bytes_eq receiver w) (length es) (map (as_it_is s es) (chosen s es target)) (queue s es w)

-- AN ACKNOWLEDGEMENT

pub queue_ack : {A : Type 0} (s : Settings) (e : Entry A) (es : List (Entry A)) (w : List ℕ) (upto : ℕ) → legal s (e ∷ es) ≡ true → e.request ≡ Ack upto
    → queue s (e ∷ es) w ≡ cond (bytes_eq e.ae w) (acked_to upto (queue s es w)) (queue s es w)
queue_ack {A} s e es w upto l is =
    ap (λ (r : Request A). put (events s es w ++ numbered (length (events s es w) + 1) (length es) (reports_of s es e w r)) (acked_after w e.ae (acked es w) r)) is
    ∙ ap (λ l. put l (cond (bytes_eq e.ae w) upto (acked es w))) (append-nil (events s es w))
    ∙ at (bytes_eq e.ae w) refl
  where
    put : List Event → ℕ → Line
    put l a = record { made = length l; acked = a; events = later a (current l) }

    at : (b : Bool) → bytes_eq e.ae w ≡ b → put (events s es w) (cond b upto (acked es w)) ≡ cond b (acked_to upto (queue s es w)) (queue s es w)
    at true own =
        let a = ack_is s e es upto is l in
        let same : acked es e.ae ≡ acked es w = ap (acked es) (same_text e.ae w own) in
        ap (λ l. pick l) (sym (pending_ack (acked es w) upto (current (events s es w)) (omega (arith, a, same))))
      where
        pick : List Event → Line
        pick l = record { made = length (events s es w); acked = upto; events = l }
    at false own = refl

-- ANY OTHER REQUEST

pub queue_same : {A : Type 0} (s : Settings) (e : Entry A) (es : List (Entry A)) (w : List ℕ) → legal s es ≡ true → is_silent e.request ≡ true → queue s (e ∷ es) w ≡ queue s es w
queue_same {A} s e es w l silent = queue_told s e es w [] l (acked_same e es w (at e.request silent)) (none e.request silent)
  where
    at : (r : Request A) → is_silent r ≡ true → is_ack r ≡ false
    at (Unsubscribe place receiver) h = refl
    at (Suspend receiver) h = refl
    at Sweep h = refl
    at (Reserve step) h = refl
    at r h = absurd cc

    none : (r : Request A) → is_silent r ≡ true → reports_of s es e w r ≡ []
    none (Unsubscribe place receiver) h = refl
    none (Suspend receiver) h = refl
    none Sweep h = refl
    none (Reserve step) h = refl
    none r h = absurd cc
