-- What an application entity that is no peer watches, and is told: nothing, since no subscription of it is accepted.
use Rattle.std.proofs.Common.{◌≡◌, ℕ, ◌+◌, Bool, true, false, cond, ◌&&◌, List, [], ◌∷◌, ◌++◌, length, Option, None, Some, refl, sym, ap, ◌∙◌}
use Rattle.std.specs.Prelude.{is_some}
use Rattle.std.specs.List.{filter_map}
use Rattle.std.specs.Option.{option_or}
use Rattle.std.specs.Str.{bytes_eq}
use Rattle.ups_dataset.specs.Data.{El}
use Rattle.ups_life.specs.declared.entry.Entry.{Entry}
use Rattle.ups_life.specs.declared.peer.Peer.{Peer}
use Rattle.ups_life.specs.declared.request.Request.{Request}
use Rattle.ups_life.specs.declared.request.Request.TheVariants.{Create, Change, AskCancel, Set, Subscribe, Unsubscribe, Suspend, Ack, Sweep, Reserve}
use Rattle.ups_life.specs.declared.watching.Subscription.{Subscription}
use Rattle.ups_life.specs.Settings.{Settings}
use Rattle.ups_life.specs.Steps.{past, is_step, row}
use Rattle.ups_life.specs.Watching.{is_peer, takes_in, is_at, granted, global_after, global_left, cover_after, cover, newly_covered, watch_after, watch, held, watched_step, watched}
use Rattle.ups_life.specs.Events.{only_if, as_it_is, told_of, reports_of, numbered, events}
use Rattle.ups_life.specs.History.{legal}
use Rattle.ups_life.proofs.Texts.{same_text}
use Rattle.ups_life.proofs.Accepted.{differ, legal_head, legal_tail, for_peer}
use Rattle.ups_service.specs.Law.{is_legal, entry}

-- what a peer asks for changes nothing for another
beside_peer : {X : Type 0} (peers : List Peer) (receiver w : List ℕ) (more : Bool) (now before : X) → is_peer peers w ≡ false → is_peer peers receiver ≡ true → cond (bytes_eq receiver w && more) now before ≡ before
beside_peer peers receiver w more now before out is = at (bytes_eq receiver w) refl
  where
    at : (b : Bool) → bytes_eq receiver w ≡ b → cond (b && more) now before ≡ before
    at true e = absurd (differ (is_peer peers w) out (ap (is_peer peers) (sym (same_text receiver w e)) ∙ is))
    at false e = refl

beside : {X : Type 0} (peers : List Peer) (receiver w : List ℕ) (now before : X) → is_peer peers w ≡ false → is_peer peers receiver ≡ true → cond (bytes_eq receiver w) now before ≡ before
beside peers receiver w now before out is = at (bytes_eq receiver w) refl
  where
    at : (b : Bool) → bytes_eq receiver w ≡ b → cond b now before ≡ before
    at true e = absurd (differ (is_peer peers w) out (ap (is_peer peers) (sym (same_text receiver w e)) ∙ is))
    at false e = refl

either : {X : Type 0} (b : Bool) (x y z : X) → x ≡ z → y ≡ z → cond b x y ≡ z
either true x y z h k = h
either false x y z h k = k

-- NO GLOBAL SUBSCRIPTION

cover_stays : {A : Type 0} (s : Settings) (es : List (Entry A)) (w : List ℕ) (set : List El) (caller : ℕ) (ae : List ℕ) (moment : ℕ) (r : Request A) → is_peer s.peers w ≡ false
    → legal s (entry caller ae moment r ∷ es) ≡ true → cover_after s.peers w set (cover s.peers es w set) r ≡ cover s.peers es w set
cover_stays s es w set caller ae moment (Create step attributes) out h = refl
cover_stays s es w set caller ae moment (Change step state t) out h = refl
cover_stays s es w set caller ae moment (AskCancel step reasons) out h = refl
cover_stays s es w set caller ae moment (Set step t attributes) out h = refl
cover_stays {A} s es w set caller ae moment (Subscribe target receiver lock) out h =
    beside s.peers receiver w (global_after target set (granted s.peers w lock) (cover s.peers es w set)) (cover s.peers es w set) out (for_peer s.peers receiver _ (legal_head s (entry caller ae moment (Subscribe target receiver lock)) es h))
cover_stays s es w set caller ae moment (Unsubscribe place receiver) out h =
    beside s.peers receiver w (global_left place (cover s.peers es w set)) (cover s.peers es w set) out (for_peer s.peers receiver _ (legal_head s (entry caller ae moment (Unsubscribe place receiver)) es h))
cover_stays s es w set caller ae moment (Suspend receiver) out h =
    beside s.peers receiver w None (cover s.peers es w set) out (for_peer s.peers receiver _ (legal_head s (entry caller ae moment (Suspend receiver)) es h))
cover_stays s es w set caller ae moment (Ack upto) out h = refl
cover_stays s es w set caller ae moment Sweep out h = refl
cover_stays s es w set caller ae moment (Reserve step) out h = refl

no_cover : {A : Type 0} (s : Settings) (es : List (Entry A)) (w : List ℕ) (set : List El) → is_peer s.peers w ≡ false → legal s es ≡ true → cover s.peers es w set ≡ None
no_cover s [] w set out h = refl
no_cover s (e ∷ es) w set out h = cover_stays s es w set e.caller e.ae e.moment e.request out h ∙ no_cover s es w set out (legal_tail s e es h)

-- NO SUBSCRIPTION TO A STEP

watch_stays : {A : Type 0} (s : Settings) (es : List (Entry A)) (w u : List ℕ) (caller : ℕ) (ae : List ℕ) (moment : ℕ) (r : Request A) → is_peer s.peers w ≡ false
    → legal s (entry caller ae moment r ∷ es) ≡ true → watch s es w u ≡ None → watch_after s es (entry caller ae moment r) w u (watch s es w u) r ≡ None
watch_stays s es w u caller ae moment (Create step attributes) out h before =
    either (bytes_eq step u) (cover s.peers es w (row s (entry caller ae moment (Create step attributes) ∷ es) u)) (watch s es w u) None
    (no_cover s es w (row s (entry caller ae moment (Create step attributes) ∷ es) u) out (legal_tail s (entry caller ae moment (Create step attributes)) es h)) before
watch_stays s es w u caller ae moment (Change step state t) out h before = before
watch_stays s es w u caller ae moment (AskCancel step reasons) out h before = before
watch_stays {A} s es w u caller ae moment (Set step t attributes) out h before =
    either (is_step u step) (option_or (watch s es w u) (newly_covered s es e w u)) (watch s es w u) None (ap (λ o. option_or o (newly_covered s es e w u)) before ∙ nowhere) before
  where
    e : Entry A
    e = entry caller ae moment (Set step t attributes)

    nowhere : newly_covered s es e w u ≡ None
    nowhere = either (is_some (cover s.peers es w (row s es u))) None (cover s.peers es w (row s (e ∷ es) u)) None refl (no_cover s es w (row s (e ∷ es) u) out (legal_tail s e es h))
watch_stays s es w u caller ae moment (Subscribe target receiver lock) out h before =
    beside_peer s.peers receiver w (takes_in target u (row s es u)) (Some (granted s.peers w lock)) (watch s es w u) out
    (for_peer s.peers receiver _ (legal_head s (entry caller ae moment (Subscribe target receiver lock)) es h)) ∙ before
watch_stays s es w u caller ae moment (Unsubscribe place receiver) out h before = either (bytes_eq receiver w && is_at place u) None (watch s es w u) None refl before
watch_stays s es w u caller ae moment (Suspend receiver) out h before = before
watch_stays s es w u caller ae moment (Ack upto) out h before = before
watch_stays s es w u caller ae moment Sweep out h before = before
watch_stays s es w u caller ae moment (Reserve step) out h before = before

no_watch : {A : Type 0} (s : Settings) (es : List (Entry A)) (w u : List ℕ) → is_peer s.peers w ≡ false → legal s es ≡ true → watch s es w u ≡ None
no_watch s [] w u out h = refl
no_watch s (e ∷ es) w u out h = watch_stays s es w u e.caller e.ae e.moment e.request out h (no_watch s es w u out (legal_tail s e es h))

none_of : (f : List ℕ → Option Subscription) (us : List (List ℕ)) → ((u : List ℕ) → f u ≡ None) → filter_map (λ u. watched_step u (f u)) us ≡ []
none_of f [] h = refl
none_of f (u ∷ us) h = rw (h u) (none_of f us h)

pub watches_nothing : {A : Type 0} (s : Settings) (history : List (Entry A)) (w : List ℕ) → is_legal s history → is_peer s.peers w ≡ false → watched s (past history) w ≡ []
watches_nothing s history w h out = none_of (λ u. watch s (past history) w u) (held s (past history)) (λ u. no_watch s (past history) w u out h)

-- NOTHING TOLD

untold : {A : Type 0} {X : Type 0} (s : Settings) (es : List (Entry A)) (e : Entry A) (w u : List ℕ) (told : List X) (newly : Bool → List X) → is_peer s.peers w ≡ false → legal s (e ∷ es) ≡ true → newly false ≡ []
    → cond (is_some (watch s es w u)) told (newly (is_some (watch s (e ∷ es) w u))) ≡ []
untold {A} {X} s es e w u told newly out h none =
    ap (λ (o : Option Subscription). cond {A = List X} (is_some o) told (newly (is_some (watch s (e ∷ es) w u)))) (no_watch s es w u out (legal_tail s e es h))
    ∙ ap (λ (o : Option Subscription). newly (is_some o)) (no_watch s (e ∷ es) w u out h)
    ∙ none

no_reports : {A : Type 0} (s : Settings) (es : List (Entry A)) (w : List ℕ) (caller : ℕ) (ae : List ℕ) (moment : ℕ) (r : Request A) → is_peer s.peers w ≡ false
    → legal s (entry caller ae moment r ∷ es) ≡ true → legal s es ≡ true → reports_of s es (entry caller ae moment r) w r ≡ []
no_reports {A} s es w caller ae moment (Create step attributes) out h before =
    let e : Entry A = entry caller ae moment (Create step attributes) in
    ap (λ (o : Option Subscription). only_if (is_some o) (as_it_is s (e ∷ es) step)) (no_cover s es w (row s (e ∷ es) step) out before)
no_reports s es w caller ae moment (Subscribe target receiver lock) out h before =
    beside s.peers receiver w _ [] out (for_peer s.peers receiver _ (legal_head s (entry caller ae moment (Subscribe target receiver lock)) es h))
no_reports s es w caller ae moment (Change None state t) out h before = refl
no_reports {A} s es w caller ae moment (Change (Some u) state t) out h before =
    let r : Request A = Change (Some u) state t in let e : Entry A = entry caller ae moment r in untold s es e w u (told_of s es e u r) (λ b. only_if b (as_it_is s (e ∷ es) u)) out h refl
no_reports s es w caller ae moment (AskCancel None reasons) out h before = refl
no_reports {A} s es w caller ae moment (AskCancel (Some u) reasons) out h before =
    let r : Request A = AskCancel (Some u) reasons in let e : Entry A = entry caller ae moment r in untold s es e w u (told_of s es e u r) (λ b. only_if b (as_it_is s (e ∷ es) u)) out h refl
no_reports s es w caller ae moment (Set None t attributes) out h before = refl
no_reports {A} s es w caller ae moment (Set (Some u) t attributes) out h before =
    let r : Request A = Set (Some u) t attributes in let e : Entry A = entry caller ae moment r in untold s es e w u (told_of s es e u r) (λ b. only_if b (as_it_is s (e ∷ es) u)) out h refl
no_reports s es w caller ae moment (Unsubscribe place receiver) out h before = refl
no_reports s es w caller ae moment (Suspend receiver) out h before = refl
no_reports s es w caller ae moment (Ack upto) out h before = refl
no_reports s es w caller ae moment Sweep out h before = refl
no_reports s es w caller ae moment (Reserve step) out h before = refl

no_events : {A : Type 0} (s : Settings) (es : List (Entry A)) (w : List ℕ) → is_peer s.peers w ≡ false → legal s es ≡ true → events s es w ≡ []
no_events s [] w out h = refl
no_events {A} s (e ∷ es) w out h =
    let before = legal_tail s e es h in
    let none : events s es w ≡ [] = no_events s es w out before in
    let now : reports_of s es e w e.request ≡ [] = no_reports s es w e.caller e.ae e.moment e.request out h before in
    ap (λ l. events s es w ++ numbered (length (events s es w) + 1) (length es) l) now ∙ with_none (events s es w) none
  where
    with_none : {X : Type 0} (l : List X) → l ≡ [] → l ++ [] ≡ []
    with_none [] e = refl
    with_none (x ∷ l) e = absurd cc

pub is_told_nothing : {A : Type 0} (s : Settings) (history : List (Entry A)) (w : List ℕ) → is_legal s history → is_peer s.peers w ≡ false → events s (past history) w ≡ []
is_told_nothing s history w h out = no_events s (past history) w out h
