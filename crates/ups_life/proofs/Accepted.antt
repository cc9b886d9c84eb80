-- What it means that an entry was accepted: it was decided so, of a step that is held or is new.
use Rattle.std.proofs.Common.{◌≡◌, ◌⊎◌, inl, inr, ℕ, Bool, true, false, ◌&&◌, ◌||◌, not, cond, List, ◌∷◌, Option, None, Some, refl, sym, ap, ◌∙◌, subst}
use Rattle.std.specs.Prelude.{nat_lt, length}
use Rattle.ups_dataset.specs.Data.{El}
use Rattle.ups_life.specs.declared.entry.Entry.{Entry}
use Rattle.ups_life.specs.declared.peer.Peer.{Peer}
use Rattle.ups_life.specs.declared.request.Request.{Request}
use Rattle.ups_life.specs.declared.request.Request.TheVariants.{Create, Change, AskCancel, Set, Subscribe, Ack, Sweep}
use Rattle.ups_life.specs.declared.request.Reply.{Reply}
use Rattle.ups_life.specs.declared.request.Reply.TheVariants.{Status as Answered}
use Rattle.ups_life.specs.declared.row.Row.{Row}
use Rattle.ups_cycle.specs.declared.status.Status.{Status}
use Rattle.ups_cycle.specs.declared.status.Status.TheVariants.{Success, DuplicateSopInstance, ResourceLimitation, UnknownReceivingAe}
use Rattle.ups_life.specs.Settings.{Settings}
use Rattle.ups_life.specs.Verdict.{verdict, if_held, create_status, change_status, update_status}
use Rattle.ups_cycle.specs.Cycle.{cancel_status}
use Rattle.ups_life.specs.Steps.{named_step, is_on, creates, used, row_of}
use Rattle.ups_life.specs.Watching.{is_peer, is_held, known}
use Rattle.ups_life.specs.History.{accepts, fits, is_sized, sized, repeats, row_then, receiver_of, of_peer, of_lock, status, decided, reply, legal}
use Rattle.ups_cycle.specs.Statuses.{is_done}
use Rattle.ups_life.proofs.Texts.{same_text}
use Rattle.ups_life.proofs.Verdicts.{done_is_success, verdict_grants_all}

both : (p q : Bool) → p && q ≡ true → (p ≡ true) × (q ≡ true)
both true q e = (refl, e)
both false q e = absurd cc

pub neither : (p q : Bool) → p || q ≡ false → (p ≡ false) × (q ≡ false)
neither true q e = absurd cc
neither false q e = (refl, e)

pub differ : (b : Bool) → b ≡ false → b ≡ true → ⊥
differ b f t = absurd cc

-- the verdict on a request after a history
abbrev pub said : {A : Type 0} → Settings → List (Entry A) → Request A → Status
said s es r = verdict (known s es (named_step r)) (repeats es r) r

-- what was accepted was not turned into want of room
sized_done : (full : Bool) (x : Status) → is_done (cond full ResourceLimitation x) ≡ true → is_done x ≡ true
sized_done true x h = absurd cc
sized_done false x h = h

let_in : {A : Type 0} (full : Bool) (x : Reply A) → accepts (cond full (Answered ResourceLimitation) x) ≡ true → accepts x ≡ true
let_in true x h = absurd cc
let_in false x h = h

-- nor was it for no peer, or for one that may not lock
of_peer_done : (peers : List Peer) (receiver : Option (List ℕ)) (x : Status) → is_done (of_peer peers receiver x) ≡ true → is_done x ≡ true
of_peer_done peers None x h = h
of_peer_done peers (Some w) x h = at (is_peer peers w) h
  where
    at : (b : Bool) → is_done (cond b x UnknownReceivingAe) ≡ true → is_done x ≡ true
    at true g = g
    at false g = absurd cc

-- what is accepted for a watcher is for a peer
pub for_peer : (peers : List Peer) (receiver : List ℕ) (x : Status) → is_done (of_peer peers (Some receiver) x) ≡ true → is_peer peers receiver ≡ true
for_peer peers receiver x h = at (is_peer peers receiver) h
  where
    at : (b : Bool) → is_done (cond b x UnknownReceivingAe) ≡ true → b ≡ true
    at true g = refl
    at false g = absurd cc

of_lock_done : {A : Type 0} (peers : List Peer) (r : Request A) (x : Status) → is_done (of_lock peers r x) ≡ true → is_done x ≡ true
of_lock_done peers (Subscribe target receiver lock) Success h = refl
of_lock_done peers (Subscribe target receiver lock) x h = h
of_lock_done peers r x h = h

status_done : {A : Type 0} (s : Settings) (es : List (Entry A)) (e : Entry A) → is_done (status s es e) ≡ true → is_done (said s es e.request) ≡ true
status_done s es e h =
    let set : List El = (row_then s es e).attributes in
    let due : Status = sized e.request set (said s es e.request) in
    sized_done (is_done (said s es e.request) && is_sized e.request && not (fits set)) (said s es e.request)
    (of_lock_done s.peers e.request due (of_peer_done s.peers (receiver_of e.request) (of_lock s.peers e.request due) h))

-- of an acknowledgement and a sweep nothing is to be said by their verdict; any other request has a status
allowed_or_done : {A : Type 0} (s : Settings) (es : List (Entry A)) (e : Entry A) (r : Request A) → accepts (decided s es e r) ≡ true → (said s es r ≡ Success) ⊎ (is_done (status s es e) ≡ true)
allowed_or_done s es e (Ack upto) h = inl refl
allowed_or_done s es e Sweep h = inl refl
allowed_or_done s es e r h = inr h

pub legal_head : {A : Type 0} (s : Settings) (e : Entry A) (es : List (Entry A)) → legal s (e ∷ es) ≡ true → accepts (decided s es e e.request) ≡ true
legal_head s e es h = let_in (accepts (decided s es e e.request) && not (nat_lt (length es) s.limit)) (decided s es e e.request) (both (accepts (reply s es e)) (legal s es) h).0

-- what has to fit, and was accepted, does
has_status : {A : Type 0} (s : Settings) (es : List (Entry A)) (e : Entry A) (r : Request A) → is_sized r ≡ true → accepts (decided s es e r) ≡ true → is_done (status s es e) ≡ true
has_status s es e (Create step set) z h = h
has_status s es e (AskCancel step reasons) z h = h
has_status s es e (Set step t set) z h = h
has_status s es e r z h = absurd cc

sized_fits : (done has_to fit : Bool) (x : Status) → is_done (cond (done && has_to && not fit) ResourceLimitation x) ≡ true → is_done x ≡ done → has_to ≡ true → fit ≡ true
sized_fits true true true x h e z = refl
sized_fits true true false x h e z = absurd cc
sized_fits true false fit x h e z = absurd cc
sized_fits false has_to fit x h e z = absurd (differ (is_done x) e h)

pub fitted : {A : Type 0} (s : Settings) (e : Entry A) (es : List (Entry A)) → legal s (e ∷ es) ≡ true → is_sized e.request ≡ true → fits (row_then s es e).attributes ≡ true
fitted s e es h z =
    let set : List El = (row_then s es e).attributes in
    let due : Status = sized e.request set (said s es e.request) in
    sized_fits (is_done (said s es e.request)) (is_sized e.request) (fits set) (said s es e.request)
    (of_lock_done s.peers e.request due (of_peer_done s.peers (receiver_of e.request) (of_lock s.peers e.request due) (has_status s es e e.request z (legal_head s e es h)))) refl z

pub legal_tail : {A : Type 0} (s : Settings) (e : Entry A) (es : List (Entry A)) → legal s (e ∷ es) ≡ true → legal s es ≡ true
legal_tail s e es h = (both (accepts (reply s es e)) (legal s es) h).1

-- each entry was decided so
pub succeeded : {A : Type 0} (s : Settings) (e : Entry A) (es : List (Entry A)) → legal s (e ∷ es) ≡ true → said s es e.request ≡ Success
succeeded {A} s e es h = at (allowed_or_done s es e e.request (legal_head s e es h))
  where
    at : (said s es e.request ≡ Success) ⊎ (is_done (status s es e) ≡ true) → said s es e.request ≡ Success
    at (inl is) = is
    at (inr done) = done_is_success (said s es e.request) (verdict_grants_all (known s es (named_step e.request)) (repeats es e.request) e.request) (status_done s es e done)

-- the same, of a request that is known
pub succeeded_of : {A : Type 0} (s : Settings) (e : Entry A) (es : List (Entry A)) (r : Request A) → legal s (e ∷ es) ≡ true → e.request ≡ r → said s es r ≡ Success
succeeded_of {A} s e es r h is = subst (λ (q : Request A). said s es q ≡ Success) is (succeeded s e es h)

-- a step that is new has a UID that was never used
new_is_fresh : (used : Bool) (status : Status) → cond used DuplicateSopInstance status ≡ Success → used ≡ false
new_is_fresh true status h = absurd cc
new_is_fresh false status h = refl

pub created_fresh : {A : Type 0} (s : Settings) (es : List (Entry A)) (step : List ℕ) (set : List El) → verdict {A = A} (known s es (Some step)) (used es step) (Create step set) ≡ Success → used es step ≡ false
created_fresh s es step set d = new_is_fresh (used es step) (create_status set) d

-- what is accepted of a step that has to be held
pub was_held : {A : Type 0} (held : Bool) (x : Row A) (decide : Row A → Status) → if_held (cond held (Some x) None) decide ≡ Success → (held ≡ true) × (decide x ≡ Success)
was_held true x decide h = (refl, h)
was_held false x decide h = absurd cc

-- an entry on a step that creates no step is on one that is held
pub on_held : {A : Type 0} (s : Settings) (es : List (Entry A)) (u : List ℕ) (r : Request A) → said s es r ≡ Success → is_on u r ≡ true → creates u r ≡ false → is_held s es u ≡ true
on_held s es u (Create step set) d on new = absurd cc
on_held s es u (Change None to t) d on new = absurd cc
on_held s es u (Change (Some v) to t) d on new = ap (is_held s es) (sym (same_text v u on)) ∙ (was_held (is_held s es v) (row_of s es v) (λ r. change_status r to t) d).0
on_held s es u (AskCancel None reasons) d on new = absurd cc
on_held s es u (AskCancel (Some v) reasons) d on new = ap (is_held s es) (sym (same_text v u on)) ∙ (was_held (is_held s es v) (row_of s es v) (λ r. cancel_status r.state) d).0
on_held s es u (Set None t set) d on new = absurd cc
on_held s es u (Set (Some v) t set) d on new = ap (is_held s es) (sym (same_text v u on)) ∙ (was_held (is_held s es v) (row_of s es v) (λ r. update_status r t set) d).0
on_held s es u r d on new = absurd cc
