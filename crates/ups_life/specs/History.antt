-- The reply to each call after a history, and which histories are legal.
use Rattle.std.specs.Prelude.{ℕ, Bool, true, false, not, ◌&&◌, nat_lt, nat_le, List, [], ◌∷◌, length, filter, Option, None, Some, is_some, if◌then◌else◌}
use Rattle.std.specs.List.{list_all}
use Rattle.std.specs.Option.{unwrap_or}
use Rattle.ups_dataset.specs.declared.tag.Tag.{Tag}
use Rattle.ups_pdu.specs.declared.syntax.TransferSyntax.TheVariants.{Explicit}
use Rattle.ups_dataset.specs.Limits.{max_depth}
use Rattle.ups_dataset.specs.Data.{El, element_at, elements_of, is_listed}
use Rattle.ups_dataset.specs.Valid.{depth_elements}
use Rattle.ups_dataset.specs.Written.{written}
use Rattle.ups_cycle.specs.Statuses.{is_done}
use Rattle.ups_life.specs.declared.request.Request.{Request}
use Rattle.ups_life.specs.declared.request.Request.TheVariants.{Create, AskCancel, Set, Subscribe, Unsubscribe, Suspend, Ack, Sweep}
use Rattle.ups_life.specs.declared.request.Reply.{Reply}
use Rattle.ups_life.specs.declared.request.Reply.TheVariants.{Status as Answered, Set as Shown, Swept, AckAhead, AckStale}
use Rattle.ups_life.specs.declared.entry.Entry.{Entry}
use Rattle.ups_life.specs.declared.peer.Peer.{Peer}
use Rattle.ups_life.specs.declared.row.Row.{Row}
use Rattle.ups_cycle.specs.declared.status.Status.{Status}
use Rattle.ups_cycle.specs.declared.status.Status.TheVariants.{Success, AttributesNotSupported, ResourceLimitation, DeletionLockNotGranted, UnknownInstance, UnknownReceivingAe}
use Rattle.ups_life.specs.Limits.{row_limit}
use Rattle.ups_life.specs.Settings.{Settings}
use Rattle.ups_life.specs.Verdict.{verdict}
use Rattle.ups_life.specs.Steps.{used, step_of, named_step, row_after, nothing}
use Rattle.ups_life.specs.Watching.{is_peer, may_lock, known, removed}
use Rattle.ups_life.specs.Events.{acked, events}

-- the reply accepts the request: its status says that the request is done, or it is a sweep that removes some step
abbrev pub accepts : {A : Type 0} → Reply A → Bool
accepts (Answered status) = is_done status
accepts (Swept count) = nat_lt 0 count
accepts reply = false

-- the row of the step of an entry after that entry
abbrev pub row_then : {A : Type 0} → Settings → List (Entry A) → Entry A → Row A
row_then s es e = row_after s.offset e.moment (unwrap_or (known s es (step_of e.request)) nothing) e.request

-- the set is within the size limit of a row, and its items nest at most 8 deep
abbrev pub fits : List El → Bool
fits set = not (nat_lt row_limit (length (written Explicit set))) && not (nat_lt max_depth (depth_elements (elements_of set)))

-- the request is one after which the row has to fit
abbrev pub is_sized : {A : Type 0} → Request A → Bool
is_sized (Create step attributes) = true
is_sized (AskCancel step reasons) = true
is_sized (Set step transaction attributes) = true
is_sized request = false

abbrev pub sized : {A : Type 0} → Request A → List El → Status → Status
sized request set status = if is_done status && is_sized request && not (fits set) then ResourceLimitation else status

-- the request creates a step with a UID that is already used
abbrev pub repeats : {A : Type 0} → List (Entry A) → Request A → Bool
repeats es (Create step attributes) = used es step
repeats es request = false

-- the watcher that a request names: its Receiving AE
abbrev pub receiver_of : {A : Type 0} → Request A → Option (List ℕ)
receiver_of (Subscribe target receiver lock) = Some receiver
receiver_of (Unsubscribe place receiver) = Some receiver
receiver_of (Suspend receiver) = Some receiver
receiver_of request = None

-- only peers can be watchers (PS3.4 CC.2.3)
abbrev pub of_peer : List Peer → Option (List ℕ) → Status → Status
of_peer peers None status = status
of_peer peers (Some receiver) status = if is_peer peers receiver then status else UnknownReceivingAe

-- a peer without the right to a Deletion Lock is subscribed without one (PS3.4 CC.2.3)
abbrev pub of_lock : {A : Type 0} → List Peer → Request A → Status → Status
of_lock peers (Subscribe target receiver lock) Success = if lock && not (may_lock peers receiver) then DeletionLockNotGranted else Success
of_lock peers request status = status

-- THE ORDER OF REFUSALS of a request after these entries, if the history has room for it: the watcher, the step, the
-- rules for that step, the size of its row
abbrev pub status : {A : Type 0} → Settings → List (Entry A) → Entry A → Status
status s es e =
    of_peer s.peers (receiver_of e.request) (of_lock s.peers e.request (sized e.request (row_then s es e).attributes (verdict (known s es (named_step e.request)) (repeats es e.request) e.request)))

-- the reply to an acknowledgement: its number has to be that of an event, and greater than the one acknowledged before
abbrev pub acknowledged : {A : Type 0} → ℕ → ℕ → ℕ → Reply A
acknowledged made before upto = if nat_lt made upto then AckAhead else (if nat_le upto before then AckStale else Answered Success)

-- the reply to the entry e, if the history has room; `request` is its request
abbrev pub decided : {A : Type 0} → Settings → List (Entry A) → Entry A → Request A → Reply A
decided s es e (Ack upto) = acknowledged (length (events s es e.ae)) (acked es e.ae) upto
decided s es e Sweep = Swept (length (removed s es e.moment))
decided s es e request = Answered (status s es e)

-- nothing is entered if the history is full
abbrev pub in_room : {A : Type 0} → Settings → List (Entry A) → Reply A → Reply A
in_room s es reply = if accepts reply && not (nat_lt (length es) s.limit) then Answered ResourceLimitation else reply

-- the reply to the request of e after these entries
abbrev pub reply : {A : Type 0} → Settings → List (Entry A) → Entry A → Reply A
reply s es e = in_room s es (decided s es e e.request)

-- each entry was accepted after those before it
abbrev pub legal : {A : Type 0} → Settings → List (Entry A) → Bool
legal s [] = true
legal s (e ∷ es) = accepts (reply s es e) && legal s es

-- what a call enters: its request, if it was accepted
abbrev pub entered_by : {A : Type 0} → Entry A → Reply A → List (Entry A)
entered_by e reply = if accepts reply then e ∷ [] else []

-- the row has an element with each of these tags
abbrev pub has_all : List El → List Tag → Bool
has_all set tags = list_all (λ tag. is_some (element_at tag set)) tags

-- the reply to an N-GET of a row (PS3.4 CC.2.7): the whole row if no attribute is listed, otherwise the listed ones
abbrev pub shown : {A : Type 0} → List El → List Tag → Reply A
shown set [] = Shown Success set
shown set (t ∷ ts) = Shown (if has_all set (t ∷ ts) then Success else AttributesNotSupported) (filter (λ e. is_listed e.tag (t ∷ ts)) set)

abbrev pub shown_of : {A : Type 0} → Option (Row A) → List Tag → Reply A
shown_of None tags = Answered UnknownInstance
shown_of (Some r) tags = shown r.attributes tags

-- the reply to an N-GET
abbrev pub got : {A : Type 0} → Settings → List (Entry A) → Option (List ℕ) → List Tag → Reply A
got s es step tags = shown_of (known s es step) tags
