-- The law of a service: how it answers by a history, what it enters there, and what others may enter between two calls.
-- Histories here have the oldest entry first.
use Rattle.std.specs.Prelude.{◌≡◌, ◌≢◌, ◌≤◌, ◌+◌, ◌⊎◌, ℕ, nat_lt, Bool, true, false, List, [], ◌∷◌, ◌++◌, length, All, MatchBool}
use Rattle.ups_pdu.specs.declared.syntax.TransferSyntax.TheVariants.{Explicit}
use Rattle.ups_dataset.specs.Data.{El}
use Rattle.ups_dataset.specs.Written.{written}
use Rattle.ups_life.specs.declared.request.Request.{Request}
use Rattle.ups_life.specs.declared.request.Ask.{Ask}
use Rattle.ups_life.specs.declared.request.Ask.TheVariants.{Do, Get, Find, Pending}
use Rattle.ups_life.specs.declared.request.Reply.{Reply}
use Rattle.ups_life.specs.declared.request.Reply.TheVariants.{Status as Answered, Set as Shown, Sets as Found, Swept, AckAhead, AckStale, Reports}
use Rattle.ups_life.specs.declared.entry.Entry.{Entry}
use Rattle.ups_cycle.specs.declared.status.Status.{Status}
use Rattle.ups_cycle.specs.declared.status.Status.TheVariants.{ResourceLimitation, OutOfResources}
use Rattle.ups_life.specs.Limits.{row_limit}
use Rattle.ups_life.specs.Settings.{Settings}
use Rattle.ups_life.specs.Steps.{past}
use Rattle.ups_life.specs.History.{legal, reply, got, entered_by}
use Rattle.ups_cycle.specs.Statuses.{is_done}
use Rattle.ups_life.specs.Worklist.{worklist}
use Rattle.ups_service.specs.Reporting.{reports_to}

-- each entry was accepted after those before it
abbrev pub is_legal : {A : Type 0} → Settings → List (Entry A) → Type 0
is_legal settings history = legal settings (past history) ≡ true

-- the history `log` begins with the one that was seen
abbrev pub BeginsHistory : {A : Type 0} → List (Entry A) → List (Entry A) → Type 0
BeginsHistory {A} seen log = (rest : List (Entry A)) × (seen ++ rest ≡ log)

-- a request as it is entered: who makes it, for which application entity, and when
abbrev pub entry : {A : Type 0} → ℕ → List ℕ → ℕ → Request A → Entry A
entry caller ae moment request = record { caller = caller; ae = ae; moment = moment; request = request }

-- the reply by a history to what a caller asks for an application entity at a moment (PS3.4 CC.2.1 to CC.2.8)
abbrev pub reply_to : {A : Type 0} → Settings → List (Entry A) → ℕ → List ℕ → ℕ → Ask A → Reply A
reply_to settings history caller ae moment (Do request) = reply settings (past history) (entry caller ae moment request)
reply_to settings history caller ae moment (Get step listed) = got settings (past history) step listed
reply_to settings history caller ae moment (Find keys) = Found (worklist settings (past history) keys)
reply_to settings history caller ae moment (Pending max) = Reports (reports_to settings history max ae)

-- the status for lack of memory (PS3.7 annex C, PS3.4 section C.4.1.1.4)
abbrev pub lacking : {A : Type 0} → Ask A → Status
lacking (Find keys) = OutOfResources
lacking ask = ResourceLimitation

-- the reply accepts a request, shows a set, or has found steps or pending events: only instead of these may it be the
-- status for lack of memory. A sweep that removes nothing and an acknowledgement ahead or stale take no memory
abbrev pub is_granted : {A : Type 0} → Reply A → Bool
is_granted (Answered status) = is_done status
is_granted (Shown status set) = true
is_granted (Found sets) = true
is_granted (Swept count) = nat_lt 0 count
is_granted AckAhead = false
is_granted AckStale = false
is_granted (Reports reports) = true

-- the reply is the due one; or the status for lack of memory, if the due one grants something: refusals keep theirs
abbrev pub OrLacking : {A : Type 0} → Status → Reply A → Reply A → Type 0
OrLacking lack due reply = (reply ≡ due) ⊎ ((is_granted due ≡ true) × (reply ≡ Answered lack))

abbrev pub Answers : {A : Type 0} → Settings → List (Entry A) → ℕ → List ℕ → ℕ → Ask A → Reply A → Type 0
Answers settings history caller ae moment ask reply = OrLacking (lacking ask) (reply_to settings history caller ae moment ask) reply

-- what a call enters: its request, if it was accepted
abbrev pub entered : {A : Type 0} → ℕ → List ℕ → ℕ → Ask A → Reply A → List (Entry A)
entered caller ae moment (Do request) reply = entered_by (entry caller ae moment request) reply
entered caller ae moment ask reply = []

-- who else may enter requests between two calls of one caller: nobody, if the service has the history to itself; or the
-- other callers that share it
pub data Others : Type 0 where
  nobody : Others
  callers : Others

abbrev pub MayCome : {A : Type 0} → Others → ℕ → List (Entry A) → Type 0
MayCome nobody caller between = between ≡ []
MayCome {A} callers caller between = All (λ (e : Entry A). e.caller ≢ caller) between

-- how many calls a caller may make: any number; or, with `bounded made most`, `most` calls, of which `made` are made
pub data Allowance : Type 0 where
  unbounded : Allowance
  bounded : ℕ → ℕ → Allowance

-- a call is left
abbrev pub has_call_left : Allowance → Bool
has_call_left unbounded = true
has_call_left (bounded made most) = nat_lt made most

-- the allowance after one more call
abbrev pub one_made : Allowance → Allowance
one_made unbounded = unbounded
one_made (bounded made most) = bounded (made + 1) most

-- the allowance after n more calls
abbrev pub all_made : ℕ → Allowance → Allowance
all_made n unbounded = unbounded
all_made n (bounded made most) = bounded (made + n) most

-- a caller of a service: the history that it has seen, and the calls that it may make
pub record Seen (A : Type 0) : Type 0 where
  pub history : List (Entry A)
  pub calls : Allowance

abbrev pub seen_so : {A : Type 0} → List (Entry A) → Allowance → Seen A
seen_so history calls = record { history = history; calls = calls }

-- a caller that has the history to itself may make any number of calls
abbrev pub alone : {A : Type 0} → List (Entry A) → Seen A
alone history = seen_so history unbounded

-- A call that was left. Requests of others, if they may enter any, extend the history that the caller had seen to a
-- legal one. The reply is the one by that history, which the caller has seen afterwards, with its own request at the end
-- if that was accepted; and one more call was made.
abbrev pub Grants : {A : Type 0} → Settings → Others → ℕ → Seen A → List ℕ → ℕ → Ask A → Reply A → Seen A → Type 0
Grants {A} settings others caller seen ae moment ask reply after =
    (between : List (Entry A)) × MayCome others caller between × is_legal settings (seen.history ++ between)
    × Answers settings (seen.history ++ between) caller ae moment ask reply
    × (after ≡ seen_so ((seen.history ++ between) ++ entered caller ae moment ask reply) (one_made seen.calls))

-- a call that was not left gets the status for lack of memory, whatever is due, and nothing more is seen
abbrev pub Refuses : {A : Type 0} → Seen A → Ask A → Reply A → Seen A → Type 0
Refuses seen ask reply after = (reply ≡ Answered (lacking ask)) × (after ≡ seen)

-- one call of a service
abbrev pub Serves : {A : Type 0} → Settings → Others → ℕ → Seen A → List ℕ → ℕ → Ask A → Reply A → Seen A → Type 0
Serves settings others caller seen ae moment ask reply after =
    MatchBool (has_call_left seen.calls) (Grants settings others caller seen ae moment ask reply after) (Refuses seen ask reply after)

-- calls of one application entity, one after another: each ask at its moment has its reply
abbrev pub Calls : {A : Type 0} → Settings → Others → ℕ → Seen A → List ℕ → List (Ask A) → List ℕ → List (Reply A) → Seen A → Type 0
Calls settings others caller seen ae [] [] [] after = after ≡ seen
Calls {A} settings others caller seen ae (ask ∷ asks) (moment ∷ moments) (reply ∷ replies) after =
    (then : Seen A) × Serves settings others caller seen ae moment ask reply then × Calls settings others caller then ae asks moments replies after
Calls settings others caller seen ae asks moments replies after = ⊥

-- the same for calls that were all left
abbrev pub AllGranted : {A : Type 0} → Settings → Others → ℕ → Seen A → List ℕ → List (Ask A) → List ℕ → List (Reply A) → Seen A → Type 0
AllGranted settings others caller seen ae [] [] [] after = after ≡ seen
AllGranted {A} settings others caller seen ae (ask ∷ asks) (moment ∷ moments) (reply ∷ replies) after =
    (then : Seen A) × Grants settings others caller seen ae moment ask reply then × AllGranted settings others caller then ae asks moments replies after
AllGranted settings others caller seen ae asks moments replies after = ⊥

-- the set has no more bytes than a row can have: a creation, an N-SET or a cancel request leaves at most the limit, and
-- each of two changes of state adds at most 20
abbrev pub IsSmall : List El → Type 0
IsSmall set = length (written Explicit set) ≤ row_limit + 40

-- A set that is shown is no larger than a row. Sets that are found have elements of keys beside those of rows, so
-- nothing is said about their size.
abbrev pub SmallReply : {A : Type 0} → Reply A → Type 0
SmallReply (Answered status) = Unit {0}
SmallReply (Shown status set) = IsSmall set
SmallReply (Found sets) = Unit {0}
SmallReply (Swept count) = Unit {0}
SmallReply AckAhead = Unit {0}
SmallReply AckStale = Unit {0}
SmallReply (Reports reports) = Unit {0}
