-- A pass and a desk as contracts see them, and what one call, a meeting and the closing of a desk guarantee.
use Rattle.std.specs.Prelude.{◌≡◌, ◌≢◌, ℕ, zero, suc, pos, ◌+◌, ◌^◌, nat_lt, nat_le, ◌&&◌, Bool, true, false, List, [], ◌∷◌, ◌++◌, All, None, MatchBool, ◌≤◌, ◌==◌, count_by}
use Rattle.atomic_table.specs.Seated.{TableId}
use Rattle.ups_life.specs.declared.entry.Entry.{Entry}
use Rattle.ups_life.specs.declared.request.Ask.{Ask}
use Rattle.ups_life.specs.declared.request.Reply.{Reply}
use Rattle.ups_life.specs.declared.request.Reply.TheVariants.{Status as Answered}
use Rattle.ups_life.specs.Settings.{Settings}
use Rattle.ups_service.specs.State.{State}
use Rattle.ups_service.specs.Law.{Seen, bounded, seen_so, is_legal, BeginsHistory, Answers, entered, lacking}
use Rattle.ups_turn.specs.declared.fault.DeskFault.{DeskFault}
use Rattle.ups_turn.specs.declared.fault.DeskFault.TheVariants.{BadSeats, Memory}
use Rattle.ups_turn.specs.declared.view.Part.{Part}
use Rattle.ups_turn.specs.declared.view.View.{View}
use Rattle.ups_turn.specs.Rule.{Behind, IsPassNumber}
use Rattle.ups_turn.specs.Plays.{Knows, longer}

-- a pass: its desk, the settings, its number, how many calls it has made, and the history that it has seen
pub record PassView (A : Type 0) : Type 0 where
  pub table : TableId
  pub settings : Settings
  pub number : ℕ
  pub calls : ℕ
  pub seen : List (Entry A)

-- a desk: its table, the number of its passes, and the manager with which it opened
pub record Opened (A : Type 0) : Type 0 where
  pub table : TableId
  pub seats : ℕ
  pub opening : State A

-- the greatest number of passes of a desk, and of calls of a pass
abbrev pub most_seats : ℕ
most_seats = 1024

abbrev pub most_calls : ℕ
most_calls = 2 ^ 40

-- what a pass has of its service: the history that it has seen, and how many of its calls it has made
abbrev pub seen_by : {A : Type 0} → PassView A → Seen A
seen_by p = seen_so p.seen (bounded p.calls most_calls)

-- a desk may have this many passes
abbrev pub are_seats : ℕ → Bool
are_seats seats = nat_le 1 seats && nat_le seats most_seats

abbrev pub seats_fault : Bool → DeskFault
seats_fault true = Memory
seats_fault false = BadSeats

-- why a desk with this many seats does not open
abbrev pub open_fault : ℕ → DeskFault
open_fault seats = seats_fault (are_seats seats)

abbrev pub part : {A : Type 0} → ℕ → List (Entry A) → List (Part A)
part number seen = record { number = number; seen = seen } ∷ []

-- the view of the seat of a pass between its calls
abbrev pub resting : {A : Type 0} → Settings → ℕ → ℕ → List (Entry A) → View A
resting settings number calls seen = record { settings = settings; draws = calls; ticket = None; turn = false; parts = part number seen; notes = [] }

abbrev pub seen_in : {A : Type 0} → List (Part A) → List (Entry A)
seen_in [] = []
seen_in (p ∷ ps) = p.seen

-- the seat stands for the pass with this number, and is between calls
abbrev pub IsAtRest : {A : Type 0} → ℕ → Knows A → Type 0
IsAtRest number me = me ≡ (resting me.0.settings number me.0.draws (seen_in me.0.parts), [])

-- the pass with this number, by the view of its seat
abbrev pub standing : {A : Type 0} → TableId → ℕ → View A → PassView A
standing table number v = record { table = table; settings = v.settings; number = number; calls = v.draws; seen = seen_in v.parts }

abbrev pub IsShelf : TableId → TableId → Type 0
IsShelf place table = (place ≡ table) × (table.words ≡ 3) × (table.slots ≡ 1)

abbrev pub part_of : {A : Type 0} → PassView A → Part A
part_of p = record { number = p.number; seen = p.seen }

-- the pass has the same desk, settings and number as before
abbrev pub SamePass : {A : Type 0} → PassView A → PassView A → Type 0
SamePass old new = (new.table ≡ old.table) × (new.settings ≡ old.settings) × (new.number ≡ old.number)

-- A call in its turn: requests of others legally continue the history that the pass had seen. The reply is the one by
-- that history. Afterwards the pass has seen it, with the call's own request at its end if that was accepted.
pub record IsServed {A : Type 0} (old : PassView A) (ae : List ℕ) (moment : ℕ) (ask : Ask A) (reply : Reply A) (new : PassView A) : Type 0 where
  pub same : SamePass old new
  pub calls : new.calls ≡ old.calls + 1
  pub between : List (Entry A)
  pub others : All (λ (e : Entry A). e.caller ≢ old.number) between
  pub legal : is_legal old.settings (old.seen ++ between)
  pub answers : Answers old.settings (old.seen ++ between) old.number ae moment ask reply
  pub seen : new.seen ≡ (old.seen ++ between) ++ entered old.number ae moment ask reply

-- A pass that has made all the calls that it may refuses each later one, and sees nothing more.
abbrev pub IsSpent : {A : Type 0} → PassView A → Ask A → Reply A → PassView A → Type 0
IsSpent old ask reply new = (reply ≡ Answered (lacking ask)) × (new ≡ old)

abbrev pub IsCall : {A : Type 0} → PassView A → List ℕ → ℕ → Ask A → Reply A → PassView A → Type 0
IsCall old ae moment ask reply new = MatchBool (nat_lt old.calls most_calls) (IsServed old ae moment ask reply new) (IsSpent old ask reply new)

-- A look at the history in a turn: requests of others legally continue the history that the pass had seen, and the pass
-- sees it.
pub record HasObserved {A : Type 0} (old new : PassView A) : Type 0 where
  pub same : SamePass old new
  pub calls : new.calls ≡ old.calls + 1
  pub between : List (Entry A)
  pub others : All (λ (e : Entry A). e.caller ≢ old.number) between
  pub legal : is_legal old.settings (old.seen ++ between)
  pub seen : new.seen ≡ old.seen ++ between

-- a pass learns what another has seen: if that is longer, the pass has now seen it too; it continues the pass's own by
-- requests of others alone
pub record Learns {A : Type 0} (old from new : PassView A) : Type 0 where
  pub same : SamePass old new
  pub calls : new.calls ≡ old.calls
  pub seen : new.seen ≡ longer old.seen from.seen
  pub behind : Behind new.seen (part_of old)
  pub told : BeginsHistory from.seen new.seen
  pub legal : is_legal new.settings new.seen

-- a pass that has made no call
abbrev pub fresh : {A : Type 0} → TableId → State A → ℕ → PassView A
fresh table m k = record { table = table; settings = m.settings; number = k; calls = 0; seen = m.history }

-- n passes that have made no call, numbered from k on
abbrev pub passes_from : {A : Type 0} → TableId → State A → ℕ → ℕ → List (PassView A)
passes_from table m k zero = []
passes_from table m k (suc n) = fresh table m k ∷ passes_from table m (suc k) n

-- the history continues what each pass has seen by requests of others alone, and so has all requests of the pass
abbrev pub EndsFor : {A : Type 0} → List (Entry A) → List (PassView A) → Type 0
EndsFor history passes = All (λ p. Behind history (part_of p)) passes

-- the passes have numbers from 1 to the number of seats, and no two have the same
abbrev pub HaveNumbers : {A : Type 0} → ℕ → List (PassView A) → Type 0
HaveNumbers seats passes = All (λ p. IsPassNumber seats p.number) passes × ((k : ℕ) → count_by (λ p. p.number == k) passes ≤ 1)

-- what stands for a desk, and for its settings, if none is given
abbrev pub no_table : TableId
no_table = record { words = 0; slots = 0; views_name = 0; atom = 0; block = 0; offset = 0; slot_names = [] }

abbrev pub no_settings : Settings
no_settings = record { peers = []; keep = 0; offset = pos 0; limit = 0 }
