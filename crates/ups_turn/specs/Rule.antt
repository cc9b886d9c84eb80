-- The invariant of a desk's table between any two steps, whichever threads take them. The table has three words: the
-- number of entered requests, the next ticket, and the ticket whose turn it is. Its one slot has the manager, or
-- nothing while a pass works with it.
use Rattle.std.specs.Prelude.{◌≡◌, ◌≢◌, ◌⊎◌, ℕ, zero, suc, ◌*◌, ◌^◌, ◌<◌, ◌≤◌, Bool, true, false, ◌==◌, ◌&&◌, nat_lt, nat_le, List, [], ◌∷◌, ◌++◌, length, All, sum_by, count_by, Option, Some, None, if◌then◌else◌}
use mathlib.Core.Option as maybe
use lib.ListN.{get_elem?}
use Rattle.atomic_table.specs.Table.{State as Table}
use Rattle.ups_life.specs.declared.entry.Entry.{Entry}
use Rattle.ups_life.specs.Settings.{Settings}
use Rattle.ups_service.specs.State.{State}
use Rattle.ups_service.specs.Law.{is_legal, BeginsHistory}
use Rattle.ups_turn.specs.declared.view.Part.{Part}
use Rattle.ups_turn.specs.declared.view.View.{View}
use Rattle.ups_turn.specs.Opening.{Opening}

-- passes are numbered from 1 to the number of seats
abbrev pub IsPassNumber : ℕ → ℕ → Type 0
IsPassNumber seats number = (1 ≤ number) × (number ≤ seats)

-- the history `log` continues another by requests of passes alone
abbrev pub EnteredByPasses : {A : Type 0} → ℕ → List (Entry A) → List (Entry A) → Type 0
EnteredByPasses {A} seats before log = (rest : List (Entry A)) × (before ++ rest ≡ log) × All (λ (e : Entry A). IsPassNumber seats e.caller) rest

-- the history continues what a pass has seen by requests of other callers alone
abbrev pub Behind : {A : Type 0} → List (Entry A) → Part A → Type 0
Behind {A} log p = (rest : List (Entry A)) × (p.seen ++ rest ≡ log) × All (λ (e : Entry A). e.caller ≢ p.number) rest

abbrev pub manager_state : {A : Type 0} → Settings → List (Entry A) → State A
manager_state settings log = record { settings = settings; history = log }

-- the settings of the manager with which the desk opened
abbrev pub settings_of : {A : Type 0} → Opening A → Settings
settings_of o = o.manager.settings

abbrev pub is_mine : ℕ → Option ℕ → Bool
is_mine x None = false
is_mine x (Some t) = t == x

abbrev pub one_if : Bool → ℕ
one_if b = if b then 1 else 0

-- What is counted of a view: whether its seat has the ticket x, whether it has the turn, how many tickets were drawn,
-- for how many passes it stands, and how many of these have the number k.
abbrev pub tickets : {A : Type 0} → ℕ → View A → ℕ
tickets x v = one_if (is_mine x v.ticket)

abbrev pub turns : {A : Type 0} → View A → ℕ
turns v = one_if v.turn

abbrev pub draws : {A : Type 0} → View A → ℕ
draws v = v.draws

abbrev pub passes : {A : Type 0} → View A → ℕ
passes v = length v.parts

abbrev pub count_numbered : {A : Type 0} → ℕ → View A → ℕ
count_numbered {A} k v = count_by (λ (p : Part A). p.number == k) v.parts

-- 1 if x is a ticket drawn (below `high`) and not yet served (from `low` on), otherwise 0
abbrev pub between : ℕ → ℕ → ℕ → ℕ
between x low high = one_if (nat_le low x && nat_lt x high)

-- What one seat knows is true: the history continues what each of its passes has seen by others' requests alone, and
-- each has seen all of it while the seat has the turn.
pub record FitsView {A : Type 0} (o : Opening A) (log : List (Entry A)) (serving : ℕ) (v : View A) : Type 0 where
  pub settings_is : 0 < length v.parts → v.settings ≡ settings_of o
  pub numbers : All (λ (p : Part A). IsPassNumber o.seats p.number) v.parts
  pub busy : v.turn ≡ true → 0 < length v.parts
  pub behind : All (Behind log) v.parts
  pub noted : All (λ x. BeginsHistory x log) v.notes
  pub turn_is : v.turn ≡ true → (v.ticket ≡ Some serving) × All (λ (p : Part A). p.seen ≡ log) v.parts
  pub draws_few : v.draws ≤ length v.parts * 2 ^ 40

-- the manager is in the slot if no seat has the turn, and otherwise with the seat that has it
abbrev pub Slot : {A : Type 0} → Settings → List (Entry A) → List (maybe.Option (Option (State A))) → ℕ → Type 0
Slot settings log homes out =
    ((out ≡ 0) × (homes ≡ maybe.some (Some (manager_state settings log)) ∷ []))
    ⊎ ((out ≡ 1) × (homes ≡ maybe.none ∷ []))

-- The rule. There is one legal history, which begins with the opening's and continues with requests of passes. Each
-- ticket from the one whose turn it is up to the last one drawn is with one seat; no pass number is with two.
pub record Kept {A : Type 0} (o : Opening A) (s : Table (Option (State A)) (View A)) : Type 0 where
  pub log : List (Entry A)
  pub ticket : ℕ
  pub serving : ℕ
  pub order : serving ≤ ticket
  pub legal : is_legal (settings_of o) log
  pub since : EnteredByPasses o.seats o.manager.history log
  pub words : s.words ≡ length log ∷ ticket ∷ serving ∷ []
  pub slot : Slot (settings_of o) log s.homes (sum_by turns s.views)
  pub each : (i : ℕ) (v : View A) → get_elem? s.views i ≡ maybe.some v → FitsView o log serving v
  pub ticketed : (x : ℕ) → sum_by (tickets x) s.views ≡ between x serving ticket
  pub drawn : sum_by draws s.views ≡ ticket
  pub all_passes : sum_by passes s.views ≡ o.seats
  pub apart : (k : ℕ) → sum_by (count_numbered k) s.views ≤ 1
  pub few : o.seats ≤ 1024
  pub word_sized : (settings_of o).limit < 2 ^ 64

-- n passes that have seen the same history, numbered from k on
abbrev pub parts_from : {A : Type 0} → List (Entry A) → ℕ → ℕ → List (Part A)
parts_from log k zero = []
parts_from log k (suc n) = record { number = k; seen = log } ∷ parts_from log (suc k) n

-- the view of a seat that stands for n new passes, numbered from k on
abbrev pub opening_view : {A : Type 0} → State A → ℕ → ℕ → View A
opening_view m k n = record { settings = m.settings; draws = 0; ticket = None; turn = false; parts = parts_from m.history k n; notes = [] }

-- the first seat stands for all passes
abbrev pub first_seat_view : {A : Type 0} → Opening A → View A
first_seat_view o = opening_view o.manager 1 o.seats

abbrev pub KeepsRule : {A : Type 0} → Opening A → Table (Option (State A)) (View A) → Type 0
KeepsRule o s = Kept o s
