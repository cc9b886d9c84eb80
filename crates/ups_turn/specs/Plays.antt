-- What each step tells the seat that takes it, as a function of what the seat knew before.
use Rattle.std.specs.Prelude.{◌≡◌, ℕ, pos, ◌+◌, Bool, true, false, List, [], ◌∷◌, ◌++◌, map, length, All, Option, Some, None, MatchBool, ◌≤◌, nat_lt, if◌then◌else◌}
use Rattle.atomic_table.specs.Table.{Me, Step}
use Rattle.ups_life.specs.declared.entry.Entry.{Entry}
use Rattle.ups_life.specs.Settings.{Settings}
use Rattle.ups_service.specs.State.{State}
use Rattle.ups_service.specs.Law.{is_legal, BeginsHistory}
use Rattle.ups_turn.specs.declared.view.Part.{Part}
use Rattle.ups_turn.specs.declared.view.View.{View}
use Rattle.ups_turn.specs.Rule.{Behind, manager_state, is_mine}

-- the view of a seat, and the slots that it holds
abbrev pub Knows : Type 0 → Type 0
Knows A = Me (Option (State A)) (View A)

-- the law of a step: the seat's knowledge before it, the number found, and the knowledge after it
abbrev pub StepLaw : Type 0 → Type 1
StepLaw A = Step (Option (State A)) → Knows A → ℕ → Knows A → Type 0

abbrev pub with_ticket : {A : Type 0} → View A → ℕ → View A
with_ticket v t = record { settings = v.settings; draws = v.draws + 1; ticket = Some t; turn = v.turn; parts = v.parts; notes = v.notes }

-- the passes after they have seen the history
abbrev pub seeing : {A : Type 0} → List (Entry A) → List (Part A) → List (Part A)
seeing {A} log ps = map (λ (p : Part A). record { number = p.number; seen = log }) ps

abbrev pub at_turn : {A : Type 0} → View A → Bool → List (Entry A) → View A
at_turn v turn log = record { settings = v.settings; draws = v.draws; ticket = v.ticket; turn = turn; parts = seeing log v.parts; notes = v.notes }

abbrev pub served : {A : Type 0} → View A → View A
served v = record { settings = v.settings; draws = v.draws; ticket = None; turn = false; parts = v.parts; notes = v.notes }

-- Draw: the number found is the seat's ticket.
abbrev pub Draws : {A : Type 0} → StepLaw A
Draws s me found after = after ≡ (with_ticket me.0 found, me.1)

-- With the turn come the manager and its history, which continues what the seat's passes have seen by requests of
-- others alone.
pub record TakesTurn {A : Type 0} (me after : Knows A) : Type 0 where
  pub log : List (Entry A)
  pub behind : All (Behind log) me.0.parts
  pub legal : is_legal me.0.settings log
  pub after_is : after ≡ (at_turn me.0 true log, (0, Some (manager_state me.0.settings log)) ∷ [])

-- Look: the seat has the turn if the number found is its ticket; otherwise nothing changes.
abbrev pub Looks : {A : Type 0} → StepLaw A
Looks s me found after = MatchBool (is_mine found me.0.ticket) (TakesTurn me after) (after ≡ me)

abbrev pub history_of : {A : Type 0} → Option (State A) → List (Entry A)
history_of None = []
history_of (Some m) = m.history

-- the history of the manager that a seat holds
abbrev pub history_in : {A : Type 0} → List (ℕ × Option (State A)) → List (Entry A)
history_in [] = []
history_in (x ∷ xs) = history_of x.1

-- Decide: the history that the seat holds is entered, and its passes have seen it.
abbrev pub Decides : {A : Type 0} → StepLaw A
Decides s me found after = after ≡ (at_turn me.0 true (history_in me.1), me.1)

-- Serve: the manager is back in its slot, and the seat rests.
abbrev pub ServesNext : {A : Type 0} → StepLaw A
ServesNext s me found after = after ≡ (served me.0, [])

-- a seat that stands for one pass has the turn, and holds the manager with this history
pub record HasTurn {A : Type 0} (me : Knows A) (number : ℕ) (seen log : List (Entry A)) : Type 0 where
  pub turn : me.0.turn ≡ true
  pub parts : me.0.parts ≡ record { number = number; seen = seen } ∷ []
  pub holds : me.1 ≡ (0, Some (manager_state me.0.settings log)) ∷ []

-- what the seat holds may be entered: it adds one request of the seat's pass, or none, to what the pass has seen;
-- `count` is the number of requests added
pub record MayDecide {A : Type 0} (me : Knows A) (count : ℕ) : Type 0 where
  pub number : ℕ
  pub seen : List (Entry A)
  pub added : List (Entry A)
  pub has : HasTurn me number seen (seen ++ added)
  pub counted : length added ≡ count
  pub few : count ≤ 1
  pub own : All (λ (e : Entry A). e.caller ≡ number) added
  pub legal : is_legal me.0.settings (seen ++ added)

-- what the seat holds has been entered
pub record MayServe {A : Type 0} (me : Knows A) : Type 0 where
  pub number : ℕ
  pub seen : List (Entry A)
  pub has : HasTurn me number seen seen

-- the seat has drawn a ticket and has the turn, and the manager was taken from it
pub record Took {A : Type 0} (me after : Knows A) (manager : State A) : Type 0 where
  pub ticket : ℕ
  pub log : List (Entry A)
  pub behind : All (Behind log) me.0.parts
  pub legal : is_legal me.0.settings log
  pub manager_is : manager ≡ manager_state me.0.settings log
  pub after_is : after ≡ (at_turn (with_ticket me.0 ticket) true log, (0, None) ∷ [])

-- the manager may be given back: it adds one request of the seat's pass, or none, to what the pass has seen; `count` is
-- the number of requests added
pub record MayGive {A : Type 0} (me : Knows A) (manager : State A) (count : ℕ) : Type 0 where
  pub number : ℕ
  pub seen : List (Entry A)
  pub added : List (Entry A)
  pub turn : me.0.turn ≡ true
  pub parts : me.0.parts ≡ record { number = number; seen = seen } ∷ []
  pub holds : me.1 ≡ (0, None) ∷ []
  pub manager_is : manager ≡ manager_state me.0.settings (seen ++ added)
  pub counted : length added ≡ count
  pub few : count ≤ 1
  pub own : All (λ (e : Entry A). e.caller ≡ number) added
  pub legal : is_legal me.0.settings (seen ++ added)

-- Note: a seat that stands for no pass, and knows what the passes of another seat have seen.
abbrev pub note_of : {A : Type 0} → View A → View A
note_of {A} v = record { settings = v.settings; draws = 0; ticket = None; turn = false; parts = []; notes = map (λ (p : Part A). p.seen) v.parts }

-- Join: one seat stands for the passes of both, and has the notes of both.
abbrev pub joined_views : {A : Type 0} → View A → View A → View A
joined_views v w = record { settings = v.settings; draws = v.draws + w.draws; ticket = v.ticket; turn = v.turn; parts = v.parts ++ w.parts; notes = v.notes ++ w.notes }

abbrev pub unset : Settings
unset = record { peers = []; keep = 0; offset = pos 0; limit = 0 }

-- the view of a seat after it was joined to another
abbrev pub spent_view : {A : Type 0} → View A
spent_view = record { settings = unset; draws = 0; ticket = None; turn = false; parts = []; notes = [] }

abbrev pub first_part : {A : Type 0} → List (Part A) → List (Part A)
first_part [] = []
first_part (p ∷ ps) = p ∷ []

abbrev pub other_parts : {A : Type 0} → List (Part A) → List (Part A)
other_parts [] = []
other_parts (p ∷ ps) = ps

-- Deal: the new seat stands for the first pass, and the old one for the others.
abbrev pub dealt : {A : Type 0} → View A → View A
dealt v = record { settings = v.settings; draws = 0; ticket = None; turn = false; parts = first_part v.parts; notes = [] }

abbrev pub kept_back : {A : Type 0} → View A → View A
kept_back v = record { settings = v.settings; draws = v.draws; ticket = v.ticket; turn = v.turn; parts = other_parts v.parts; notes = v.notes }

abbrev pub longer : {A : Type 0} → List (Entry A) → List (Entry A) → List (Entry A)
longer xs ys = if nat_lt (length xs) (length ys) then ys else xs

abbrev pub longest : {A : Type 0} → List (Entry A) → List (List (Entry A)) → List (Entry A)
longest xs [] = xs
longest xs (ys ∷ yss) = longest (longer xs ys) yss

abbrev pub catching_up : {A : Type 0} → List (List (Entry A)) → Part A → Part A
catching_up notes p = record { number = p.number; seen = longest p.seen notes }

abbrev pub settled : {A : Type 0} → View A → View A
settled v = record { settings = v.settings; draws = v.draws; ticket = v.ticket; turn = v.turn; parts = map (catching_up v.notes) v.parts; notes = [] }

-- the longest of the noted histories and the pass's own begins with each noted one, is legal, and continues what the
-- pass had seen by requests of others alone
pub record CaughtUp {A : Type 0} (settings : Settings) (notes : List (List (Entry A))) (p : Part A) : Type 0 where
  pub behind : Behind (longest p.seen notes) p
  pub noted : All (λ x. BeginsHistory x (longest p.seen notes)) notes
  pub legal : is_legal settings (longest p.seen notes)

-- Settle: each pass has seen the longest of its own and the noted histories.
abbrev pub SettlesNotes : {A : Type 0} → StepLaw A
SettlesNotes {A} s me found after = (after ≡ (settled me.0, me.1)) × All (CaughtUp me.0.settings me.0.notes) me.0.parts
