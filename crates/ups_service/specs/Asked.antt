-- The held steps about which a query asks whether they match, and how many these are (PS3.4 sections CC.2.8 and C.4.1).
use Rattle.std.specs.Prelude.{◌≡◌, ◌≤◌, ◌+◌, ℕ, List, length}
use Rattle.ups_dataset.specs.Data.{El}
use Rattle.ups_match.specs.Class.{class}
use Rattle.ups_match.specs.Matching.{KeySet}
use Rattle.ups_life.specs.declared.entry.Entry.{Entry}
use Rattle.ups_life.specs.declared.request.Ask.{Ask}
use Rattle.ups_life.specs.declared.request.Ask.TheVariants.{Do, Get, Find, Pending}
use Rattle.ups_life.specs.declared.request.Reply.{Reply}
use Rattle.ups_life.specs.declared.request.Reply.TheVariants.{Status as Answered, Set as Shown, Sets as Found, Swept, AckAhead, AckStale, Reports}
use Rattle.ups_life.specs.Settings.{Settings}
use Rattle.ups_life.specs.Steps.{past}
use Rattle.ups_life.specs.Worklist.{rows}

-- THE CLASS of a query: the held rows that have its first indexed key, in order of creation
abbrev pub asked_rows : {A : Type 0} → Settings → List (Entry A) → KeySet → List (List El)
asked_rows s es keys = class s.offset keys (rows s es)

-- the count of questions to a matcher rises from `before` to `after`: by the number of rows, or by that at most if
-- memory ran out
abbrev pub IsAsked : {A : Type 0} → ℕ → ℕ → ℕ → Reply A → Type 0
IsAsked before rows after (Found sets) = after ≡ before + rows
IsAsked before rows after (Answered status) = after ≤ before + rows
IsAsked before rows after (Shown status set) = ⊥
IsAsked before rows after (Swept count) = ⊥
IsAsked before rows after AckAhead = ⊥
IsAsked before rows after AckStale = ⊥
IsAsked before rows after (Reports reports) = ⊥

-- The number of held steps about which the last query asked, before and after an ask. The history has the oldest entry
-- first. A query asks about its class, or about so many steps at most if memory runs out; no other ask changes the number.
abbrev pub NotesAsked : {A : Type 0} → Settings → List (Entry A) → Ask A → Reply A → ℕ → ℕ → Type 0
NotesAsked settings history (Do request) reply before after = after ≡ before
NotesAsked settings history (Get step listed) reply before after = after ≡ before
NotesAsked settings history (Find keys) reply before after = IsAsked 0 (length (asked_rows settings (past history) keys)) after reply
NotesAsked settings history (Pending max) reply before after = after ≡ before
