-- The asks that only look at held steps, and the rows that their replies rest on (PS3.4 sections CC.2.7, CC.2.8 and
-- C.4.1). Whoever has these rows can tell the reply, whatever is entered meanwhile. Histories have the oldest entry first.
use Rattle.std.specs.Prelude.{Bool, true, false, List, [], ◌∷◌}
use Rattle.std.specs.Option.{option_map, option_to_list}
use Rattle.ups_cycle.specs.declared.status.Status.TheVariants.{UnknownInstance}
use Rattle.ups_dataset.specs.declared.tag.Tag.{Tag}
use Rattle.ups_dataset.specs.Data.{El}
use Rattle.ups_match.specs.Matching.{is_match}
use Rattle.ups_life.specs.declared.entry.Entry.{Entry}
use Rattle.ups_life.specs.declared.row.Row.{Row}
use Rattle.ups_life.specs.declared.request.Ask.{Ask}
use Rattle.ups_life.specs.declared.request.Ask.TheVariants.{Do, Get, Find, Pending}
use Rattle.ups_life.specs.declared.request.Reply.{Reply}
use Rattle.ups_life.specs.declared.request.Reply.TheVariants.{Status as Answered, Sets as Found}
use Rattle.ups_life.specs.Settings.{Settings}
use Rattle.ups_life.specs.History.{shown}
use Rattle.ups_life.specs.Steps.{past}
use Rattle.ups_life.specs.Watching.{known}
use Rattle.ups_rows.specs.Answering.{answers_among}
use Rattle.ups_service.specs.Asked.{asked_rows}

-- the ask is an N-GET or a query: it enters nothing
abbrev pub is_look : {A : Type 0} → Ask A → Bool
is_look (Do request) = false
is_look (Get step listed) = true
is_look (Find keys) = true
is_look (Pending max) = false

-- THE ROWS that the reply rests on: that of the step that is shown, if it is held; those of the query's class
abbrev pub rows_for : {A : Type 0} → Settings → List (Entry A) → Ask A → List (List El)
rows_for s history (Do request) = []
rows_for {A} s history (Get step listed) = option_to_list (option_map (λ (r : Row A). r.attributes) (known s (past history) step))
rows_for s history (Find keys) = asked_rows s (past history) keys
rows_for s history (Pending max) = []

-- the reply to an N-GET by the row of its step, if there is one (PS3.4 CC.2.7)
abbrev pub shown_first : {A : Type 0} → List (List El) → List Tag → Reply A
shown_first [] listed = Answered UnknownInstance
shown_first (row ∷ rows) listed = shown row listed

-- the reply by rows; no other ask has one
abbrev pub reply_from : {A : Type 0} → List (List El) → Ask A → Reply A
reply_from rows (Do request) = Answered UnknownInstance
reply_from rows (Get step listed) = shown_first rows listed
reply_from rows (Find keys) = Found (answers_among (is_match keys) keys.attributes rows)
reply_from rows (Pending max) = Answered UnknownInstance
