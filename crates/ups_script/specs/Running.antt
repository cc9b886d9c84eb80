-- How a script runs, and how it ends.
use Rattle.std.specs.Prelude.{◌≡◌, ℕ, ◌+◌, ◌≤◌, ◌⊎◌, List, [], ◌∷◌, length, Option, OnSome, Result, Ok, Err}
use Rattle.std.specs.Io.KnownBytes.{Keeps, Appends, Consumes, IsAtEnd}
use Rattle.std.specs.List.{flat_map}
use Rattle.ups_life.specs.declared.entry.Entry.{Entry}
use Rattle.ups_life.specs.Settings.{Settings}
use Rattle.ups_lines.specs.Words.{words_of}
use Rattle.ups_requests.specs.declared.asking.Asked.{Asked}
use Rattle.ups_script.specs.declared.fault.ScriptFault.{ScriptFault}
use Rattle.ups_script.specs.declared.fault.ScriptFault.TheVariants.{BadLine, TooManyLines, Read, Write, Memory}
use Rattle.ups_script.specs.declared.telling.Told.{Told}
use Rattle.ups_script.specs.Limits.{max_lines}
use Rattle.ups_script.specs.Lines.{HasMore, TakesLine, TakesLines}
use Rattle.ups_script.specs.Printing.{bad_text, line_of}
use Rattle.ups_requests.specs.Questions.{AsksAt, IsBad}
use Rattle.ups_script.specs.Telling.{TellsAsked}

-- the number of a line that may be read
abbrev pub IsNumber : ℕ → Type 0
IsNumber number = (1 ≤ number) × (number ≤ max_lines)

-- if the fault names a line, it is one that may be read
abbrev pub TellsLine : ScriptFault → Type 0
TellsLine (BadLine bad) = IsNumber bad.number
TellsLine TooManyLines = Unit {0}
TellsLine Read = Unit {0}
TellsLine Write = Unit {0}
TellsLine Memory = Unit {0}

-- the fault is one of reading: the reader failed, or memory ran out for the bytes that it gave
abbrev pub IsReading : ScriptFault → Type 0
IsReading Read = Unit {0}
IsReading Memory = Unit {0}
IsReading fault = ⊥

-- a line asks the question of its words, at their moment and by their application entity, and is answered from the history
abbrev pub AnswersLine : {A : Type 0} → Settings → List (Entry A) → List ℕ → Told A → List (Entry A) → Type 0
AnswersLine {A} settings history line told after = (asked : Asked A) × AsksAt (words_of line) asked.moment asked.ae asked.question × TellsAsked settings history asked told after

-- the same for lines, one after another
abbrev pub AnswersAll : {A : Type 0} → Settings → List (Entry A) → List (List ℕ) → List (Told A) → List (Entry A) → Type 0
AnswersAll settings history [] [] after = after ≡ history
AnswersAll {A} settings history (line ∷ lines) (told ∷ more) after = (then : List (Entry A)) × AnswersLine settings history line told then × AnswersAll settings then lines more after
AnswersAll settings history lines told after = ⊥

-- the state after a question whose answer was not written: if memory ran out, nothing was done; if a write failed, the question
-- was answered
abbrev pub Leaves : {A : Type 0} → Settings → List (Entry A) → Asked A → Option (List ℕ) → Option (List ℕ) → ScriptFault → List (Entry A) → Type 0
Leaves settings history asked written after Memory new = Keeps written after × (new ≡ history)
Leaves {A} settings history asked written after Write new = (told : Told A) × TellsAsked settings history asked told new
Leaves settings history asked written after fault new = ⊥

-- how the line with this number ends a script, given the bytes written before it and the history: it is invalid, for the reason
-- in the fault, and its number is written; memory ran out, and nothing was done; or a write failed, and its question may have
-- been answered
abbrev pub Breaks : {A : Type 0} → Settings → List (Entry A) → List ℕ → ℕ → Option (List ℕ) → Option (List ℕ) → ScriptFault → List (Entry A) → Type 0
Breaks settings history line number written after (BadLine bad) new = (bad.number ≡ number) × IsBad line bad.reason × Appends written after (bad_text number) × (new ≡ history)
Breaks settings history line number written after Memory new = Keeps written after × (new ≡ history)
Breaks {A} settings history line number written after Write new = (new ≡ history) ⊎ ((told : Told A) × AnswersLine settings history line told new)
Breaks settings history line number written after fault new = ⊥

-- how a script ends after lines that were answered: the fault is too many lines only if as many as the limit were answered and
-- input is left
abbrev pub EndsScript : {A : Type 0} → Settings → ℕ → ℕ → Option (List ℕ) → Option (List ℕ) → Option (List ℕ) → Option (List ℕ) → List (Entry A) → List (Entry A) → Result Unit ScriptFault → Type 0
EndsScript settings limit count rest left written after history new (Ok done) = Keeps rest left × OnSome rest (IsAtEnd left) × Keeps written after × (new ≡ history)
EndsScript settings limit count rest left written after history new (Err TooManyLines) = (count ≡ limit) × HasMore rest × Keeps rest left × Keeps written after × (new ≡ history)
EndsScript settings limit count rest left written after history new (Err Read) = ((part : List ℕ) × Consumes rest left part) × Keeps written after × (new ≡ history)
EndsScript settings limit count rest left written after history new (Err fault) =
    (((part : List ℕ) × Consumes rest left part) × (fault ≡ Memory) × Keeps written after × (new ≡ history))
    ⊎ ((line : List ℕ) × TakesLine rest line left × Breaks settings history line (count + 1) written after fault new)

-- The run of a script: some lines were taken and answered, one after another, and the replies were written; then it ended.
pub record Runs {A : Type 0} (settings : Settings) (limit : ℕ) (input left written after : Option (List ℕ)) (old new : List (Entry A)) (result : Result Unit ScriptFault) : Type 0 where
  pub lines : List (List ℕ)
  pub told : List (Told A)
  pub rest : Option (List ℕ)
  pub replies : Option (List ℕ)
  pub history : List (Entry A)
  pub taken : TakesLines input lines rest
  pub answered : AnswersAll settings old lines told history
  pub replied : Appends written replies (flat_map line_of told)
  pub few : length lines ≤ limit
  pub ends : EndsScript settings limit (length lines) rest left replies after history new result
