-- The reply to a line, by that to its question.
use Rattle.std.proofs.Common.{ℕ, List, Option, Result, Ok, Err, inr}
use Rattle.std.specs.Prelude.{OnOk, IfErr}
use Rattle.std.specs.Io.KnownBytes.{Appends}
use Rattle.ups_life.specs.declared.entry.Entry.{Entry}
use Rattle.ups_life.specs.Settings.{Settings}
use Rattle.ups_lines.specs.Words.{words_of}
use Rattle.ups_requests.specs.declared.asking.Asked.{Asked}
use Rattle.ups_script.specs.declared.fault.ScriptFault.{ScriptFault}
use Rattle.ups_script.specs.declared.fault.ScriptFault.TheVariants.{BadLine, TooManyLines, Read, Write, Memory}
use Rattle.ups_script.specs.declared.telling.Told.{Told}
use Rattle.ups_script.specs.Printing.{line_of}
use Rattle.ups_requests.specs.Questions.{AsksAt}
use Rattle.ups_script.specs.Running.{AnswersLine, Leaves, Breaks}
use Rattle.ups_script.specs.Telling.{TellsAsked}

pub told_line : {A : Type 0} (settings : Settings) (old new : List (Entry A)) (line : List ℕ) (asked : Asked A) (a b : Option (List ℕ)) (r : Result (Unit {0}) ScriptFault) → AsksAt (words_of line) asked.moment asked.ae asked.question
    → OnOk r ((told : Told A) × TellsAsked settings old asked told new × Appends a b (line_of told)) → OnOk r ((told : Told A) × AnswersLine settings old line told new × Appends a b (line_of told))
told_line settings old new line asked a b (Ok done) at (told, tells, said) = (told, (asked, at, tells), said)
told_line settings old new line asked a b (Err fault) at h = tt

breaks : {A : Type 0} (settings : Settings) (old new : List (Entry A)) (line : List ℕ) (number : ℕ) (asked : Asked A) (a b : Option (List ℕ)) (fault : ScriptFault) → AsksAt (words_of line) asked.moment asked.ae asked.question
    → Leaves settings old asked a b fault new → Breaks settings old line number a b fault new
breaks settings old new line number asked a b Memory at h = h
breaks settings old new line number asked a b Write at (told, tells) = inr (told, (asked, at, tells))
breaks settings old new line number asked a b (BadLine bad) at h = absurd h
breaks settings old new line number asked a b TooManyLines at h = absurd h
breaks settings old new line number asked a b Read at h = absurd h

pub left_line : {A : Type 0} (settings : Settings) (old new : List (Entry A)) (line : List ℕ) (number : ℕ) (asked : Asked A) (a b : Option (List ℕ)) (r : Result (Unit {0}) ScriptFault) → AsksAt (words_of line) asked.moment asked.ae asked.question
    → IfErr r (λ fault. Leaves settings old asked a b fault new) → IfErr r (λ fault. Breaks settings old line number a b fault new)
left_line settings old new line number asked a b (Ok done) at h = tt
left_line settings old new line number asked a b (Err fault) at h = breaks settings old new line number asked a b fault at h
