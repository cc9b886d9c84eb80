-- The accepted request that a line asks for, whoever reads it.
use Rattle.std.specs.Prelude.{◌≡◌, ◌==◌, ℕ, ℤ, Bool, List, Result, Ok}
use Rattle.ups_dimse.specs.declared.command.Operation.{Operation}
use Rattle.ups_cycle.specs.declared.status.Status.{Status}
use Rattle.ups_life.specs.declared.entry.Entry.{Entry}
use Rattle.ups_life.specs.declared.request.Ask.{Ask}
use Rattle.ups_life.specs.declared.request.Ask.TheVariants.{Do}
use Rattle.ups_life.specs.declared.request.Request.{Request}
use Rattle.ups_life.specs.declared.request.Request.TheVariants.{Ack, Sweep, Reserve}
use Rattle.ups_lines.specs.Words.{words_of}
use Rattle.ups_requests.specs.declared.asking.Question.{Question}
use Rattle.ups_requests.specs.declared.asking.Question.TheVariants as questions
use Rattle.ups_requests.specs.Asking.{Asks}
use Rattle.ups_requests.specs.Questions.{AsksAt}

-- a question asks for a request, and for nothing else
abbrev pub AsksFor : {A : Type 0} → ℤ → Question A → Request A → Type 0
AsksFor {A} offset (questions.Message operation data_set) request = (meaning : Result (Ask A) Status) → Asks offset operation data_set.items meaning → meaning ≡ Ok (Do request)
AsksFor offset (questions.Acknowledge upto) request = request ≡ Ack upto
AsksFor offset questions.Sweep request = request ≡ Sweep
AsksFor offset (questions.Reserve step) request = request ≡ Reserve step
AsksFor offset question request = ⊥

-- WHAT THE LINE TELLS: at the moment of the entry its application entity asks for its request, whatever question the words are
-- read as
abbrev pub TellsEntry : {A : Type 0} → ℤ → List ℕ → Entry A → Type 0
TellsEntry {A} offset line e = (moment : ℕ) → (ae : List ℕ) → (question : Question A) → AsksAt (words_of line) moment ae question
    → (moment ≡ e.moment) × (ae ≡ e.ae) × AsksFor offset question e.request

abbrev pub is_feed : ℕ → Bool
is_feed byte = byte == 10
