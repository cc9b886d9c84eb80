-- The answers to the questions of a script by a manager that nobody else uses.
use Rattle.std.specs.Prelude.{◌≡◌, ℕ, List, Option, None, Some, Result, Ok, Err}
use Rattle.std.specs.Option.{option_map}
use Rattle.ups_dimse.specs.declared.command.Operation.{Operation}
use Rattle.ups_life.specs.declared.entry.Entry.{Entry}
use Rattle.ups_life.specs.declared.request.Ask.{Ask}
use Rattle.ups_life.specs.declared.request.Ask.TheVariants.{Do, Pending}
use Rattle.ups_life.specs.declared.request.Reply.{Reply}
use Rattle.ups_life.specs.declared.request.Reply.TheVariants.{Status as Answered}
use Rattle.ups_life.specs.declared.request.Request.TheVariants.{Ack, Sweep, Reserve}
use Rattle.ups_life.specs.declared.row.Holder.{Holder}
use Rattle.ups_cycle.specs.declared.status.Status.{Status}
use Rattle.ups_life.specs.Instances.{step_in}
use Rattle.ups_life.specs.Settings.{Settings}
use Rattle.ups_life.specs.Steps.{past}
use Rattle.ups_life.specs.Watching.{held, watched}
use Rattle.ups_manager.specs.Held.{holder_of}
use Rattle.ups_service.specs.Law.{nobody, alone, Serves}
use Rattle.ups_requests.specs.declared.asking.Asked.{Asked}
use Rattle.ups_requests.specs.declared.asking.Question.{Question}
use Rattle.ups_requests.specs.declared.asking.Question.TheVariants as questions
use Rattle.ups_script.specs.declared.telling.Told.{Told}
use Rattle.ups_script.specs.declared.telling.Told.TheVariants as told
use Rattle.ups_requests.specs.Asking.{Asks}

-- A request at a moment is answered by the law of the manager; a refused message gets its status and changes nothing.
abbrev pub Meets : {A : Type 0} → Settings → List (Entry A) → List ℕ → ℕ → Result (Ask A) Status → Reply A → List (Entry A) → Type 0
Meets settings history ae moment (Ok ask) reply after = Serves settings nobody 0 (alone history) ae moment ask reply (alone after)
Meets settings history ae moment (Err status) reply after = (reply ≡ Answered status) × (after ≡ history)

-- the reply to a message, given the bytes of its data set
abbrev pub RepliesToMessage : {A : Type 0} → Settings → List (Entry A) → List ℕ → ℕ → Operation A → List ℕ → Reply A → List (Entry A) → Type 0
RepliesToMessage {A} settings history ae moment operation bytes reply after =
    (meaning : Result (Ask A) Status) × Asks settings.offset operation bytes meaning × Meets settings history ae moment meaning reply after

-- the title of the holder of a step, by its UID
abbrev pub title_at : {A : Type 0} → Settings → List (Entry A) → Option (List ℕ) → Option (List ℕ)
title_at settings history None = None
title_at settings history (Some uid) = option_map (λ (h : Holder). h.ae) (holder_of settings (past history) uid)

abbrev pub title_of : {A : Type 0} → Settings → List (Entry A) → Option (List ℕ) → Option (List ℕ)
title_of settings history instance = title_at settings history (step_in instance)

-- the answer to each question from a history, and the history after it
abbrev pub TellsOf : {A : Type 0} → Settings → List (Entry A) → List ℕ → ℕ → Question A → Told A → List (Entry A) → Type 0
TellsOf settings history ae moment (questions.Message operation data_set) (told.Replied reply) after = RepliesToMessage settings history ae moment operation data_set.items reply after
TellsOf settings history ae moment questions.Sweep (told.Replied reply) after = Serves settings nobody 0 (alone history) ae moment (Do Sweep) reply (alone after)
TellsOf settings history ae moment (questions.Pending max) (told.Replied reply) after = Serves settings nobody 0 (alone history) ae moment (Pending max) reply (alone after)
TellsOf settings history ae moment (questions.Acknowledge upto) (told.Replied reply) after = Serves settings nobody 0 (alone history) ae moment (Do (Ack upto)) reply (alone after)
TellsOf settings history ae moment (questions.Reserve step) (told.Replied reply) after = Serves settings nobody 0 (alone history) ae moment (Do (Reserve step)) reply (alone after)
TellsOf settings history ae moment questions.Watches (told.Watched steps) after = (steps.items ≡ watched settings (past history) ae) × (after ≡ history)
TellsOf settings history ae moment questions.Held (told.Steps steps) after = (steps.items ≡ held settings (past history)) × (after ≡ history)
TellsOf settings history ae moment (questions.Holder instance) (told.Holder title) after = (title ≡ title_of settings history instance) × (after ≡ history)
TellsOf settings history ae moment question answer after = ⊥

-- the same for a question together with its moment and its application entity
abbrev pub TellsAsked : {A : Type 0} → Settings → List (Entry A) → Asked A → Told A → List (Entry A) → Type 0
TellsAsked settings history asked answer after = TellsOf settings history asked.ae asked.moment asked.question answer after
