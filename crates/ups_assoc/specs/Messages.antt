-- Messages as sequences of fragments (PS3.8 annex E, PS3.7 section 6.3.1).
use Rattle.std.specs.Prelude.{◌≡◌, ◌≢◌, ℕ, ◌≤◌, Bool, true, false, ◌==◌, List, [], ◌∷◌, ◌++◌, length, Option, None, Some}
use Rattle.std.specs.List.{flat_map, list_any}
use Rattle.ups_pdu.specs.declared.pdv.Pdv.{Pdv}
use Rattle.ups_assoc.specs.declared.message.RawMessage.{RawMessage}
use Rattle.ups_assoc.specs.declared.assembling.Begun.{Begun}
use Rattle.ups_assoc.specs.declared.assembling.Begun.TheVariants.{Nothing, Command, Body, Failed}
use Rattle.ups_assoc.specs.Announcing.{data_follows}
use Rattle.ups_assoc.specs.Limits.{longest_message}

-- whether a presentation context is among the accepted ones
abbrev pub is_accepted : List ℕ → ℕ → Bool
is_accepted ids context = list_any (λ id. id == context) ids

-- the bytes of the fragments, joined
abbrev pub bytes_of : {A : Type 0} → List (Pdv A) → List ℕ
bytes_of pdvs = flat_map (λ p. p.bytes) pdvs

-- a fragment of a command or of a data set, on a presentation context, and whether it is the last
pub record IsPart {A : Type 0} (context : ℕ) (command last : Bool) (pdv : Pdv A) : Type 0 where
  pub on_context : pdv.context ≡ context
  pub of_command : pdv.command ≡ command
  pub is_last : pdv.last ≡ last

-- all the fragments of a command or of a data set: only the last is marked as the last
abbrev pub IsRun : {A : Type 0} → ℕ → Bool → List (Pdv A) → Type 0
IsRun context command [] = ⊥
IsRun context command (p ∷ []) = IsPart context command true p
IsRun context command (p ∷ q ∷ ps) = IsPart context command false p × IsRun context command (q ∷ ps)

-- the fragments of the data set of a command: none if it announces none
abbrev pub IsDataSetOfMessage : {A : Type 0} → ℕ → List ℕ → List (Pdv A) → Option (List ℕ) → Type 0
IsDataSetOfMessage context command pdvs None = (data_follows command ≡ false) × (pdvs ≡ [])
IsDataSetOfMessage context command pdvs (Some body) = (data_follows command ≡ true) × IsRun context false pdvs × (bytes_of pdvs ≡ body)

-- The fragments are this message: those of its command, then those of its data set, on one accepted context, and no
-- longer than the limit.
pub record IsMessage {A : Type 0} (ids : List ℕ) (pdvs : List (Pdv A)) (message : RawMessage A) : Type 0 where
  pub commands : List (Pdv A)
  pub datas : List (Pdv A)
  pub parts : pdvs ≡ commands ++ datas
  pub accepted : is_accepted ids message.context ≡ true
  pub command_run : IsRun message.context true commands
  pub command_is : bytes_of commands ≡ message.command
  pub body_is : IsDataSetOfMessage message.context message.command datas message.body
  pub within : length (bytes_of pdvs) ≤ longest_message

-- the fragments are these messages, one after the other
abbrev pub AreMessages : {A : Type 0} → List ℕ → List (Pdv A) → List (RawMessage A) → Type 0
AreMessages ids pdvs [] = pdvs ≡ []
AreMessages {A} ids pdvs (m ∷ ms) = (front : List (Pdv A)) × (rest : List (Pdv A)) × (pdvs ≡ front ++ rest) × IsMessage ids front m × AreMessages ids rest ms

-- the first fragments of a command or of a data set: none of them is marked as the last
abbrev pub IsUnfinished : {A : Type 0} → ℕ → Bool → List (Pdv A) → Type 0
IsUnfinished context command [] = Unit {0}
IsUnfinished context command (p ∷ ps) = IsPart context command false p × IsUnfinished context command ps

-- the first fragments of a command
pub record IsBegunCommand {A : Type 0} (ids : List ℕ) (context : ℕ) (bytes : List ℕ) (pdvs : List (Pdv A)) : Type 0 where
  pub some : pdvs ≢ []
  pub accepted : is_accepted ids context ≡ true
  pub command_open : IsUnfinished context true pdvs
  pub bytes_are : bytes_of pdvs ≡ bytes
  pub within : length bytes ≤ longest_message

-- the fragments of a command that announces a data set, and the first fragments of that data set, if any
pub record IsBegunBody {A : Type 0} (ids : List ℕ) (context : ℕ) (command bytes : List ℕ) (pdvs : List (Pdv A)) : Type 0 where
  pub commands : List (Pdv A)
  pub datas : List (Pdv A)
  pub parts : pdvs ≡ commands ++ datas
  pub accepted : is_accepted ids context ≡ true
  pub command_run : IsRun context true commands
  pub command_is : bytes_of commands ≡ command
  pub announces : data_follows command ≡ true
  pub data_open : IsUnfinished context false datas
  pub bytes_are : bytes_of datas ≡ bytes
  pub within : length (bytes_of pdvs) ≤ longest_message

-- The fragments are the beginning of a message, of which this has been received.
abbrev pub IsBegun : {A : Type 0} → List ℕ → Begun A → List (Pdv A) → Type 0
IsBegun ids Nothing pdvs = pdvs ≡ []
IsBegun ids (Command context bytes) pdvs = IsBegunCommand ids context bytes pdvs
IsBegun ids (Body context command bytes) pdvs = IsBegunBody ids context command bytes pdvs
IsBegun ids Failed pdvs = ⊥

-- The fragments are these messages, followed by the beginning of a message.
abbrev pub AreFragments : {A : Type 0} → List ℕ → List (Pdv A) → List (RawMessage A) → Begun A → Type 0
AreFragments {A} ids pdvs messages begun = (front : List (Pdv A)) × (rest : List (Pdv A)) × (pdvs ≡ front ++ rest) × AreMessages ids front messages × IsBegun ids begun rest
