-- The effects of a part of a session on its writer, its gate and its service.
use Rattle.std.specs.Prelude.{◌≡◌, ℕ, List, [], ◌∷◌, Result, Ok, Err}
use Rattle.std.specs.Io.KnownBytes.{Appends}
use Rattle.ups_pdu.specs.declared.pdu.Pdu.{Pdu}
use Rattle.ups_life.specs.Settings.{Settings}
use Rattle.ups_life.specs.declared.request.Reply.{Reply}
use Rattle.ups_service.specs.Law.{Others, Seen, Grants, Serves}
use Rattle.ups_session.specs.declared.fault.SessionFault.{SessionFault}
use Rattle.ups_session.specs.Tells.{Told, Tells}
use Rattle.ups_session.specs.WatchedIo.{Output}
use Rattle.ups_session.specs.Wire.{IsPrefix}
use Rattle.ups_session.specs.Visits.{calls_of, asks_of, moments_of, replies_of, Sends, SendsPdus}
use Rattle.ups_session.specs.Fold.{Asked, Visit, replied, Chain}

-- the state of the writer, the calls that the gate recorded, and the service with what it has seen
pub record World (A : Type 0) : Type 0 where
  pub output : Output
  pub told : Told
  pub settings : Settings
  pub others : Others
  pub caller : ℕ
  pub seen : Seen A

abbrev pub world : {A : Type 0} → Output → Told → Settings → Others → ℕ → Seen A → World A
world output told settings others caller seen = record { output = output; told = told; settings = settings; others = others; caller = caller; seen = seen }

-- the service answered these asks one after the other, each at its moment, with these replies
abbrev pub ServesAll : {A : Type 0} → Settings → Others → ℕ → Seen A → List (Asked A) → List ℕ → List (Reply A) → Seen A → Type 0
ServesAll settings others caller seen [] [] [] after = after ≡ seen
ServesAll {A} settings others caller seen (asked ∷ asks) (moment ∷ moments) (reply ∷ replies) after =
    (then : Seen A) × Serves settings others caller seen asked.ae moment asked.ask reply then × ServesAll settings others caller then asks moments replies after
ServesAll settings others caller seen asks moments replies after = ⊥

-- the same, if a call was left for each of them
abbrev pub GrantsAll : {A : Type 0} → Settings → Others → ℕ → Seen A → List (Asked A) → List ℕ → List (Reply A) → Seen A → Type 0
GrantsAll settings others caller seen [] [] [] after = after ≡ seen
GrantsAll {A} settings others caller seen (asked ∷ asks) (moment ∷ moments) (reply ∷ replies) after =
    (then : Seen A) × Grants settings others caller seen asked.ae moment asked.ask reply then × GrantsAll settings others caller then asks moments replies after
GrantsAll settings others caller seen asks moments replies after = ⊥

-- These were done one after the other: they changed the world from `old` to `new`, and `sent` are the bytes that were
-- written. The gate was called for the moment of each ask, and before and after each PDU was written.
pub record Changes {A : Type 0} (visits : List (Visit A)) (sent : List ℕ) (old new : World A) : Type 0 where
  pub settings : new.settings ≡ old.settings
  pub others : new.others ≡ old.others
  pub caller : new.caller ≡ old.caller
  pub writes : Appends old.output.written new.output.written sent
  pub tells : Tells old.told new.told (calls_of visits)
  pub calls : ServesAll old.settings old.others old.caller old.seen (asks_of visits) (moments_of visits) (replies_of visits) new.seen

-- these PDUs were sent, or only the first of them, and the service was not called
abbrev pub SendsAlone : {A X : Type 0} → List (Pdu A) → World A → World A → Result X SessionFault → Type 0
SendsAlone said old new result = SendsPdus said old.output new.output old.told new.told result × (new ≡ record old { output = new.output; told = new.told })

-- the service gave this reply to an ask, at the moment that the gate gave just before, and nothing was written
abbrev pub AsksOnce : {A : Type 0} → Asked A → Reply A → World A → World A → Type 0
AsksOnce asked reply old new = (moment : ℕ) × Changes (replied asked moment reply ∷ []) [] old new × (new.output ≡ old.output)

-- all of the list was processed, or a beginning of it
abbrev pub IsDone : {L X Y : Type 0} → L → L → List X → List X → Result Y SessionFault → Type 0
IsDone end after some all (Ok y) = (end ≡ after) × (some ≡ all)
IsDone end after some all (Err fault) = IsPrefix some all

-- A side of an association processed these indications or arrivals, one after the other. `due` is what they lead to, in
-- order, and `visits` what was done of it.
pub record Performed {A L X Y : Type 0} (Step : L → X → List (Visit A) → L → Type 0) (all : List X) (from after : L) (old new : World A) (result : Result Y SessionFault) : Type 0 where
  pub some : List X
  pub due : List (Visit A)
  pub end : L
  pub visits : List (Visit A)
  pub sent : List ℕ
  pub ran : Chain Step some from due end
  pub changes : Changes visits sent old new
  pub did : IsDone end after some all result
  pub sends : Sends due visits sent new.output.failed result
