-- What a session calls its gate for, and what it writes then.
use Rattle.std.specs.Prelude.{◌≡◌, ◌⊎◌, ℕ, Bool, true, List, [], ◌∷◌, ◌++◌, map, Result, Ok, Err}
use Rattle.std.specs.List.{flat_map}
use Rattle.std.specs.Io.KnownBytes.{Appends}
use Rattle.ups_life.specs.declared.request.Reply.{Reply}
use Rattle.ups_pdu.specs.declared.pdu.Pdu.{Pdu}
use Rattle.ups_pdu.specs.Written.{written_pdu}
use Rattle.ups_session.specs.declared.fault.SessionFault.{SessionFault}
use Rattle.ups_session.specs.declared.fault.SessionFault.TheVariants.{Write, Memory}
use Rattle.ups_session.specs.declared.gate.GateCall.{GateCall}
use Rattle.ups_session.specs.declared.gate.GateCall.TheVariants.{Before, After, Moment}
use Rattle.ups_session.specs.Fold.{Asked, Visit, replied, wrote}
use Rattle.ups_session.specs.Tells.{Told, Tells}
use Rattle.ups_session.specs.WatchedIo.{Output}
use Rattle.ups_session.specs.Wire.{IsCut, pdu_bytes}

-- the calls of the gate: one for the moment of an ask; one before a PDU is written, and one after it
abbrev pub calls_for : {A : Type 0} → Visit A → List GateCall
calls_for (replied asked moment reply) = Moment moment ∷ []
calls_for (wrote pdu) = Before ∷ After ∷ []

abbrev pub visit_ask : {A : Type 0} → Visit A → List (Asked A)
visit_ask (replied asked moment reply) = asked ∷ []
visit_ask (wrote pdu) = []

abbrev pub visit_moment : {A : Type 0} → Visit A → List ℕ
visit_moment (replied asked moment reply) = moment ∷ []
visit_moment (wrote pdu) = []

abbrev pub visit_reply : {A : Type 0} → Visit A → List (Reply A)
visit_reply (replied asked moment reply) = reply ∷ []
visit_reply (wrote pdu) = []

abbrev pub pdu_of : {A : Type 0} → Visit A → List (Pdu A)
pdu_of (replied asked moment reply) = []
pdu_of (wrote pdu) = pdu ∷ []

abbrev pub calls_of : {A : Type 0} → List (Visit A) → List GateCall
calls_of visits = flat_map calls_for visits

abbrev pub asks_of : {A : Type 0} → List (Visit A) → List (Asked A)
asks_of visits = flat_map visit_ask visits

abbrev pub moments_of : {A : Type 0} → List (Visit A) → List ℕ
moments_of visits = flat_map visit_moment visits

abbrev pub replies_of : {A : Type 0} → List (Visit A) → List (Reply A)
replies_of visits = flat_map visit_reply visits

abbrev pub pdus_of : {A : Type 0} → List (Visit A) → List (Pdu A)
pdus_of visits = flat_map pdu_of visits

-- the service replied to all that was asked before any PDU was written
abbrev pub RepliesFirst : {A : Type 0} → List (Visit A) → Type 0
RepliesFirst {A} visits = (front : List (Visit A)) × (said : List (Pdu A)) × (pdus_of front ≡ []) × (visits ≡ front ++ map wrote said)

-- the last PDU was written in part, and all those before it whole
pub record IsCutShort {A : Type 0} (visits : List (Visit A)) (sent : List ℕ) : Type 0 where
  pub front : List (Visit A)
  pub pdu : Pdu A
  pub part : List ℕ
  pub last : visits ≡ front ++ wrote pdu ∷ []
  pub cut : IsCut part (written_pdu pdu)
  pub bytes : sent ≡ pdu_bytes (pdus_of front) ++ part

-- a write failed within the last PDU; or memory ran out between two PDUs
abbrev pub FallsShort : {A : Type 0} → SessionFault → Bool → List (Visit A) → List ℕ → Type 0
FallsShort fault failed visits sent = ((fault ≡ Write) × (failed ≡ true) × IsCutShort visits sent) ⊎ ((fault ≡ Memory) × (sent ≡ pdu_bytes (pdus_of visits)))

-- of what was due this much was done, and nothing is left but PDUs, of which none was begun
abbrev pub LeavesUnsent : {A : Type 0} → List (Visit A) → List (Visit A) → Type 0
LeavesUnsent {A} visits due = (unsent : List (Pdu A)) × (visits ++ map wrote unsent ≡ due)

-- all that was due was done, and each PDU sent; or the first of it, and the PDUs begun were sent in part or in whole
abbrev pub Sends : {A X : Type 0} → List (Visit A) → List (Visit A) → List ℕ → Bool → Result X SessionFault → Type 0
Sends due visits sent failed (Ok x) = (visits ≡ due) × (sent ≡ pdu_bytes (pdus_of due))
Sends due visits sent failed (Err fault) = LeavesUnsent visits due × FallsShort fault failed visits sent

-- these PDUs were sent, or only the first of them
pub record SendsPdus {A X : Type 0} (said : List (Pdu A)) (old new : Output) (before later : Told) (result : Result X SessionFault) : Type 0 where
  pub visits : List (Visit A)
  pub sent : List ℕ
  pub timeless : moments_of visits ≡ []
  pub writes : Appends old.written new.written sent
  pub tells : Tells before later (calls_of visits)
  pub sends : Sends (map wrote said) visits sent new.failed result
