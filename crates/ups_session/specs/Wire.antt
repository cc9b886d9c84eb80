-- The bytes that are written to a writer.
use Rattle.std.specs.Prelude.{◌≡◌, ◌≢◌, ℕ, Bool, true, List, [], ◌++◌, Result, Ok, Err}
use Rattle.std.specs.List.{flat_map}
use Rattle.ups_pdu.specs.declared.pdu.Pdu.{Pdu}
use Rattle.ups_pdu.specs.Written.{written_pdu}
use Rattle.ups_session.specs.declared.fault.SessionFault.{SessionFault}
use Rattle.ups_session.specs.declared.fault.SessionFault.TheVariants.{Write}

abbrev pub IsPrefix : {X : Type 0} → List X → List X → Type 0
IsPrefix {X} xs ys = (rest : List X) × (xs ++ rest ≡ ys)

-- what was sent is a beginning of the bytes, but not all of them
abbrev pub IsCut : List ℕ → List ℕ → Type 0
IsCut sent bytes = (rest : List ℕ) × (rest ≢ []) × (sent ++ rest ≡ bytes)

-- all of the bytes were sent; or, if a write failed, not all of them
abbrev pub Sent : {X : Type 0} → List ℕ → List ℕ → Bool → Result X SessionFault → Type 0
Sent bytes sent failed (Ok x) = sent ≡ bytes
Sent bytes sent failed (Err e) = (e ≡ Write) × (failed ≡ true) × IsCut sent bytes

-- the bytes of PDUs
abbrev pub pdu_bytes : {A : Type 0} → List (Pdu A) → List ℕ
pdu_bytes said = flat_map written_pdu said
