-- The header of each PDU (PS3.8 section 9.3.1).
use Rattle.std.specs.Prelude.{◌≡◌, ℕ, ◌<◌, ◌≤◌, ◌^◌, ◌⊎◌, List, ◌∷◌, ◌++◌, length}
use Rattle.std.specs.Int.{w32, to_be_bytes}
use Rattle.ups_pdu.specs.declared.fault.PduFault.{PduFault}
use Rattle.ups_pdu.specs.declared.fault.PduFault.TheVariants.{Short, UnknownType, BadLength, BadItem, TooLong, Memory}
use Rattle.ups_pdu.specs.declared.kind.PduKind.{PduKind}
use Rattle.ups_pdu.specs.declared.kind.PduKind.TheVariants.{AssociateRq, AssociateAc, AssociateRj, Data, ReleaseRq, ReleaseRp, Abort}
use Rattle.ups_pdu.specs.Limits.{max_data_length, max_body_length}

-- the PDU type (PS3.8 tables 9-11 to 9-26)
abbrev pub type_code : PduKind → ℕ
type_code AssociateRq = 1
type_code AssociateAc = 2
type_code AssociateRj = 3
type_code Data = 4
type_code ReleaseRq = 5
type_code ReleaseRp = 6
type_code Abort = 7

-- the longest body of each type, in bytes
abbrev pub limit : PduKind → ℕ
limit AssociateRq = max_body_length
limit AssociateAc = max_body_length
limit AssociateRj = max_body_length
limit Data = max_data_length
limit ReleaseRq = max_body_length
limit ReleaseRp = max_body_length
limit Abort = max_body_length

-- a type byte, a reserved byte, and a length in four bytes; then the rest
pub record IsHeader (bytes : List ℕ) (byte len : ℕ) (rest : List ℕ) : Type 0 where
  pub reserved : ℕ
  pub fits : len < 2 ^ 32
  pub parts : bytes ≡ byte ∷ reserved ∷ to_be_bytes w32 len ++ rest

-- a header of a known type, a body within its limit, and the rest
pub record IsWhole (bytes : List ℕ) (kind : PduKind) (body rest : List ℕ) : Type 0 where
  pub header : IsHeader bytes (type_code kind) (length body) (body ++ rest)
  pub within : length body ≤ limit kind

-- why the bytes do not begin with a whole PDU: each test applies only if the tests before it pass
abbrev pub HeaderFails : List ℕ → PduFault → Type 0
HeaderFails bytes Short = (length bytes < 6) ⊎ ((kind : PduKind) × (len : ℕ) × (rest : List ℕ) × IsHeader bytes (type_code kind) len rest × (len ≤ limit kind) × (length rest < len))
HeaderFails bytes UnknownType = (byte : ℕ) × (len : ℕ) × (rest : List ℕ) × IsHeader bytes byte len rest × ((kind : PduKind) → type_code kind ≡ byte → ⊥)
HeaderFails bytes TooLong = (kind : PduKind) × (len : ℕ) × (rest : List ℕ) × IsHeader bytes (type_code kind) len rest × (limit kind < len)
HeaderFails bytes BadLength = ⊥
HeaderFails bytes BadItem = ⊥
HeaderFails bytes Memory = ⊥
