-- The bytes that encode each PDU (PS3.8 section 9.3).
use Rattle.std.specs.Prelude.{◌≡◌, ◌≢◌, ℕ, ◌+◌, List, [], ◌∷◌, length, Result, Ok, Err}
use Rattle.ups_pdu.specs.declared.fault.PduFault.{PduFault}
use Rattle.ups_pdu.specs.declared.fault.PduFault.TheVariants.{Short, UnknownType, BadLength, BadItem, TooLong, Memory}
use Rattle.ups_pdu.specs.declared.pdv.Pdv.{Pdv}
use Rattle.ups_pdu.specs.declared.pdu.Pdu.{Pdu}
use Rattle.ups_pdu.specs.declared.pdu.Pdu.TheVariants.{AssociateRq, AssociateAc, AssociateRj, Data, ReleaseRq, ReleaseRp, Abort}
use Rattle.ups_pdu.specs.declared.kind.PduKind.{PduKind}
use Rattle.ups_pdu.specs.declared.kind.PduKind.TheVariants as kinds
use Rattle.ups_pdu.specs.Each.{Each}
use Rattle.ups_pdu.specs.Header.{IsWhole, HeaderFails}
use Rattle.ups_pdu.specs.Lengths.{LengthsFill}
use Rattle.ups_pdu.specs.Fragment.{SpellsPdv}
use Rattle.ups_pdu.specs.Association.{SpellsAssociateRq, SpellsAssociateAc}

-- PDVs fill the body of a P-DATA-TF: at least one
pub record SpellsData {A : Type 0} (body : List ℕ) (pdvs : List (Pdv A)) : Type 0 where
  pub some : pdvs ≢ []
  pub each : Each SpellsPdv body pdvs

-- the body of a PDU of this type encodes the PDU
abbrev pub IsBody : {A : Type 0} → PduKind → List ℕ → Pdu A → Type 0
IsBody kind body (AssociateRq rq) = (kind ≡ kinds.AssociateRq) × SpellsAssociateRq body rq
IsBody kind body (AssociateAc ac) = (kind ≡ kinds.AssociateAc) × SpellsAssociateAc body ac
IsBody kind body (AssociateRj result source reason) = (kind ≡ kinds.AssociateRj) × (reserved : ℕ) × (body ≡ reserved ∷ result ∷ source ∷ reason ∷ [])
IsBody kind body (Data pdvs) = (kind ≡ kinds.Data) × SpellsData body pdvs
IsBody kind body ReleaseRq = (kind ≡ kinds.ReleaseRq) × (length body ≡ 4)
IsBody kind body ReleaseRp = (kind ≡ kinds.ReleaseRp) × (length body ≡ 4)
IsBody kind body (Abort source reason) = (kind ≡ kinds.Abort) × (first : ℕ) × (second : ℕ) × (body ≡ first ∷ second ∷ source ∷ reason ∷ [])

-- the bytes are exactly one PDU, within the limit of its type
pub record SpellsPdu {A : Type 0} (bytes : List ℕ) (pdu : Pdu A) : Type 0 where
  pub kind : PduKind
  pub body : List ℕ
  pub whole : IsWhole bytes kind body []
  pub spelled : IsBody kind body pdu

-- the bytes begin with a PDU, which takes `len` of them
pub record IsFront {A : Type 0} (bytes : List ℕ) (pdu : Pdu A) (len : ℕ) : Type 0 where
  pub kind : PduKind
  pub body : List ℕ
  pub rest : List ℕ
  pub whole : IsWhole bytes kind body rest
  pub spelled : IsBody kind body pdu
  pub taken : len ≡ 6 + length body

-- The first fault: each test applies only if the tests before it pass. Memory runs out only if the bytes begin with a
-- PDU.
abbrev pub IsFault : Type 0 → List ℕ → PduFault → Type 0
IsFault A bytes Short = HeaderFails bytes Short
IsFault A bytes UnknownType = HeaderFails bytes UnknownType
IsFault A bytes TooLong = HeaderFails bytes TooLong
IsFault A bytes BadLength = (kind : PduKind) × (body : List ℕ) × (rest : List ℕ) × IsWhole bytes kind body rest × (LengthsFill kind body → ⊥)
IsFault A bytes BadItem = (kind : PduKind) × (body : List ℕ) × (rest : List ℕ) × IsWhole bytes kind body rest × LengthsFill kind body × ((pdu : Pdu A) → IsBody kind body pdu → ⊥)
IsFault A bytes Memory = (pdu : Pdu A) × (len : ℕ) × IsFront bytes pdu len

-- the result of a reader of a part: what the bytes encode; BadItem if they encode nothing; lack of memory only if
-- they encode something
abbrev pub Gives : {X : Type 0} → (X → Type 0) → Result X PduFault → Type 0
Gives Spelled (Ok x) = Spelled x
Gives {X} Spelled (Err BadItem) = (x : X) → Spelled x → ⊥
Gives {X} Spelled (Err Memory) = (x : X) × Spelled x
Gives Spelled (Err Short) = ⊥
Gives Spelled (Err UnknownType) = ⊥
Gives Spelled (Err BadLength) = ⊥
Gives Spelled (Err TooLong) = ⊥
