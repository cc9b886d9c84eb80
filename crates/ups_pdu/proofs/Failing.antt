-- A reader that gives up where a part of it does.
use Rattle.std.proofs.Common.{◌≡◌, ℕ, ◌+◌, List, length, Result, Err, refl}
use Rattle.ups_pdu.specs.declared.fault.PduFault.{PduFault}
use Rattle.ups_pdu.specs.declared.fault.PduFault.TheVariants.{Short, UnknownType, BadLength, BadItem, TooLong, Memory}
use Rattle.ups_pdu.specs.declared.pdv.Pdv.{Pdv}
use Rattle.ups_pdu.specs.declared.pdu.Pdu.{Pdu}
use Rattle.ups_pdu.specs.declared.pdu.Pdu.TheVariants.{AssociateRq, AssociateAc, AssociateRj, Data, ReleaseRq, ReleaseRp, Abort}
use Rattle.ups_pdu.specs.declared.associate.AssociateRq.{AssociateRq as Rq}
use Rattle.ups_pdu.specs.declared.associate.AssociateAc.{AssociateAc as Ac}
use Rattle.ups_pdu.specs.declared.kind.PduKind.{PduKind}
use Rattle.ups_pdu.specs.declared.kind.PduKind.TheVariants as kinds
use Rattle.ups_pdu.specs.Header.{IsWhole}
use Rattle.ups_pdu.specs.Lengths.{LengthsFill}
use Rattle.ups_pdu.specs.Association.{SpellsAssociateRq, SpellsAssociateAc}
use Rattle.ups_pdu.specs.Spelling.{Gives, SpellsData, IsBody, IsFault}

abbrev failed : {X : Type 0} → PduFault → Result X PduFault
failed e = Err e

-- where the whole is spelled so is the part, and the other way round: the whole fails as the part does
pub Gives-from_part : {X Y : Type 0} (P : X → Type 0) (Q : Y → Type 0) (e : PduFault) → ((y : Y) → Q y → (x : X) × P x) → ((x : X) → P x → (y : Y) × Q y) → Gives P (failed e) → Gives Q (failed e)
Gives-from_part P Q BadItem part whole h = λ y q. h (part y q).0 (part y q).1
Gives-from_part P Q Memory part whole h = whole h.0 h.1
Gives-from_part P Q Short part whole h = h
Gives-from_part P Q UnknownType part whole h = h
Gives-from_part P Q BadLength part whole h = h
Gives-from_part P Q TooLong part whole h = h

pub rq_in : {A : Type 0} (kind : PduKind) (body : List ℕ) → kind ≡ kinds.AssociateRq → (pdu : Pdu A) → IsBody kind body pdu → (rq : Rq A) × SpellsAssociateRq body rq
rq_in kind body e (AssociateRq rq) s = (rq, s.1)
rq_in kind body e (AssociateAc ac) s = let f = s.0 in absurd cc
rq_in kind body e (AssociateRj a b c) s = let f = s.0 in absurd cc
rq_in kind body e (Data pdvs) s = let f = s.0 in absurd cc
rq_in kind body e ReleaseRq s = let f = s.0 in absurd cc
rq_in kind body e ReleaseRp s = let f = s.0 in absurd cc
rq_in kind body e (Abort a b) s = let f = s.0 in absurd cc

pub ac_in : {A : Type 0} (kind : PduKind) (body : List ℕ) → kind ≡ kinds.AssociateAc → (pdu : Pdu A) → IsBody kind body pdu → (ac : Ac A) × SpellsAssociateAc body ac
ac_in kind body e (AssociateRq rq) s = let f = s.0 in absurd cc
ac_in kind body e (AssociateAc ac) s = (ac, s.1)
ac_in kind body e (AssociateRj a b c) s = let f = s.0 in absurd cc
ac_in kind body e (Data pdvs) s = let f = s.0 in absurd cc
ac_in kind body e ReleaseRq s = let f = s.0 in absurd cc
ac_in kind body e ReleaseRp s = let f = s.0 in absurd cc
ac_in kind body e (Abort a b) s = let f = s.0 in absurd cc

pub data_in : {A : Type 0} (kind : PduKind) (body : List ℕ) → kind ≡ kinds.Data → (pdu : Pdu A) → IsBody kind body pdu → (pdvs : List (Pdv A)) × SpellsData body pdvs
data_in kind body e (AssociateRq rq) s = let f = s.0 in absurd cc
data_in kind body e (AssociateAc ac) s = let f = s.0 in absurd cc
data_in kind body e (AssociateRj a b c) s = let f = s.0 in absurd cc
data_in kind body e (Data pdvs) s = (pdvs, s.1)
data_in kind body e ReleaseRq s = let f = s.0 in absurd cc
data_in kind body e ReleaseRp s = let f = s.0 in absurd cc
data_in kind body e (Abort a b) s = let f = s.0 in absurd cc

-- the fault of a body is that of its PDU
pub fault_from_body : (A : Type 0) (bytes : List ℕ) (kind : PduKind) (body rest : List ℕ) → IsWhole bytes kind body rest → LengthsFill kind body → (e : PduFault) → Gives (IsBody {A = A} kind body) (failed e) → IsFault A bytes e
fault_from_body A bytes kind body rest whole filled BadItem h = (kind, body, rest, whole, filled, h)
fault_from_body A bytes kind body rest whole filled Memory h = (h.0, 6 + length body, record { kind = kind; body = body; rest = rest; whole = whole; spelled = h.1; taken = refl })
fault_from_body A bytes kind body rest whole filled Short h = absurd h
fault_from_body A bytes kind body rest whole filled UnknownType h = absurd h
fault_from_body A bytes kind body rest whole filled BadLength h = absurd h
fault_from_body A bytes kind body rest whole filled TooLong h = absurd h
