-- A UID is read as itself.
use Rattle.std.proofs.Common.{ℕ, List}
use Rattle.ups_pdu.specs.Identifier.{IsUid, SpellsUid}
use Rattle.ups_pdu.proofs.UidText as text

pub spells_itself : (uid : List ℕ) → IsUid uid → SpellsUid uid uid
spells_itself uid is = text.spells_itself uid is
