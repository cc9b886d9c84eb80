-- What the beginning of a PDU tells (PS3.8 section 9.3).
use Rattle.std.specs.Prelude.{◌≡◌, ◌≤◌, ℕ, List, ◌∷◌, length, take, drop}
use Rattle.ups_pdu.specs.declared.kind.PduKind.TheVariants.{AssociateRq}
use Rattle.ups_pdu.specs.Header.{type_code}
use Rattle.ups_pdu.specs.Title.{SpellsAe}

-- the calling AE title: bytes 27 to 42 of an A-ASSOCIATE-RQ (PS3.8 table 9-11)
pub record IsCallingTitle (beginning title : List ℕ) : Type 0 where
  pub after : List ℕ
  pub is_request : beginning ≡ type_code AssociateRq ∷ after
  pub is_there : 42 ≤ length beginning
  pub is_spelled : SpellsAe (take 16 (drop 26 beginning)) title
