-- The lengths inside a body match what they measure (PS3.8 section 9.3).
use Rattle.std.specs.Prelude.{◌≡◌, ℕ, ◌≤◌, List, length, drop, ◌==◌}
use Rattle.std.specs.Bool.{MatchBool}
use Rattle.ups_pdu.specs.declared.kind.PduKind.{PduKind}
use Rattle.ups_pdu.specs.declared.kind.PduKind.TheVariants.{AssociateRq, AssociateAc, AssociateRj, Data, ReleaseRq, ReleaseRp, Abort}
use Rattle.ups_pdu.specs.Each.{Each}
use Rattle.ups_pdu.specs.Item.{Item, IsItem}
use Rattle.ups_pdu.specs.Fragment.{FragmentsFill}
use Rattle.ups_pdu.specs.UserItems.{IsRole}

-- an item whose content meets the demand of its type
pub record IsFilledItem (Filled : ℕ → List ℕ → Type 0) (bytes : List ℕ) (item : Item) (rest : List ℕ) : Type 0 where
  pub is : IsItem bytes item rest
  pub filled : Filled item.kind item.content

-- items fill the bytes, and the content of each meets the demand of its type
abbrev pub AreFilled : (ℕ → List ℕ → Type 0) → List ℕ → Type 0
AreFilled Filled bytes = (items : List Item) × Each (IsFilledItem Filled) bytes items

-- no demand: items without lengths inside
abbrev pub AnyContent : ℕ → List ℕ → Type 0
AnyContent kind content = Unit {0}

-- in the user information: a role selection (54H) contains the length of its UID
abbrev pub UserItemFills : ℕ → List ℕ → Type 0
UserItemFills kind content = MatchBool (kind == 0x54) ((text : List ℕ) × (scu : ℕ) × (scp : ℕ) × IsRole content text scu scp) (Unit {0})

-- sub-items fill a presentation context after its first four bytes
abbrev pub ContextFills : List ℕ → Type 0
ContextFills content = (4 ≤ length content) × AreFilled AnyContent (drop 4 content)

-- an item of an association PDU whose presentation contexts have this type
abbrev pub AssociationItemFills : ℕ → ℕ → List ℕ → Type 0
AssociationItemFills context_kind kind content = MatchBool (kind == context_kind) (ContextFills content) (MatchBool (kind == 0x50) (AreFilled UserItemFills content) (Unit {0}))

-- the lengths inside the body of a PDU fill it exactly
abbrev pub LengthsFill : PduKind → List ℕ → Type 0
LengthsFill AssociateRq body = (68 ≤ length body) × AreFilled (AssociationItemFills 0x20) (drop 68 body)
LengthsFill AssociateAc body = (68 ≤ length body) × AreFilled (AssociationItemFills 0x21) (drop 68 body)
LengthsFill AssociateRj body = length body ≡ 4
LengthsFill Data body = FragmentsFill body
LengthsFill ReleaseRq body = length body ≡ 4
LengthsFill ReleaseRp body = length body ≡ 4
LengthsFill Abort body = length body ≡ 4
