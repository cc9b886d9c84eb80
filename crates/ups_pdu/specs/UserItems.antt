-- The user information (PS3.8 section 9.3.2.3 and annex D, PS3.7 annex D.3.3).
use Rattle.std.specs.Prelude.{◌≡◌, ℕ, ◌<◌, ◌^◌, List, ◌∷◌, [], ◌++◌, length, Option, unwrap_or}
use Rattle.std.specs.Option.{option_to_list}
use Rattle.std.specs.Int.{w16, w32, to_be_bytes}
use Rattle.ups_pdu.specs.declared.associate.AsynchronousWindow.{AsynchronousWindow}
use Rattle.ups_pdu.specs.declared.associate.Role.{Role}
use Rattle.ups_pdu.specs.declared.associate.UserInformation.{UserInformation}
use Rattle.ups_pdu.specs.Each.{Each}
use Rattle.ups_pdu.specs.Identifier.{SpellsUid}
use Rattle.ups_pdu.specs.Item.{Item, IsItem, contents, EachSpells}

-- the four bytes encode the maximum length (PS3.8 annex D.1)
pub record SpellsMaximumLength (content : List ℕ) (maximum : ℕ) : Type 0 where
  pub fits : maximum < 2 ^ 32
  pub parts : content ≡ to_be_bytes w32 maximum

-- the operations invoked and performed, in two bytes each (PS3.7 annex D.3.3.3)
pub record SpellsWindow (content : List ℕ) (window : AsynchronousWindow) : Type 0 where
  pub invoked : window.invoked < 2 ^ 16
  pub performed : window.performed < 2 ^ 16
  pub parts : content ≡ to_be_bytes w16 window.invoked ++ to_be_bytes w16 window.performed

-- the length of a UID in two bytes, the UID, and a byte for each role
pub record IsRole (content text : List ℕ) (scu scp : ℕ) : Type 0 where
  pub fits : length text < 2 ^ 16
  pub parts : content ≡ to_be_bytes w16 (length text) ++ (text ++ scu ∷ scp ∷ [])

-- the bytes encode a role selection for a SOP class (PS3.7 annex D.3.3.4)
pub record SpellsRole (content : List ℕ) (role : Role) : Type 0 where
  pub text : List ℕ
  pub is : IsRole content text role.scu role.scp
  pub sop_class : SpellsUid text role.sop_class

-- Sub-items in any order: a maximum length (51H), an implementation class (52H), a window (53H) and an implementation
-- version (55H), at most one each, and role selections (54H); others are ignored. Without a maximum length the
-- maximum is 0.
pub record IsUserInformation (content : List ℕ) (maximum : ℕ) (class : Option (List ℕ)) (window : Option AsynchronousWindow) (roles : List Role) (version : Option (List ℕ)) : Type 0 where
  pub items : List Item
  pub each : Each IsItem content items
  pub stated : Option ℕ
  pub maximum_length : EachSpells SpellsMaximumLength (contents 0x51 items) (option_to_list stated)
  pub or_none : maximum ≡ unwrap_or stated 0
  pub implementation_class : EachSpells SpellsUid (contents 0x52 items) (option_to_list class)
  pub asynchronous_window : EachSpells SpellsWindow (contents 0x53 items) (option_to_list window)
  pub each_role : EachSpells SpellsRole (contents 0x54 items) roles
  pub implementation_version : contents 0x55 items ≡ option_to_list version

abbrev pub SpellsUserInformation : {A : Type 0} → List ℕ → UserInformation A → Type 0
SpellsUserInformation content info = IsUserInformation content info.maximum_length info.implementation_class info.asynchronous_window info.roles info.implementation_version
