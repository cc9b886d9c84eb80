-- A-ASSOCIATE-RQ and A-ASSOCIATE-AC (PS3.8 sections 9.3.2 and 9.3.3).
use Rattle.std.specs.Prelude.{◌≡◌, ◌≢◌, ℕ, ◌<◌, ◌^◌, true, List, ◌∷◌, [], ◌++◌, length, map}
use Rattle.std.specs.List.{list_all}
use Rattle.std.specs.Int.{w16, to_be_bytes}
use Rattle.ups_pdu.specs.declared.associate.AssociateRq.{AssociateRq}
use Rattle.ups_pdu.specs.declared.associate.AssociateAc.{AssociateAc}
use Rattle.ups_pdu.specs.Each.{Each}
use Rattle.ups_pdu.specs.Identifier.{SpellsUid}
use Rattle.ups_pdu.specs.Item.{Item, IsItem, is_one_of, contents, EachSpells}
use Rattle.ups_pdu.specs.Context.{SpellsProposedContext, SpellsAnsweredContext, first_byte, are_context_ids}
use Rattle.ups_pdu.specs.UserItems.{SpellsUserInformation}

-- the protocol version, two reserved bytes, the called and the calling AE title of 16 bytes each, and 32 reserved
-- bytes, followed by the items
pub record IsAssociateHead (body : List ℕ) (version : ℕ) (called calling text : List ℕ) : Type 0 where
  pub first : List ℕ
  pub reserved : List ℕ
  pub first_fits : length first ≡ 2
  pub version_fits : version < 2 ^ 16
  pub called_fits : length called ≡ 16
  pub calling_fits : length calling ≡ 16
  pub reserved_fits : length reserved ≡ 32
  pub parts : body ≡ to_be_bytes w16 version ++ (first ++ (called ++ (calling ++ (reserved ++ text))))

-- Items in any order: one application context (10H); at least one presentation context, all of type `kind`, with
-- different odd ids; one user information (50H) with this content; and no others.
pub record AreAssociateItems {X : Type 0} (kind : ℕ) (Spells : List ℕ → X → Type 0) (text uid : List ℕ) (contexts : List X) (user : List ℕ) : Type 0 where
  pub items : List Item
  pub each : Each IsItem text items
  pub only : list_all (is_one_of (0x10 ∷ kind ∷ 0x50 ∷ [])) items ≡ true
  pub application_context : EachSpells SpellsUid (contents 0x10 items) (uid ∷ [])
  pub each_context : EachSpells Spells (contents kind items) contexts
  pub some : contexts ≢ []
  pub ids : are_context_ids (map first_byte (contents kind items)) ≡ true
  pub user_information : contents 0x50 items ≡ user ∷ []

-- the bytes encode an A-ASSOCIATE-RQ (PS3.8 table 9-11), whose presentation contexts are of type 20H
pub record SpellsAssociateRq {A : Type 0} (body : List ℕ) (rq : AssociateRq A) : Type 0 where
  pub text : List ℕ
  pub user : List ℕ
  pub head : IsAssociateHead body rq.protocol_version rq.called rq.calling text
  pub items : AreAssociateItems 0x20 SpellsProposedContext text rq.application_context rq.contexts user
  pub user_information : SpellsUserInformation user rq.user_information

-- the bytes encode an A-ASSOCIATE-AC (PS3.8 table 9-17), whose presentation contexts are of type 21H
pub record SpellsAssociateAc {A : Type 0} (body : List ℕ) (ac : AssociateAc A) : Type 0 where
  pub text : List ℕ
  pub user : List ℕ
  pub head : IsAssociateHead body ac.protocol_version ac.called ac.calling text
  pub items : AreAssociateItems 0x21 SpellsAnsweredContext text ac.application_context ac.contexts user
  pub user_information : SpellsUserInformation user ac.user_information
