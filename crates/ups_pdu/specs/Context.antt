-- Presentation contexts (PS3.8 sections 9.3.2.2 and 9.3.3.2).
use Rattle.std.specs.Prelude.{◌≡◌, ◌≢◌, ℕ, Bool, true, ◌&&◌, not, List, ◌∷◌, [], Option, ◌==◌, ◌%◌}
use Rattle.std.specs.Option.{option_to_list}
use Rattle.std.specs.List.{list_all, list_any}
use Rattle.ups_pdu.specs.declared.associate.ProposedContext.{ProposedContext}
use Rattle.ups_pdu.specs.declared.associate.AnsweredContext.{AnsweredContext}
use Rattle.ups_pdu.specs.declared.associate.ContextAnswer.{ContextAnswer}
use Rattle.ups_pdu.specs.declared.associate.ContextAnswer.TheVariants.{Accepted, Refused}
use Rattle.ups_pdu.specs.declared.context.ProposedHead.{ProposedHead}
use Rattle.ups_pdu.specs.Each.{Each}
use Rattle.ups_pdu.specs.Identifier.{SpellsUid}
use Rattle.ups_pdu.specs.Item.{Item, IsItem, is_one_of, contents, EachSpells}

-- A context id, a reserved byte, a byte that is the result in an answer and reserved in a proposal, and a reserved
-- byte, followed by the sub-items.
pub record IsContextHead (content : List ℕ) (id outcome : ℕ) (text : List ℕ) : Type 0 where
  pub second : ℕ
  pub fourth : ℕ
  pub parts : content ≡ id ∷ second ∷ outcome ∷ fourth ∷ text

-- one abstract syntax (30H) and one or more transfer syntaxes (40H), in any order
pub record AreSyntaxes (text abstract_uid : List ℕ) (transfer_uids : List (List ℕ)) : Type 0 where
  pub items : List Item
  pub each : Each IsItem text items
  pub only : list_all (is_one_of (0x30 ∷ 0x40 ∷ [])) items ≡ true
  pub abstract_syntax : EachSpells SpellsUid (contents 0x30 items) (abstract_uid ∷ [])
  pub transfer_syntaxes : EachSpells SpellsUid (contents 0x40 items) transfer_uids
  pub some : transfer_uids ≢ []

-- the bytes encode a proposed presentation context
pub record IsProposedContext (content : List ℕ) (id : ℕ) (abstract_uid : List ℕ) (transfer_uids : List (List ℕ)) : Type 0 where
  pub reserved : ℕ
  pub text : List ℕ
  pub head : IsContextHead content id reserved text
  pub syntaxes : AreSyntaxes text abstract_uid transfer_uids

abbrev pub SpellsProposedContext : {A : Type 0} → List ℕ → ProposedContext A → Type 0
SpellsProposedContext content context = IsProposedContext content context.id context.abstract_syntax context.transfer_syntaxes

-- the bytes encode a proposed presentation context with this id and abstract syntax
pub record IsProposedHead (content : List ℕ) (head : ProposedHead) : Type 0 where
  pub transfer_syntaxes : List (List ℕ)
  pub is : IsProposedContext content head.id head.abstract_syntax transfer_syntaxes

-- The answer given by a result and the contents of transfer syntaxes (40H): exactly one if it accepts, and at most
-- one, which is ignored, if it refuses.
abbrev pub IsAnswer : ℕ → List (List ℕ) → ContextAnswer → Type 0
IsAnswer outcome found (Accepted uid) = (outcome ≡ 0) × EachSpells SpellsUid found (uid ∷ [])
IsAnswer outcome found (Refused result) = (outcome ≡ result) × (result ≢ 0) × (unread : Option (List ℕ)) × (found ≡ option_to_list unread)

-- the sub-items of an answer: only transfer syntaxes
pub record AnswersBy (text : List ℕ) (outcome : ℕ) (answer : ContextAnswer) : Type 0 where
  pub items : List Item
  pub each : Each IsItem text items
  pub only : list_all (is_one_of (0x40 ∷ [])) items ≡ true
  pub is : IsAnswer outcome (contents 0x40 items) answer

-- the bytes encode an answered presentation context
pub record SpellsAnsweredContext (content : List ℕ) (context : AnsweredContext) : Type 0 where
  pub outcome : ℕ
  pub text : List ℕ
  pub head : IsContextHead content context.id outcome text
  pub answer : AnswersBy text outcome context.answer

-- the context id of a presentation context item, which is its first byte
abbrev pub first_byte : List ℕ → ℕ
first_byte [] = 0
first_byte (b ∷ bs) = b

abbrev pub is_odd : ℕ → Bool
is_odd n = n % 2 == 1

abbrev pub are_different : List ℕ → Bool
are_different [] = true
are_different (n ∷ ns) = not (list_any (λ m. n == m) ns) && are_different ns

-- all context ids are odd, and no two are the same (PS3.8 section 9.3.2.2)
abbrev pub are_context_ids : List ℕ → Bool
are_context_ids ids = list_all is_odd ids && are_different ids
