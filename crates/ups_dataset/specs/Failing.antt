-- The first fault of bytes that encode no set.
use Rattle.std.specs.Prelude.{◌≡◌, ◌+◌, ℕ, true, List}
use Rattle.ups_dataset.specs.declared.tag.Tag.{Tag}
use Rattle.ups_dataset.specs.declared.vr.Vr.{Vr}
use Rattle.ups_pdu.specs.declared.syntax.TransferSyntax.{TransferSyntax}
use Rattle.ups_dataset.specs.declared.head.Reach.{Reach}
use Rattle.ups_dataset.specs.declared.fault.SetFault.{SetFault}
use Rattle.ups_dataset.specs.Tag.{number, item_delimitation, sequence_delimitation}
use Rattle.ups_dataset.specs.Data.{Data, Elements}
use Rattle.ups_dataset.specs.Head.{IsKnown, HeadFails, IsSequenceItem, ItemHeadFails, Ends, Opens, Spans, is_sequence}
use Rattle.ups_dataset.specs.Spelling.{inside, SpellsValue, SpellsElements}

-- Elements or items do not end at the front. Either the element or item that begins there fails, or the inside of it
-- fails, or it is good and what follows it fails.
mutual
  pub data ElementsFail : TransferSyntax → ℕ → Reach → ℕ → List ℕ → SetFault → Type 0 where
    at_head : (syntax : TransferSyntax) (level : ℕ) (reach : Reach) (from : ℕ) (text : List ℕ) (fault : SetFault)
        → ((rest : List ℕ) → Ends item_delimitation reach text rest → ⊥) → HeadFails syntax from text fault → ElementsFail syntax level reach from text fault
    in_value : (syntax : TransferSyntax) (level : ℕ) (reach : Reach) (from : ℕ) (text : List ℕ) (fault : SetFault) (tag : Tag) (vr : Vr) (len : ℕ) (after : List ℕ)
        → ((rest : List ℕ) → Ends item_delimitation reach text rest → ⊥) → IsKnown syntax from text tag vr len after → ValueFails syntax level vr len after fault → ElementsFail syntax level reach from text fault
    behind_value : (syntax : TransferSyntax) (level : ℕ) (reach : Reach) (from : ℕ) (text : List ℕ) (fault : SetFault) (tag : Tag) (vr : Vr) (len : ℕ) (after : List ℕ) (kept_vr : Vr) (d : Data) (next : List ℕ)
        → ((rest : List ℕ) → Ends item_delimitation reach text rest → ⊥) → IsKnown syntax from text tag vr len after → SpellsValue syntax level vr len after kept_vr d next → ElementsFail syntax level reach (number tag + 1) next fault
        → ElementsFail syntax level reach from text fault

  pub data ValueFails : TransferSyntax → ℕ → Vr → ℕ → List ℕ → SetFault → Type 0 where
    in_items : (syntax : TransferSyntax) (level : ℕ) (vr : Vr) (len : ℕ) (after : List ℕ) (fault : SetFault) (reach : Reach) (inner : List ℕ)
        → is_sequence vr len ≡ true → Opens len after reach inner → ItemsFail (inside syntax vr) level reach inner fault → ValueFails syntax level vr len after fault

  pub data ItemsFail : TransferSyntax → ℕ → Reach → List ℕ → SetFault → Type 0 where
    at_item : (syntax : TransferSyntax) (level : ℕ) (reach : Reach) (text : List ℕ) (fault : SetFault)
        → ((rest : List ℕ) → Ends sequence_delimitation reach text rest → ⊥) → ItemHeadFails level text fault → ItemsFail syntax level reach text fault
    in_item : (syntax : TransferSyntax) (level : ℕ) (reach : Reach) (text : List ℕ) (fault : SetFault) (len : ℕ) (after : List ℕ) (within : Reach) (inner : List ℕ)
        → ((rest : List ℕ) → Ends sequence_delimitation reach text rest → ⊥) → IsSequenceItem level text len after → Opens len after within inner → ElementsFail syntax (level + 1) within 0 inner fault → ItemsFail syntax level reach text fault
    behind_item : (syntax : TransferSyntax) (level : ℕ) (reach : Reach) (text : List ℕ) (fault : SetFault) (len : ℕ) (after : List ℕ) (within : Reach) (inner left next : List ℕ) (es : Elements)
        → ((rest : List ℕ) → Ends sequence_delimitation reach text rest → ⊥) → IsSequenceItem level text len after → Spans len after within inner left next → SpellsElements syntax (level + 1) within 0 inner es left → ItemsFail syntax level reach next fault
        → ItemsFail syntax level reach text fault
