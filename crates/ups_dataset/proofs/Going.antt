-- A loop that goes over what stands one after the other.
use Rattle.std.proofs.Common.{◌≤◌, ◌+◌, ℕ, List, length, arith}
use Rattle.ups_dataset.specs.declared.tag.Tag.{Tag}
use Rattle.ups_dataset.specs.declared.vr.Vr.{Vr}
use Rattle.ups_dataset.specs.Tag.{number, item_delimitation, sequence_delimitation}
use Rattle.ups_dataset.specs.Head.{IsKnown, IsSequenceItem, Ends, Spans}
use Rattle.ups_pdu.specs.declared.syntax.TransferSyntax.{TransferSyntax}
use Rattle.ups_dataset.specs.declared.head.Reach.{Reach}
use Rattle.ups_dataset.specs.declared.fault.SetFault.{SetFault}
use Rattle.ups_dataset.specs.Data.{Data, Items, item, Elements, element}
use Rattle.ups_dataset.specs.Spelling.{SpellsElements, SpellsValue, SpellsItems}
use Rattle.ups_dataset.specs.Failing.{ElementsFail, ItemsFail, behind_value, behind_item}
use Rattle.ups_dataset.proofs.Goods.{known_rises, known_shorter, mark_shorter, data_shorter, elements_shorter, spans_shorter, item_deep}

-- what is spelled from here on is spelled from the start, and so for what fails
pub record ElementsGo (syntax : TransferSyntax) (level : ℕ) (reach : Reach) (text : List ℕ) (from : ℕ) (rest : List ℕ) : Type 0 where
  pub spelled : (es : Elements) (end : List ℕ) → SpellsElements syntax level reach from rest es end → (fs : Elements) × SpellsElements syntax level reach 0 text fs end
  pub fails : (fault : SetFault) → ElementsFail syntax level reach from rest fault → ElementsFail syntax level reach 0 text fault
  pub left : length rest ≤ length text

pub record ItemsGo (syntax : TransferSyntax) (level : ℕ) (reach : Reach) (text rest : List ℕ) : Type 0 where
  pub spelled : (is : Items) (end : List ℕ) → SpellsItems syntax level reach rest is end → (js : Items) × SpellsItems syntax level reach text js end
  pub fails : (fault : SetFault) → ItemsFail syntax level reach rest fault → ItemsFail syntax level reach text fault
  pub left : length rest ≤ length text

pub go_element : (syntax : TransferSyntax) (level : ℕ) (reach : Reach) (text : List ℕ) (from : ℕ) (rest : List ℕ) (tag : Tag) (vr : Vr) (len : ℕ) (after : List ℕ) (kept : Vr) (d : Data) (next : List ℕ)
    → ((end : List ℕ) → Ends item_delimitation reach rest end → ⊥) → IsKnown syntax from rest tag vr len after → SpellsValue syntax level vr len after kept d next
    → ElementsGo syntax level reach text from rest → ElementsGo syntax level reach text (number tag + 1) next
go_element syntax level reach text from rest tag vr len after kept d next more known value go = record {
  spelled = λ es end s. go.spelled (element tag kept d es) end (next, vr, len, after, known.head, known_rises syntax from rest tag vr len after known, value, s);
  fails = λ fault f. go.fails fault (behind_value syntax level reach from rest fault tag vr len after kept d next more known value f);
  left = omega (arith, go.left, known_shorter syntax from rest tag vr len after known, data_shorter syntax level vr len after kept d next value);
}

pub go_item : (syntax : TransferSyntax) (level : ℕ) (reach : Reach) (text rest : List ℕ) (len : ℕ) (after : List ℕ) (within : Reach) (inner left next : List ℕ) (es : Elements)
    → ((end : List ℕ) → Ends sequence_delimitation reach rest end → ⊥) → IsSequenceItem level rest len after → Spans len after within inner left next → SpellsElements syntax (level + 1) within 0 inner es left
    → ItemsGo syntax level reach text rest → ItemsGo syntax level reach text next
go_item syntax level reach text rest len after within inner left next es more is spans spelled go = record {
  spelled = λ js end s. go.spelled (item es js) end (next, len, after, is.head, item_deep level rest len after is, within, inner, left, spans, spelled, s);
  fails = λ fault f. go.fails fault (behind_item syntax level reach rest fault len after within inner left next es more is spans spelled f);
  left = omega (arith, go.left, mark_shorter rest _ len after is.head, spans_shorter len after within inner left next spans (elements_shorter syntax (level + 1) within 0 inner es left spelled));
}
