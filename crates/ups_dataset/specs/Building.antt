-- What reading builds from bytes.
use Rattle.std.specs.Prelude.{◌≡◌, ◌++◌, ◌∷◌, [], ℕ, List, Result, Ok, Err, if◌then◌else◌}
use Rattle.ups_dataset.specs.declared.tag.Tag.{Tag}
use Rattle.ups_dataset.specs.declared.vr.Vr.{Vr}
use Rattle.ups_pdu.specs.declared.syntax.TransferSyntax.{TransferSyntax}
use Rattle.ups_dataset.specs.declared.head.Reach.{Reach}
use Rattle.ups_dataset.specs.declared.fault.SetFault.{SetFault}
use Rattle.ups_dataset.specs.declared.fault.SetFault.TheVariants.{Memory}
use Rattle.ups_dataset.specs.Data.{Data, Items, Elements, El, elements_of, items_of}
use Rattle.ups_dataset.specs.Tag.{is_group_length}
use Rattle.ups_dataset.specs.Spelling.{SpellsElements, SpellsValue, SpellsItems, kept, kept_data, kept_items}

-- the elements, followed by one more unless it is a group length
abbrev pub keeps : Tag → Vr → Data → List El → List El
keeps tag vr value xs = if is_group_length tag then xs else xs ++ record { tag = tag; vr = vr; value = value } ∷ []

-- the bytes encode a value, and this is that value without group lengths
pub record BuildsValue (syntax : TransferSyntax) (level : ℕ) (head_vr : Vr) (len : ℕ) (after : List ℕ) (value : Data) (vr : Vr) (next : List ℕ) : Type 0 where
  pub all : Data
  pub spelled : SpellsValue syntax level head_vr len after vr all next
  pub is : kept_data all ≡ value

pub record BuildsElements (syntax : TransferSyntax) (level : ℕ) (reach : Reach) (from : ℕ) (text : List ℕ) (set : List El) (rest : List ℕ) : Type 0 where
  pub all : Elements
  pub spelled : SpellsElements syntax level reach from text all rest
  pub is : kept all ≡ elements_of set

pub record BuildsItems (syntax : TransferSyntax) (level : ℕ) (reach : Reach) (text : List ℕ) (sets : List (List El)) (rest : List ℕ) : Type 0 where
  pub all : Items
  pub spelled : SpellsItems syntax level reach text all rest
  pub is : kept_items all ≡ items_of sets

-- what was built, or a fault that the bytes have; lack of memory is always possible
abbrev pub OrMemory : (SetFault → Type 0) → SetFault → Type 0
OrMemory Fault Memory = Unit {0}
OrMemory Fault fault = Fault fault

abbrev pub BuildsOrFails : {X : Type 0} → Result X SetFault → (X → Type 0) → (SetFault → Type 0) → Type 0
BuildsOrFails (Ok x) Good Fault = Good x
BuildsOrFails (Err e) Good Fault = OrMemory Fault e
