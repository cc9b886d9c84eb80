-- The bytes that are written: all lengths are defined, and there are no group lengths (PS3.5 sections 7.1 and 7.5).
use Rattle.std.specs.Prelude.{◌≡◌, ℕ, Bool, true, false, List, [], ◌++◌, length}
use Rattle.std.specs.Int.{w16, w32, to_le_bytes}
use Rattle.ups_dataset.specs.declared.tag.Tag.{Tag}
use Rattle.ups_dataset.specs.declared.vr.Vr.{Vr}
use Rattle.ups_pdu.specs.declared.syntax.TransferSyntax.{TransferSyntax}
use Rattle.ups_pdu.specs.declared.syntax.TransferSyntax.TheVariants.{Implicit, Explicit}
use Rattle.ups_dataset.specs.Tag.{tag_bytes, item_tag}
use Rattle.ups_dataset.specs.Vr.{letters, is_long}
use Rattle.ups_dataset.specs.Data.{Data, bytes, items, Items, no_items, item, Elements, no_elements, element, El, elements_of}
use Rattle.ups_dataset.specs.Head.{implicit_vr}

-- the length after the VR: two reserved bytes and four, or two (PS3.5 section 7.1.2)
abbrev pub written_length : Bool → ℕ → List ℕ
written_length true len = to_le_bytes w16 0 ++ to_le_bytes w32 len
written_length false len = to_le_bytes w16 len

-- a header: without a VR in Implicit, with it in Explicit (PS3.5 annexes A.1 and A.2)
abbrev pub written_head : TransferSyntax → Tag → Vr → ℕ → List ℕ
written_head Implicit tag vr len = tag_bytes tag ++ to_le_bytes w32 len
written_head Explicit tag vr len = tag_bytes tag ++ (letters vr ++ written_length (is_long vr) len)

abbrev mutual
  pub written_elements : TransferSyntax → Elements → List ℕ
  written_elements syntax no_elements = []
  written_elements syntax (element tag vr d more) = (written_head syntax tag vr (length (written_data syntax d)) ++ written_data syntax d) ++ written_elements syntax more

  pub written_data : TransferSyntax → Data → List ℕ
  written_data syntax (bytes b) = b
  written_data syntax (items is) = written_items syntax is

  pub written_items : TransferSyntax → Items → List ℕ
  written_items syntax no_items = []
  written_items syntax (item es more) = ((tag_bytes item_tag ++ to_le_bytes w32 (length (written_elements syntax es))) ++ written_elements syntax es) ++ written_items syntax more

-- the bytes of a data set
abbrev pub written : TransferSyntax → List El → List ℕ
written syntax set = written_elements syntax (elements_of set)

-- the bytes of one element, and of one item
abbrev pub written_element : TransferSyntax → El → List ℕ
written_element syntax e = written_head syntax e.tag e.vr (length (written_data syntax e.value)) ++ written_data syntax e.value

abbrev pub sequence_item : TransferSyntax → List El → List ℕ
sequence_item syntax s = (tag_bytes item_tag ++ to_le_bytes w32 (length (written syntax s))) ++ written syntax s

-- each element, at any depth, has the value representation that reading it without a VR gives
abbrev mutual
  pub AreImplicit : Elements → Type 0
  AreImplicit no_elements = Unit {0}
  AreImplicit (element tag vr d more) = (vr ≡ implicit_vr tag (length (written_data Implicit d))) × IsImplicitData d × AreImplicit more

  pub IsImplicitData : Data → Type 0
  IsImplicitData (bytes b) = Unit {0}
  IsImplicitData (items is) = AreImplicitItems is

  pub AreImplicitItems : Items → Type 0
  AreImplicitItems no_items = Unit {0}
  AreImplicitItems (item es more) = AreImplicit es × AreImplicitItems more

abbrev pub IsImplicit : List El → Type 0
IsImplicit set = AreImplicit (elements_of set)

-- the value representations are in the bytes, or reading gives them
abbrev pub KeepsVrs : TransferSyntax → List El → Type 0
KeepsVrs Explicit set = Unit {0}
KeepsVrs Implicit set = IsImplicit set
