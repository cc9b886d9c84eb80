-- The bytes that encode each data set (PS3.5 sections 7.1 and 7.5).
use Rattle.std.specs.Prelude.{◌≡◌, ◌<◌, ◌≤◌, ◌+◌, ◌%◌, ℕ, true, false, List, [], ◌++◌, length, if◌then◌else◌}
use Rattle.ups_dataset.specs.Limits.{max_depth, undefined_length}
use Rattle.ups_dataset.specs.declared.vr.Vr.{Vr}
use Rattle.ups_dataset.specs.declared.vr.Vr.TheVariants.{Sq, Un}
use Rattle.ups_pdu.specs.declared.syntax.TransferSyntax.{TransferSyntax}
use Rattle.ups_pdu.specs.declared.syntax.TransferSyntax.TheVariants.{Implicit}
use Rattle.ups_dataset.specs.declared.head.Head.TheVariants.{Known}
use Rattle.ups_dataset.specs.declared.head.Reach.{Reach}
use Rattle.ups_dataset.specs.declared.head.Reach.TheVariants.{Filled}
use Rattle.ups_dataset.specs.Tag.{number, is_group_length, item_tag, item_delimitation, sequence_delimitation}
use Rattle.ups_dataset.specs.Data.{Data, bytes, items, Items, no_items, item, Elements, no_elements, element, El, elements_of}
use Rattle.ups_dataset.specs.Head.{IsMark, IsHead, Ends, Spans, is_sequence}

-- the transfer syntax inside: the items of an unknown value of undefined length are Implicit (PS3.5 section 6.2.2)
abbrev pub inside : TransferSyntax → Vr → TransferSyntax
inside syntax Un = Implicit
inside syntax vr = syntax

abbrev mutual
  -- Inside `level` items, the text encodes these elements, with tags from `from` on, up to their end; then the rest.
  -- Group lengths (PS3.5 section 7.2) are elements here.
  pub SpellsElements : TransferSyntax → ℕ → Reach → ℕ → List ℕ → Elements → List ℕ → Type 0
  SpellsElements syntax level reach from text no_elements rest = Ends item_delimitation reach text rest
  SpellsElements syntax level reach from text (element tag vr d more) rest =
      (next : List ℕ) × (head_vr : Vr) × (len : ℕ) × (after : List ℕ) × IsHead syntax text (Known tag head_vr len) after × (from ≤ number tag)
      × SpellsValue syntax level head_vr len after vr d next × SpellsElements syntax level reach (number tag + 1) next more rest

  -- After a header of this representation and length: an even number of bytes, or the items of a sequence.
  pub SpellsValue : TransferSyntax → ℕ → Vr → ℕ → List ℕ → Vr → Data → List ℕ → Type 0
  SpellsValue syntax level head_vr len after vr (bytes b) next =
      (is_sequence head_vr len ≡ false) × (vr ≡ head_vr) × (len < undefined_length) × ((len % 2) ≡ 0) × (length b ≡ len) × (after ≡ b ++ next)
  SpellsValue syntax level head_vr len after vr (items is) next =
      (is_sequence head_vr len ≡ true) × (vr ≡ Sq)
      × (reach : Reach) × (inner : List ℕ) × (left : List ℕ) × Spans len after reach inner left next × SpellsItems (inside syntax head_vr) level reach inner is left

  -- the items of a sequence (PS3.5 section 7.5)
  pub SpellsItems : TransferSyntax → ℕ → Reach → List ℕ → Items → List ℕ → Type 0
  SpellsItems syntax level reach text no_items rest = Ends sequence_delimitation reach text rest
  SpellsItems syntax level reach text (item es more) rest =
      (next : List ℕ) × (len : ℕ) × (after : List ℕ) × IsMark text item_tag len after × (level < max_depth)
      × (within : Reach) × (inner : List ℕ) × (left : List ℕ) × Spans len after within inner left next
      × SpellsElements syntax (level + 1) within 0 inner es left × SpellsItems syntax level reach next more rest

-- the elements, values or items without group lengths, at any depth
abbrev mutual
  pub kept : Elements → Elements
  kept no_elements = no_elements
  kept (element tag vr d more) = if is_group_length tag then kept more else element tag vr (kept_data d) (kept more)

  pub kept_data : Data → Data
  kept_data (bytes b) = bytes b
  kept_data (items is) = items (kept_items is)

  pub kept_items : Items → Items
  kept_items no_items = no_items
  kept_items (item es more) = item (kept es) (kept_items more)

-- all of the bytes encode the set
abbrev pub SpellsSet : TransferSyntax → List ℕ → List El → Type 0
SpellsSet syntax text set = (all : Elements) × SpellsElements syntax 0 Filled 0 text all [] × (kept all ≡ elements_of set)
