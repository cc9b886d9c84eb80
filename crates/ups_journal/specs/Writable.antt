-- Which entries can be recorded: their texts and data sets can be read back from what is written.
use Rattle.std.specs.Prelude.{◌≡◌, ◌<◌, ◌^◌, ℕ, List, length, Option, None, Some}
use Rattle.ups_pdu.specs.Title.{SpellsAe}
use Rattle.ups_pdu.specs.Identifier.{IsUid}
use Rattle.ups_pdu.specs.declared.syntax.TransferSyntax.TheVariants.{Explicit}
use Rattle.ups_dataset.specs.Data.{El}
use Rattle.ups_dataset.specs.Written.{written}
use Rattle.ups_dataset.specs.Spelling.{SpellsSet}
use Rattle.ups_match.specs.Matching.{KeySet, fault_of}
use Rattle.ups_life.specs.declared.request.Request.{Request}
use Rattle.ups_life.specs.declared.request.Request.TheVariants.{Create, Change, AskCancel, Set, Subscribe, Unsubscribe, Suspend, Ack, Sweep, Reserve}
use Rattle.ups_life.specs.declared.request.Transaction.{Transaction}
use Rattle.ups_life.specs.declared.request.Transaction.TheVariants.{Proper}
use Rattle.ups_life.specs.declared.watching.Target.{Target}
use Rattle.ups_life.specs.declared.watching.Target.TheVariants.{Single, Global, Filtered}
use Rattle.ups_life.specs.declared.watching.Place.{Place}
use Rattle.ups_life.specs.declared.watching.Place.TheVariants.{At, Everywhere}
use Rattle.ups_life.specs.declared.entry.Entry.{Entry}
use Rattle.ups_life.specs.Instances.{IsStepUid, IsFilter}

-- a title of an application entity, without spaces at its ends
abbrev pub IsTitle : List ℕ → Type 0
IsTitle title = SpellsAe title title

-- the bytes of the set have a length that fits in 32 bits, and encode the set
pub record IsStored (set : List El) : Type 0 where
  pub short : length (written Explicit set) < 2 ^ 32
  pub again : SpellsSet Explicit (written Explicit set) set

abbrev pub IsStep : Option (List ℕ) → Type 0
IsStep None = Unit {0}
IsStep (Some step) = IsStepUid step

abbrev pub IsTransaction : Transaction → Type 0
IsTransaction (Proper uid) = IsUid uid
IsTransaction transaction = Unit {0}

-- keys that can be read, are not all universal, and can be stored
pub record AreKeys (keys : KeySet) : Type 0 where
  pub readable : fault_of keys.offset keys.attributes ≡ None
  pub filter : IsFilter keys
  pub stored : IsStored keys.attributes

abbrev pub IsWritableTarget : {A : Type 0} → Target A → Type 0
IsWritableTarget (Single step) = IsStep step
IsWritableTarget Global = Unit {0}
IsWritableTarget (Filtered keys) = AreKeys keys

abbrev pub IsPlace : Place → Type 0
IsPlace (At step) = IsStep step
IsPlace Everywhere = Unit {0}

abbrev pub IsRecordable : {A : Type 0} → Request A → Type 0
IsRecordable (Create step attributes) = IsStepUid step × IsStored attributes
IsRecordable (Change step state transaction) = IsStep step × IsTransaction transaction
IsRecordable (AskCancel step reasons) = IsStep step × IsStored reasons
IsRecordable (Set step transaction attributes) = IsStep step × IsTransaction transaction × IsStored attributes
IsRecordable (Subscribe target receiver lock) = IsWritableTarget target × IsTitle receiver
IsRecordable (Unsubscribe place receiver) = IsPlace place × IsTitle receiver
IsRecordable (Suspend receiver) = IsTitle receiver
IsRecordable (Ack upto) = Unit {0}
IsRecordable Sweep = Unit {0}
IsRecordable (Reserve step) = IsStepUid step

pub record IsWritableEntry {A : Type 0} (e : Entry A) : Type 0 where
  pub title : IsTitle e.ae
  pub request : IsRecordable e.request
