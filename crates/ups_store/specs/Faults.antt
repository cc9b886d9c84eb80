-- Why a call on a store may fail.
use Rattle.std.specs.Prelude.{⊤}
use Rattle.sqlite_trees.specs.declared.error.StoreError.{StoreError}
use Rattle.sqlite_trees.specs.declared.error.StoreError.TheVariants as kit
use Rattle.ups_store.specs.declared.fault.StoreFault.{StoreFault}
use Rattle.ups_store.specs.declared.fault.StoreFault.TheVariants.{Memory, Disk, Damaged, Full, Shut, TooLarge, TooMany, NotRequest, Short}

abbrev pub store_fault_of : StoreError → StoreFault
store_fault_of kit.OutOfMemory = Memory
store_fault_of kit.Io = Disk
store_fault_of kit.Corrupt = Damaged
store_fault_of kit.Full = Full
store_fault_of kit.Broken = Shut
store_fault_of kit.Unstorable = TooLarge

-- what has to hold if a call answers each fault
pub record Reasons : Type 1 where
  -- the disk failed or refused during the call, or a limit of the file was met
  pub Failed : Type 0
  -- an earlier call failed
  pub WasShut : Type 0
  pub IsTooLarge : Type 0
  pub AreTooMany : Type 0
  pub IsNotRequest : Type 0

abbrev pub HasReason : Reasons → StoreFault → Type 0
HasReason r Memory = ⊤
HasReason r Disk = r.Failed
HasReason r Damaged = r.Failed
HasReason r Full = r.Failed
HasReason r Shut = r.WasShut
HasReason r TooLarge = r.IsTooLarge
HasReason r TooMany = r.AreTooMany
HasReason r NotRequest = r.IsNotRequest
HasReason r Short = ⊥

-- the same for beginning or noting a run, which may find that requests are lost
abbrev pub HasRunReason : Reasons → Type 0 → StoreFault → Type 0
HasRunReason r AreLost Memory = HasReason r Memory
HasRunReason r AreLost Disk = HasReason r Disk
HasRunReason r AreLost Damaged = HasReason r Damaged
HasRunReason r AreLost Full = HasReason r Full
HasRunReason r AreLost Shut = HasReason r Shut
HasRunReason r AreLost TooLarge = HasReason r TooLarge
HasRunReason r AreLost TooMany = HasReason r TooMany
HasRunReason r AreLost NotRequest = HasReason r NotRequest
HasRunReason r AreLost Short = AreLost
