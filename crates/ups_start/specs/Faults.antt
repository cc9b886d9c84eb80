-- The ledger's fault for a fault of its store.
use Rattle.ups_store.specs.declared.fault.StoreFault.{StoreFault}
use Rattle.ups_store.specs.declared.fault.StoreFault.TheVariants as store
use Rattle.ups_ledger.specs.declared.fault.LedgerFault.{LedgerFault}
use Rattle.ups_ledger.specs.declared.fault.LedgerFault.TheVariants.{Full, Write, Shut}

abbrev pub ledger_fault_of : StoreFault → LedgerFault
ledger_fault_of store.Memory = Full
ledger_fault_of store.Full = Full
ledger_fault_of store.TooLarge = Full
ledger_fault_of store.TooMany = Full
ledger_fault_of store.Disk = Write
ledger_fault_of store.Damaged = Write
ledger_fault_of store.NotRequest = Write
ledger_fault_of store.Short = Write
ledger_fault_of store.Shut = Shut
