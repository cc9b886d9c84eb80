-- The fault of a reading that fails.
use Rattle.std.specs.Prelude.{ℕ, List}
use Rattle.ups_pdu.specs.declared.syntax.TransferSyntax.{TransferSyntax}
use Rattle.ups_dataset.specs.declared.head.Reach.TheVariants.{Filled}
use Rattle.ups_dataset.specs.declared.fault.SetFault.{SetFault}
use Rattle.ups_dataset.specs.declared.fault.SetFault.TheVariants.{Memory}
use Rattle.ups_dataset.specs.Data.{El}
use Rattle.ups_dataset.specs.Spelling.{SpellsSet}
use Rattle.ups_dataset.specs.Failing.{ElementsFail}

-- the first fault of the bytes; memory runs out only if the bytes encode a set
abbrev pub SetFails : TransferSyntax → List ℕ → SetFault → Type 0
SetFails syntax bytes Memory = (set : List El) × SpellsSet syntax bytes set
SetFails syntax bytes fault = ElementsFail syntax 0 Filled 0 bytes fault
