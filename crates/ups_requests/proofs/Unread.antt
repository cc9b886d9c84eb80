-- A message whose data set can't be read.
use Rattle.std.proofs.Common.{◌≡◌, ℕ, ℤ, List, refl, inr}
use Rattle.ups_dataset.specs.declared.fault.SetFault.{SetFault}
use Rattle.ups_dataset.specs.declared.fault.SetFault.TheVariants.{Memory, Short, OddLength, TagOrder, BadVr, Depth, BadItem}
use Rattle.ups_pdu.specs.declared.syntax.TransferSyntax.TheVariants.{Explicit}
use Rattle.ups_dataset.specs.Data.{El}
use Rattle.ups_dataset.specs.Spelling.{SpellsSet}
use Rattle.ups_dataset.specs.Reading.{SetFails}
use Rattle.ups_dimse.specs.declared.command.Operation.{Operation}
use Rattle.ups_requests.specs.Asking.{IsUnasked, without_set}

pub unasked_is : {A : Type 0} (offset : ℤ) (operation : Operation A) (bytes : List ℕ) (fault : SetFault) → SetFails Explicit bytes fault
    → ((set : List El) → SpellsSet Explicit bytes set → fault ≡ Memory) → IsUnasked offset operation bytes (without_set operation fault)
unasked_is offset operation bytes Memory fails only = fails
unasked_is offset operation bytes Short fails only = inr (λ set spells. let e = only set spells in cc, refl)
unasked_is offset operation bytes OddLength fails only = inr (λ set spells. let e = only set spells in cc, refl)
unasked_is offset operation bytes TagOrder fails only = inr (λ set spells. let e = only set spells in cc, refl)
unasked_is offset operation bytes BadVr fails only = inr (λ set spells. let e = only set spells in cc, refl)
unasked_is offset operation bytes Depth fails only = inr (λ set spells. let e = only set spells in cc, refl)
unasked_is offset operation bytes BadItem fails only = inr (λ set spells. let e = only set spells in cc, refl)
