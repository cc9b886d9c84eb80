use mathlib.Core.Logic.{∥∥₁_map}
use Rattle.upsd.proofs.storing.StoresStoreOpenerServerLedger.open.Goals as goal

pub returns-clause-had : goal.returns-clause-had
returns-clause-had g c = ∥∥₁_map c.in_ok-keeper.keeper.had (λ h. record { ledger = record { ledger = h.ledger }; told = h.told; many = h.many })

pub returns-clause-begins : goal.returns-clause-begins
returns-clause-begins g c = c.in_ok-keeper.ensures.resumes
