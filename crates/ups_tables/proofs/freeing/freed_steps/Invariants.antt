use Rattle.std.proofs.Common.{take}
use Rattle.ups_tables.specs.Fit.{freed_if}
use Rattle.ups_tables.proofs.Frees.{Found}
use Rattle.ups_tables.proofs.freeing.freed_steps.Given as goal

abbrev pub invariant-loop-step : goal.invariant-loop-step
invariant-loop-step g l = Found (freed_if l.tables l.peer l.subscription) (take l.step-index l.steps) l.found.items
