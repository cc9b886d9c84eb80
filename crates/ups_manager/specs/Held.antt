-- The held steps: who holds one (`holder_of`, PS3.4 CC.1.1), and how large its row may be.
use Rattle.std.specs.Prelude.{◌≤◌, ◌+◌, ℕ, length}
use Rattle.ups_pdu.specs.declared.syntax.TransferSyntax.TheVariants.{Explicit}
use Rattle.ups_dataset.specs.Written.{written}
use Rattle.ups_cycle.specs.declared.state.StepState.{StepState}
use Rattle.ups_cycle.specs.declared.state.StepState.TheVariants.{Scheduled, InProgress, Completed, Canceled}
use Rattle.ups_life.specs.declared.row.Row.{Row}
use Rattle.ups_life.specs.Limits.{row_limit}
use Rattle.ups_tables.specs.declared.rows.HeldStep.{HeldStep}
pub use Rattle.ups_tables.specs.HeldSteps.{holder_of}

-- The bytes by which a row may exceed the limit: a change of state adds 20 bytes at most, and is not refused for them.
abbrev pub slack : StepState → ℕ
slack Scheduled = 0
slack InProgress = 20
slack Completed = 40
slack Canceled = 40

-- the row exceeds the limit by the slack at most
abbrev pub HasSmallRow : {A : Type 0} → Row A → Type 0
HasSmallRow row = length (written Explicit row.attributes) ≤ row_limit + slack row.state

abbrev pub IsSmallStep : {A : Type 0} → HeldStep A → Type 0
IsSmallStep h = HasSmallRow h.row
