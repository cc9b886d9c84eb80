-- The state that a word names.
use Rattle.std.specs.Prelude.{ℕ, List, Option, None, Some, if◌then◌else◌}
use Rattle.std.specs.Str.{bytes_eq}
use Rattle.ups_cycle.specs.States.{state_text}
use Rattle.ups_cycle.specs.declared.state.StepState.{StepState}
use Rattle.ups_cycle.specs.declared.state.StepState.TheVariants.{Scheduled, InProgress, Completed, Canceled}

unfoldable pub state_named : List ℕ → Option StepState
state_named text =
    if bytes_eq text (state_text Scheduled) then Some Scheduled else (
    if bytes_eq text (state_text InProgress) then Some InProgress else (
    if bytes_eq text (state_text Completed) then Some Completed else (
    if bytes_eq text (state_text Canceled) then Some Canceled else None)))
