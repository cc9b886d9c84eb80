-- The states of a step (PS3.3 C.30.1, PS3.4 CC.1.1).
use Rattle.std.specs.Prelude.{ℕ, Bool, true, false, List, Option, None, Some, codes, if◌then◌else◌}
use Rattle.std.specs.Str.{bytes_eq}
use Rattle.ups_pdu.specs.Padding.{without_padding}
use Rattle.ups_cycle.specs.declared.state.StepState.{StepState}
use Rattle.ups_cycle.specs.declared.state.StepState.TheVariants.{Scheduled, InProgress, Completed, Canceled}

-- the state is final: no request changes it any more
abbrev pub is_final : StepState → Bool
is_final Scheduled = false
is_final InProgress = false
is_final Completed = true
is_final Canceled = true

abbrev pub state_text : StepState → List ℕ
state_text Scheduled = codes "SCHEDULED"
state_text InProgress = codes "IN PROGRESS"
state_text Completed = codes "COMPLETED"
state_text Canceled = codes "CANCELED"

-- the state that a value names, apart from its padding
abbrev pub state_of : List ℕ → Option StepState
state_of value =
    if bytes_eq (without_padding value) (state_text Scheduled) then Some Scheduled else (
    if bytes_eq (without_padding value) (state_text InProgress) then Some InProgress else (
    if bytes_eq (without_padding value) (state_text Completed) then Some Completed else (
    if bytes_eq (without_padding value) (state_text Canceled) then Some Canceled else None)))
