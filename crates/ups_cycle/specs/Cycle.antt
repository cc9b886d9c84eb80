-- The life cycle of a step (PS3.4 CC.1.1, CC.2.1, CC.2.2).
use Rattle.std.specs.Prelude.{Bool, true, false, if◌then◌else◌}
use Rattle.ups_cycle.specs.declared.status.Status.{Status}
use Rattle.ups_cycle.specs.declared.status.Status.TheVariants.{Success, NoLongerUpdatable, WrongTransactionUid, AlreadyInProgress, FinalStateNotMet, NotInProgress, TooLateToCancel, AlreadyCanceled, AlreadyCompleted}
use Rattle.ups_cycle.specs.declared.state.StepState.{StepState}
use Rattle.ups_cycle.specs.declared.state.StepState.TheVariants.{Scheduled, InProgress, Completed, Canceled}

-- THE LIFE CYCLE (PS3.4 CC.1.1, CC.2.1, CC.2.2): each function is a row of its table, each line a cell.

-- a change to IN PROGRESS, with a proper Transaction UID
abbrev pub claim_status : StepState → Status
claim_status Scheduled = Success
claim_status InProgress = AlreadyInProgress
claim_status Completed = NoLongerUpdatable
claim_status Canceled = NoLongerUpdatable

-- a change to COMPLETED, with the right Transaction UID; `performed`: the step has what COMPLETED requires. No UID is
-- right for a step that is SCHEDULED.
abbrev pub complete_status : Bool → StepState → Status
complete_status performed Scheduled = NotInProgress
complete_status performed InProgress = if performed then Success else FinalStateNotMet
complete_status performed Completed = AlreadyCompleted
complete_status performed Canceled = NoLongerUpdatable

-- a change to CANCELED, with the right Transaction UID; `discontinued`: the step has what CANCELED requires
abbrev pub discontinue_status : Bool → StepState → Status
discontinue_status discontinued Scheduled = NotInProgress
discontinue_status discontinued InProgress = if discontinued then Success else FinalStateNotMet
discontinue_status discontinued Completed = NoLongerUpdatable
discontinue_status discontinued Canceled = AlreadyCanceled

-- a change to a final state, with another Transaction UID or none; `proper`: a well-formed one is given
abbrev pub wrong_status : Bool → StepState → Status
wrong_status proper Scheduled = if proper then NotInProgress else WrongTransactionUid
wrong_status proper InProgress = WrongTransactionUid
wrong_status proper Completed = WrongTransactionUid
wrong_status proper Canceled = WrongTransactionUid

-- a request to cancel
abbrev pub cancel_status : StepState → Status
cancel_status Scheduled = Success
cancel_status InProgress = Success
cancel_status Completed = TooLateToCancel
cancel_status Canceled = AlreadyCanceled

-- an N-SET; `right`: its Transaction UID is that of the claim, `given`: it has one, even if malformed
abbrev pub set_status : Bool → Bool → StepState → Status
set_status right given Scheduled = if given then NotInProgress else Success
set_status right given InProgress = if right then Success else WrongTransactionUid
set_status right given Completed = NoLongerUpdatable
set_status right given Canceled = NoLongerUpdatable
