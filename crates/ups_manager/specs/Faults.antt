-- Why a request is not entered: it is refused with a status, or memory ran out.
use Rattle.std.specs.Prelude.{◌≡◌, ◌<◌, ◌⊎◌, ℕ, ℤ, Bool, true, false, Option}
use Rattle.std.specs.Option.{unwrap_or}
use Rattle.ups_dataset.specs.Limits.{max_depth}
use Rattle.ups_dataset.specs.Data.{elements_of}
use Rattle.ups_dataset.specs.Valid.{depth_elements}
use Rattle.ups_cycle.specs.declared.status.Status.{Status}
use Rattle.ups_cycle.specs.declared.status.Status.TheVariants.{Success, ResourceLimitation}
use Rattle.ups_cycle.specs.Statuses.{is_done}
use Rattle.ups_life.specs.declared.request.Request.{Request}
use Rattle.ups_life.specs.declared.row.Row.{Row}
use Rattle.ups_life.specs.Steps.{given, nothing, row_after}
use Rattle.ups_life.specs.Verdict.{verdict}
use Rattle.ups_life.specs.History.{fits, is_sized}
use Rattle.ups_manager.specs.declared.submitting.SubmitFault.{SubmitFault}
use Rattle.ups_manager.specs.declared.submitting.SubmitFault.TheVariants.{Refused, Memory}

-- the status that reports the fault: 0213 if memory ran out
abbrev pub status_of : SubmitFault → Status
status_of (Refused status) = status
status_of Memory = ResourceLimitation

-- the row that a request makes of another is too large, or the elements that the request gives nest too deep
abbrev pub IsTooLarge : {A : Type 0} → ℤ → ℕ → Row A → Request A → Type 0
IsTooLarge offset moment before request =
    ((is_sized request ≡ true) × (fits (row_after offset moment before request).attributes ≡ false))
    ⊎ (max_depth < depth_elements (elements_of (given offset moment before.state request)))

abbrev pub RowFails : {A : Type 0} → ℤ → ℕ → Row A → Request A → SubmitFault → Type 0
RowFails offset moment before request (Refused status) = (status ≡ ResourceLimitation) × IsTooLarge offset moment before request
RowFails offset moment before request Memory = Unit {0}

-- a request fails, by what is held of its step and by whether it repeats a UID: its verdict refuses it, or no row is
-- made
abbrev pub StepFails : {A : Type 0} → ℤ → ℕ → Option (Row A) → Bool → Request A → SubmitFault → Type 0
StepFails offset moment row used request fault =
    ((fault ≡ Refused (verdict row used request)) × (is_done (verdict row used request) ≡ false))
    ⊎ ((verdict row used request ≡ Success) × RowFails offset moment (unwrap_or row nothing) request fault)
