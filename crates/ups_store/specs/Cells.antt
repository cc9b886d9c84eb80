-- Single values as cells of a row, and the values in cells.
use Rattle.std.specs.Prelude.{ℕ, ℤ, pos, negsuc, Bool, true, false, List, Option, None, Some, ◌==◌, ◌^◌, nat_lt, unwrap_or, if◌then◌else◌}
use Rattle.std.specs.Int.{w64, cast_signed, cast_unsigned}
use Rattle.sqlite_value.specs.declared.value.Value.{Value}
use Rattle.sqlite_value.specs.declared.value.Value.TheVariants.{Null, Int, Text, Blob}
use Rattle.sqlite_value.specs.Order.{bytes}
use Rattle.ups_cycle.specs.States.{state_text}
use Rattle.ups_cycle.specs.declared.state.StepState.{StepState}
use Rattle.ups_journal.specs.Operations.{operation_named}
use Rattle.ups_journal.specs.declared.operation.RecordedOperation.{RecordedOperation}
use Rattle.ups_journal.specs.declared.operation.RecordedOperation.TheVariants.{Create}
use Rattle.ups_store.specs.Words.{state_named}

-- a number of 64 bits; one of 2^63 or more is stored as a negative integer
abbrev pub number_cell : ℕ → Value
number_cell n = Int (cast_signed w64 n)

abbrev pub number_in : Value → ℕ
number_in (Int n) = cast_unsigned w64 n
number_in _ = 0

-- a number of 32 bits; 0 if it is larger
abbrev pub short_in : Value → ℕ
short_in v = if nat_lt (number_in v) (2 ^ 32) then number_in v else 0

abbrev pub event_cell : Option ℕ → Value
event_cell None = Null
event_cell (Some n) = number_cell n

abbrev pub event_in : Value → Option ℕ
event_in (Int n) = Some (cast_unsigned w64 n)
event_in _ = None

abbrev pub lock_cell : Option Bool → Value
lock_cell None = Null
lock_cell (Some false) = Int (pos 0)
lock_cell (Some true) = Int (pos 1)

abbrev pub lock_in_cell : Value → Option Bool
lock_in_cell (Int n) = Some (cast_unsigned w64 n == 1)
lock_in_cell _ = None

-- minutes east of UTC, in 16 bits; read as 0 if out of range
abbrev pub offset_cell : Option ℤ → Value
offset_cell None = Null
offset_cell (Some n) = Int n

abbrev pub is_short : ℤ → Bool
is_short (pos n) = nat_lt n (2 ^ 15)
is_short (negsuc n) = nat_lt n (2 ^ 15)

abbrev pub offset_in : Value → Option ℤ
offset_in (Int n) = Some (if is_short n then n else pos 0)
offset_in _ = None

abbrev pub text_cell : Option (List ℕ) → Value
text_cell None = Null
text_cell (Some text) = Text text

abbrev pub blob_cell : Option (List ℕ) → Value
blob_cell None = Null
blob_cell (Some text) = Blob text

abbrev pub bytes_in : Value → Option (List ℕ)
bytes_in (Text text) = Some text
bytes_in (Blob text) = Some text
bytes_in _ = None

abbrev pub state_cell : Option StepState → Value
state_cell None = Null
state_cell (Some state) = Text (state_text state)

abbrev pub state_in : Value → Option StepState
state_in v = state_named (bytes v)

abbrev pub operation_in : Value → RecordedOperation
operation_in v = unwrap_or (operation_named (bytes v)) Create
