-- The name of each operation in a store, and the operation that a name is of.
use Rattle.std.specs.Prelude.{ℕ, List, Option, None, Some, if◌then◌else◌, codes}
use Rattle.std.specs.Str.{bytes_eq}
use Rattle.ups_journal.specs.declared.operation.RecordedOperation.{RecordedOperation}
use Rattle.ups_journal.specs.declared.operation.RecordedOperation.TheVariants.{Create, Change, AskCancel, Set, Subscribe, Unsubscribe, Suspend, Acknowledge, Sweep, Reserve}

abbrev pub name_of : RecordedOperation → List ℕ
name_of Create = codes "create"
name_of Change = codes "change state"
name_of AskCancel = codes "request cancel"
name_of Set = codes "set"
name_of Subscribe = codes "subscribe"
name_of Unsubscribe = codes "unsubscribe"
name_of Suspend = codes "suspend"
name_of Acknowledge = codes "acknowledge"
name_of Sweep = codes "sweep"
name_of Reserve = codes "reserve"

unfoldable pub operation_named : List ℕ → Option RecordedOperation
operation_named text =
    if bytes_eq text (name_of Create) then Some Create else (
    if bytes_eq text (name_of Change) then Some Change else (
    if bytes_eq text (name_of AskCancel) then Some AskCancel else (
    if bytes_eq text (name_of Set) then Some Set else (
    if bytes_eq text (name_of Subscribe) then Some Subscribe else (
    if bytes_eq text (name_of Unsubscribe) then Some Unsubscribe else (
    if bytes_eq text (name_of Suspend) then Some Suspend else (
    if bytes_eq text (name_of Acknowledge) then Some Acknowledge else (
    if bytes_eq text (name_of Sweep) then Some Sweep else (
    if bytes_eq text (name_of Reserve) then Some Reserve else None)))))))))
