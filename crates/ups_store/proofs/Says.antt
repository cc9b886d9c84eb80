-- A row says the request that it was made of.
use Rattle.std.proofs.Common.{◌≡◌, ℕ, ℤ, List, Option, Some, None, refl, ap, ◌∙◌}
use Rattle.std.specs.declared.alloc.Global.{Global}
use Rattle.sqlite_value.specs.declared.value.Value.TheVariants.{Text}
use Rattle.ups_cycle.specs.declared.state.StepState.{StepState}
use Rattle.ups_cycle.specs.declared.state.StepState.TheVariants.{Scheduled, InProgress, Completed, Canceled}
use Rattle.ups_journal.specs.Operations.{name_of, operation_named}
use Rattle.ups_journal.specs.declared.operation.RecordedOperation.{RecordedOperation}
use Rattle.ups_journal.specs.declared.operation.RecordedOperation.TheVariants.{Create, Change, AskCancel, Set, Subscribe, Unsubscribe, Suspend, Acknowledge, Sweep, Reserve}
use Rattle.ups_journal.specs.declared.record.Columns.{Columns}
use Rattle.ups_store.specs.declared.request.StoredRequest.{StoredRequest}
use Rattle.ups_store.specs.Words.{state_named}
use Rattle.ups_store.specs.Cells.{number_cell, number_in, text_cell, blob_cell, bytes_in, state_cell, state_in, operation_in}
use Rattle.ups_store.specs.Rows.{request_row, columns_in, request_in, IsReadAgain}

operation_again : (o : RecordedOperation) → operation_in (Text (name_of o)) ≡ o
unfolding operation_named
operation_again Create = refl
operation_again Change = refl
operation_again AskCancel = refl
operation_again Set = refl
operation_again Subscribe = refl
operation_again Unsubscribe = refl
operation_again Suspend = refl
operation_again Acknowledge = refl
operation_again Sweep = refl
operation_again Reserve = refl

state_again : (s : Option StepState) → state_in (state_cell s) ≡ s
unfolding state_named
state_again None = refl
state_again (Some Scheduled) = refl
state_again (Some InProgress) = refl
state_again (Some Completed) = refl
state_again (Some Canceled) = refl

text_again : (text : Option (List ℕ)) → bytes_in (text_cell text) ≡ text
text_again None = refl
text_again (Some text) = refl

blob_again : (blob : Option (List ℕ)) → bytes_in (blob_cell blob) ≡ blob
blob_again None = refl
blob_again (Some blob) = refl

columns_again : (number : ℤ) (r : StoredRequest) → IsReadAgain r.asked → columns_in (request_row number r) ≡ r.asked.request
columns_again number r again =
    let c = r.asked.request in
    ap (λ (x : RecordedOperation). record (columns_in (request_row number r)) { operation = x }) (operation_again c.operation)
    ∙ ap (λ (x : Option (List ℕ)). record (columns_in (request_row number r)) { operation = c.operation; instance = x }) (text_again c.instance)
    ∙ ap (λ (x : Option (List ℕ)). record (columns_in (request_row number r)) { operation = c.operation; instance = c.instance; transaction_uid = x }) (text_again c.transaction_uid)
    ∙ ap (λ (x : Option StepState). record (columns_in (request_row number r)) { operation = c.operation; instance = c.instance; transaction_uid = c.transaction_uid; state = x }) (state_again c.state)
    ∙ ap (λ (x : Option (List ℕ)). record (columns_in (request_row number r)) { operation = c.operation; instance = c.instance; transaction_uid = c.transaction_uid; state = c.state; receiver = x }) (text_again c.receiver)
    ∙ ap (λ (x : Columns Global). record x { attributes = bytes_in (blob_cell c.attributes) }) (watcher again)
    ∙ ap (λ (x : Option (List ℕ)). record c { attributes = x }) (blob_again c.attributes)
  where
    watcher : IsReadAgain r.asked → record r.asked.request { deletion_lock = (columns_in (request_row number r)).deletion_lock; event = (columns_in (request_row number r)).event; utc_offset = (columns_in (request_row number r)).utc_offset } ≡ r.asked.request
    watcher h = rw (h.lock, h.event, h.offset) refl

pub says : (number : ℤ) (r : StoredRequest) → number_in (number_cell r.run) ≡ r.run → IsReadAgain r.asked → request_in (request_row number r) ≡ r
says number r run again = rw (run, again.caller, again.moment, columns_again number r again) refl
