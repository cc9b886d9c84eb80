-- The row of a request, and the request that a row stands for.
use Rattle.std.specs.Prelude.{◌≡◌, ℕ, suc, ℤ, pos, List, [], ◌∷◌, map, codes, if◌then◌else◌}
use Rattle.std.specs.declared.alloc.Global.{Global}
use Rattle.sqlite_value.specs.declared.value.Value.{Value}
use Rattle.sqlite_value.specs.declared.value.Value.TheVariants.{Null, Int, Text}
use Rattle.sqlite_value.specs.Order.{Row, column, bytes}
use Rattle.sqlite_trees.specs.Tree.{Trees}
use Rattle.sqlite_trees.specs.Objects.{catalog_tree, row_for}
use Rattle.ups_journal.specs.Operations.{name_of}
use Rattle.ups_journal.specs.declared.record.Columns.{Columns}
use Rattle.ups_journal.specs.declared.record.Record.{Record}
use Rattle.ups_store.specs.declared.request.StoredRequest.{StoredRequest}
use Rattle.ups_store.specs.Format.{is_text_cell}
use Rattle.ups_store.specs.Cells.{number_cell, number_in, short_in, event_cell, event_in, lock_cell, lock_in_cell, offset_cell, offset_in, text_cell, blob_cell, bytes_in, state_cell, state_in, operation_in}

-- a record that was entered in this run
abbrev pub stored_in_run : ℕ → Record Global → StoredRequest
stored_in_run run r = record { run = run; asked = r }

-- the cells of a record, in the order of their columns
abbrev pub record_cells : Record Global → List Value
record_cells r =
    number_cell r.caller
    ∷ number_cell r.moment
    ∷ Text r.title
    ∷ Text (name_of r.request.operation)
    ∷ text_cell r.request.instance
    ∷ text_cell r.request.transaction_uid
    ∷ state_cell r.request.state
    ∷ text_cell r.request.receiver
    ∷ lock_cell r.request.deletion_lock
    ∷ event_cell r.request.event
    ∷ offset_cell r.request.utc_offset
    ∷ blob_cell r.request.attributes
    ∷ []

-- the row with this number: its rowid, NULL in place of the number, and the other columns
abbrev pub request_row : ℤ → StoredRequest → Row
request_row number r = Int number ∷ Null ∷ number_cell r.run ∷ record_cells r.asked

abbrev pub columns_in : Row → Columns Global
columns_in row = record {
  operation = operation_in (column row 6);
  instance = bytes_in (column row 7);
  transaction_uid = bytes_in (column row 8);
  state = state_in (column row 9);
  receiver = bytes_in (column row 10);
  deletion_lock = lock_in_cell (column row 11);
  event = event_in (column row 12);
  utc_offset = offset_in (column row 13);
  attributes = bytes_in (column row 14);
}

abbrev pub record_in : Row → Record Global
record_in row = record { caller = short_in (column row 3); title = bytes (column row 5); moment = number_in (column row 4); request = columns_in row }

-- the request that a row stands for
abbrev pub request_in : Row → StoredRequest
request_in row = record { run = number_in (column row 2); asked = record_in row }

-- each value that a cell has as a number is read as it was written
pub record IsReadAgain (r : Record Global) : Type 0 where
  pub caller : short_in (number_cell r.caller) ≡ r.caller
  pub moment : number_in (number_cell r.moment) ≡ r.moment
  pub lock : lock_in_cell (lock_cell r.request.deletion_lock) ≡ r.request.deletion_lock
  pub event : event_in (event_cell r.request.event) ≡ r.request.event
  pub offset : offset_in (offset_cell r.request.utc_offset) ≡ r.request.utc_offset

-- the rows of these requests, numbered from this number on
abbrev pub rows_from : ℕ → List StoredRequest → List Row
rows_from number [] = []
rows_from number (r ∷ rs) = request_row (pos number) r ∷ rows_from (suc number) rs

-- the tree of the requests, by the row of tree 0 in a list of tables
abbrev pub table_by : Row → ℕ
table_by first = if is_text_cell (column first 2) (codes "draft") then 2 else 0

-- the tree that a list of tables has as the table of requests: tree 0, unless that is the draft
unfoldable pub table_listed : List Row → ℕ
table_listed listed = table_by (row_for listed 0)

-- the tree of the requests in a database
abbrev pub table_in : Trees → ℕ
table_in db = table_listed (db catalog_tree)

-- the other one of the trees 0 and 2, by a list of tables
unfoldable pub spare_listed : List Row → ℕ
spare_listed listed = if is_text_cell (column (row_for listed 0) 2) (codes "draft") then 0 else 2

-- the tree of the draft in a database
abbrev pub spare_in : Trees → ℕ
spare_in db = spare_listed (db catalog_tree)

-- the requests in a tree of a database
abbrev pub requests_in_tree : Trees → ℕ → List StoredRequest
requests_in_tree db table = map request_in (db table)

-- the requests in a database
abbrev pub requests_in : Trees → List StoredRequest
requests_in db = requests_in_tree db (table_in db)

-- the requests in the draft of a database
abbrev pub drafts_in : Trees → List StoredRequest
drafts_in db = requests_in_tree db (spare_in db)

-- each row is a request whose number is its place, from 1
abbrev pub IsNumbered : List Row → Type 0
IsNumbered rows = rows ≡ rows_from 1 (map request_in rows)
