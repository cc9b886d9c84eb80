-- The records that the file cannot store.
use Rattle.std.specs.Prelude.{ℕ, pos, List}
use Rattle.std.specs.List.{Any}
use Rattle.std.specs.declared.alloc.Global.{Global}
use Rattle.sqlite_trees.specs.View.{View, IsStorableRow}
use Rattle.ups_journal.specs.declared.record.Record.{Record}
use Rattle.ups_store.specs.Rows.{stored_in_run, request_row}

-- the row of one of the records has a billion bytes or more, in this tree
abbrev pub HasTooLarge : View → ℕ → ℕ → List (Record Global) → Type 0
HasTooLarge v table run = Any (λ r. (number : ℕ) × (¬ IsStorableRow (v.reals table) (request_row (pos number) (stored_in_run run r))))
