-- Records in a ledger behind those that it had.
use Rattle.std.specs.Prelude.{◌≡◌, ℕ, List, ◌++◌, length}
use Rattle.std.specs.Global.{Global}
use Rattle.ups_journal.specs.declared.record.Record.{Record}

-- as many records as were committed, followed by these and no others
pub record AreBehind (all : List (Record Global)) (committed : ℕ) (records : List (Record Global)) : Type 0 where
  pub front : List (Record Global)
  pub many : length front ≡ committed
  pub are : all ≡ front ++ records
