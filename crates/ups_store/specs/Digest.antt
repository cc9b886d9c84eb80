-- A digest of records: SipHash-1-3 with both keys 0, of the cells that their rows have.
use Rattle.std.specs.Prelude.{ℕ, List, [], ◌∷◌, ◌++◌, length}
use Rattle.std.specs.List.{fold, flat_map}
use Rattle.std.specs.Hash as fed
use Rattle.std.specs.Hash.DefaultHasher as sip
use Rattle.std.specs.declared.alloc.Global.{Global}
use Rattle.sqlite_value.specs.declared.value.Value.{Value}
use Rattle.sqlite_value.specs.declared.value.Value.TheVariants.{Null, Int, Real, Text, Blob}
use Rattle.ups_journal.specs.declared.record.Record.{Record}
use Rattle.ups_store.specs.Rows.{record_cells}

-- what is hashed of a text or a blob: its kind, its length and its bytes
abbrev pub bytes_input : ℕ → List ℕ → List (List ℕ)
bytes_input kind bytes = fed.u8 kind ++ (fed.usize (length bytes) ++ bytes ∷ [])

-- what is hashed of a cell: its kind and its value, so that no two values are hashed alike; no column is REAL
abbrev pub cell_input : Value → List (List ℕ)
cell_input Null = fed.u8 0
cell_input (Int n) = fed.u8 1 ++ fed.i64 n
cell_input (Real x) = fed.u8 2
cell_input (Text text) = bytes_input 3 text
cell_input (Blob blob) = bytes_input 4 blob

abbrev pub cells_input : List Value → List (List ℕ)
cells_input cells = flat_map cell_input cells

-- the digest of records with one more behind them: the digest of those, and the cells of that one, are hashed
unfoldable pub digest_with : ℕ → Record Global → ℕ
digest_with before r = sip.finish (fold sip.write sip.initial (fed.u64 before ++ cells_input (record_cells r)))

-- the digest of records with these behind them
abbrev pub digest_after : ℕ → List (Record Global) → ℕ
digest_after before records = fold digest_with before records

-- the digest of records; 0 is that of none
abbrev pub digest_of : List (Record Global) → ℕ
digest_of records = digest_after 0 records
