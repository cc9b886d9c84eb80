-- The formats of a store: its tables, as they are listed in sqlite_schema.
use Rattle.std.specs.Prelude.{◌≡◌, ℕ, Bool, false, List, [], ◌∷◌, ◌++◌, codes, nat_le, nat_lt, if◌then◌else◌}
use Rattle.std.specs.List.{flat_map, list_any}
use Rattle.std.specs.Str.{bytes_eq}
use Rattle.sqlite_value.specs.declared.value.Value.{Value}
use Rattle.sqlite_value.specs.declared.value.Value.TheVariants.{Text}
use Rattle.sqlite_value.specs.Order.{Row, column}
use Rattle.sqlite_trees.specs.Tree.{Trees, with_tree, put_row}
use Rattle.sqlite_trees.specs.Objects.{catalog_tree, version_tree, version_rows, with_version, row_for, listing, number_in}
use Rattle.sqlite_trees.specs.declared.store.Shape.TheVariants.{Table}
use Rattle.sqlite_store.specs.declared.catalog.Wanted.{Wanted}
use Rattle.ups_store.specs.declared.format.Format.{Format}
use Rattle.ups_store.specs.declared.format.Format.TheVariants.{First, Second, Third, Exchanged}

-- a table with this name and this SQL text
abbrev pub table_of : List ℕ → List ℕ → Wanted
table_of name sql = record { shape = Table; reals = 0; row = Text (codes "table") ∷ Text name ∷ Text name ∷ Text sql ∷ [] }

-- a column behind the number: its name, its kind, and the first format that has it
pub record Column : Type 0 where
  pub name : List ℕ
  pub kind : List ℕ
  pub since : Format

-- a new column comes last
abbrev pub request_columns : List Column
request_columns =
    record { name = codes "run"; kind = codes "INTEGER NOT NULL"; since = First }
    ∷ record { name = codes "caller"; kind = codes "INTEGER NOT NULL"; since = First }
    ∷ record { name = codes "moment"; kind = codes "INTEGER NOT NULL"; since = First }
    ∷ record { name = codes "title"; kind = codes "TEXT NOT NULL"; since = First }
    ∷ record { name = codes "operation"; kind = codes "TEXT NOT NULL"; since = First }
    ∷ record { name = codes "instance"; kind = codes "TEXT"; since = First }
    ∷ record { name = codes "transaction_uid"; kind = codes "TEXT"; since = First }
    ∷ record { name = codes "state"; kind = codes "TEXT"; since = First }
    ∷ record { name = codes "receiver"; kind = codes "TEXT"; since = First }
    ∷ record { name = codes "deletion_lock"; kind = codes "INTEGER"; since = First }
    ∷ record { name = codes "event"; kind = codes "INTEGER"; since = First }
    ∷ record { name = codes "utc_offset"; kind = codes "INTEGER"; since = First }
    ∷ record { name = codes "attributes"; kind = codes "BLOB"; since = First }
    ∷ []

abbrev pub run_columns : List Column
run_columns =
    record { name = codes "moment"; kind = codes "INTEGER NOT NULL"; since = First }
    ∷ record { name = codes "version"; kind = codes "TEXT NOT NULL"; since = First }
    ∷ record { name = codes "settings"; kind = codes "TEXT NOT NULL"; since = First }
    ∷ record { name = codes "requests"; kind = codes "INTEGER NOT NULL"; since = First }
    ∷ record { name = codes "terms"; kind = codes "TEXT"; since = Second }
    ∷ []

-- the number of a format, which is the user version of a store that was given it
abbrev pub format_number : Format → ℕ
format_number First = 1
format_number Second = 2
format_number Third = 3
format_number Exchanged = 3

-- a column in a SQL text, if the format has it
abbrev pub column_sql : Format → Column → List ℕ
column_sql format column = if nat_le (format_number column.since) (format_number format) then codes ", " ++ (column.name ++ (codes " " ++ column.kind)) else []

-- the SQL text of a table with these columns, as a format has it
unfoldable pub sql_of : List ℕ → List Column → Format → List ℕ
sql_of table columns format = codes "CREATE TABLE " ++ (table ++ (codes " (number INTEGER PRIMARY KEY" ++ (flat_map (column_sql format) columns ++ codes ") STRICT")))

-- a table with this name and the columns of the requests, which are the same in all formats
abbrev pub request_table : List ℕ → Wanted
request_table name = table_of name (sql_of name request_columns First)

-- the name of tree 0
abbrev pub first_name : Format → List ℕ
first_name First = codes "request"
first_name Second = codes "request"
first_name Third = codes "request"
first_name Exchanged = codes "draft"

-- the name that tree 2 has, if it is there
abbrev pub last_name : Format → List ℕ
last_name First = codes "draft"
last_name Second = codes "draft"
last_name Third = codes "draft"
last_name Exchanged = codes "request"

abbrev pub run_sql : Format → List ℕ
run_sql format = sql_of (codes "run") run_columns format

abbrev pub run_table : Format → Wanted
run_table format = table_of (codes "run") (run_sql format)

-- the tables behind that of the runs
abbrev pub last_tables : Format → List Wanted
last_tables First = []
last_tables Second = []
last_tables Third = request_table (last_name Third) ∷ []
last_tables Exchanged = request_table (last_name Exchanged) ∷ []

-- the tables of a store of this format
abbrev pub tables_of : Format → List Wanted
tables_of format = request_table (first_name format) ∷ (run_table format ∷ last_tables format)

-- the tables of a store in one of the formats
abbrev pub IsSchema : List Wanted → Type 0
IsSchema schema = (format : Format) × (schema ≡ tables_of format)

-- the format of this version
abbrev pub current_format : Format
current_format = Third

-- the tables as this version makes them
abbrev pub the_schema : List Wanted
the_schema = tables_of current_format

abbrev pub is_text_cell : Value → List ℕ → Bool
is_text_cell (Text bytes) text = bytes_eq bytes text
is_text_cell _ text = false

-- the format of a store of three tables by the row of the first
abbrev pub third_in : Row → Format
third_in first = if is_text_cell (column first 5) (sql_of (codes "draft") request_columns First) then Exchanged else Third

-- the format of a store by the rows of its sqlite_schema: a rowid, type, name, table, root page and SQL text
abbrev pub format_in : List Row → Format
format_in (first ∷ (runs ∷ [])) = if is_text_cell (column runs 5) (run_sql First) then First else Second
format_in (first ∷ (runs ∷ (last ∷ others))) = if is_text_cell (column runs 5) (run_sql First) then First else third_in first
format_in _ = Second

-- the table of runs, as this version lists it
abbrev pub run_listing : Row
run_listing = listing 1 (run_table current_format).row Table 0

-- the database is of the format of this version
pub record IsCurrent (db : Trees) : Type 0 where
  pub runs : row_for (db catalog_tree) 1 ≡ run_listing
  pub version : db version_tree ≡ version_rows (format_number current_format)

-- the table of the draft, as this version makes it
abbrev pub draft_listing : Row
draft_listing = listing 2 (request_table (codes "draft")).row Table 0

-- a table of a list has the name of the draft
abbrev pub names_draft : List Row → Bool
names_draft listed = list_any (λ row. is_text_cell (column row 2) (codes "draft")) listed

-- a list of tables has one for tree 2
abbrev pub has_third : List Row → Bool
has_third listed = nat_lt 0 (number_in (column (row_for listed 2) 5))

-- the database with its table of runs listed as this version has it
abbrev pub with_runs : Trees → Trees
with_runs db = with_tree db catalog_tree (put_row run_listing (db catalog_tree))

-- the database with an empty draft
abbrev pub with_draft : Trees → Trees
with_draft db = with_tree (with_tree db 2 []) catalog_tree (put_row draft_listing (db catalog_tree))

-- the database with an empty draft, if it has no tree 2
abbrev pub with_third : Trees → Trees
with_third db = if has_third (db catalog_tree) then db else with_draft db

-- the same requests and runs, as a database of the format of this version
abbrev pub upgraded : Trees → Trees
upgraded db = with_version (with_third (with_runs db)) (format_number current_format)
