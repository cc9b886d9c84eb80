-- The state of a store while its requests are replaced.
use Rattle.std.specs.Prelude.{◌≡◌, ℕ, Bool, true, false, List, [], ◌∷◌, ◌++◌, Vec}
use Rattle.std.specs.declared.alloc.Global.{Global}
use Rattle.sqlite_trees.specs.Tree.{Trees}
use Rattle.sqlite_trees.specs.View.{View}
use Rattle.sqlite_trees.specs.declared.store.Store.{Ghosts}
use Rattle.ups_journal.specs.declared.record.Record.{Record}
use Rattle.ups_store.specs.declared.request.StoredRequest.{StoredRequest}
use Rattle.ups_store.specs.declared.rewriting.Progress.{Progress}
use Rattle.ups_store.specs.declared.rewriting.Progress.TheVariants.{Resting, Putting, Failed}
use Rattle.ups_store.specs.declared.rewriting.Rewrite.{Rewrite}
use Rattle.ups_store.specs.Rows.{requests_in, table_in, IsNumbered}

-- the records of all groups, in their order
abbrev pub records_of : List (Vec (Record Global) Global) → List (Record Global)
records_of [] = []
records_of (group ∷ groups) = group.items ++ records_of groups

abbrev pub is_at_rest : Progress → Bool
is_at_rest Resting = true
is_at_rest Putting = false
is_at_rest Failed = false

module _ {S : Type 0} {g : Ghosts S} where
  abbrev pub seen : Rewrite S g → View
  seen it = g.view it.store

  -- the requests that were put, which are not committed
  abbrev pub written_anew : Rewrite S g → List StoredRequest
  written_anew it = requests_in (seen it).trees

  -- their number, even after a call has failed; before the rewrite has begun, the number of all requests
  abbrev pub written_count : Rewrite S g → ℕ
  written_count it = it.count

  -- the tree in which they are
  abbrev pub written_table : Rewrite S g → ℕ
  written_table it = it.table

  -- the rewrite has not begun, or it is committed
  abbrev pub is_resting : Rewrite S g → Bool
  is_resting it = is_at_rest it.progress

  -- the rewrite has begun, and no call has failed
  abbrev pub GoesOnRewriting : Rewrite S g → Type 0
  GoesOnRewriting it = (it.progress ≡ Putting) × ((seen it).is_broken ≡ false)

  -- the rewrite goes on, and the database has the requests that were put, numbered from 1
  pub record IsReplaced (it : Rewrite S g) (db : Trees) : Type 0 where
    pub sound : GoesOnRewriting it
    pub requests : requests_in db ≡ written_anew it
    pub numbered : IsNumbered (db (table_in db))
