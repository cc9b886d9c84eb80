-- What a crash can leave of a store before and after a call.
use Rattle.std.proofs.Common.{◌≡◌, ◌≤◌, List, IsTrue}
use Rattle.std.specs.declared.alloc.Global.{Global}
use Rattle.sqlite_trees.specs.Tree.{Trees}
use Rattle.sqlite_trees.specs.View.{doubt}
use Rattle.sqlite_trees.specs.declared.store.Store.{Ghosts}
use Rattle.ups_journal.specs.declared.record.Record.{Record}
use Rattle.ups_store.specs.declared.store.RequestStore.{RequestStore}
use Rattle.ups_store.specs.Shown.{requests_shown}
use Rattle.ups_store.proofs.Steps.{clean_before}
use Rattle.ups_start.specs.Shelved.{CanLeave, LeavesRecords}

module _ {S : Type 0} {g : Ghosts S} where
  -- what a crash can leave after the call, it could leave before it
  pub leaves_before : (old new : RequestStore S g) (rs : List (Record Global)) → doubt (requests_shown old).is_clean ≤ doubt (requests_shown new).is_clean
      → ((db : Trees) → IsTrue (requests_shown old).is_open → CanLeave old db → db ≡ (requests_shown old).committed) → (left : LeavesRecords new rs) → CanLeave old left.db → LeavesRecords old rs
  leaves_before old new rs quiet settled left was = record {
    clean = clean_before (requests_shown old) (requests_shown new) quiet left.clean;
    db = left.db;
    can_leave = was;
    settled = λ up. settled left.db up was;
    are = left.are;
  }
