-- The records put while the requests of a store are replaced.
use Rattle.std.specs.Prelude.{List, IsTrue}
use Rattle.std.specs.declared.alloc.Global.{Global}
use Rattle.sqlite_trees.specs.View.{IsClean}
use Rattle.sqlite_trees.specs.declared.store.Store.{Ghosts}
use Rattle.ups_journal.specs.declared.record.Record.{Record}
use Rattle.ups_store.specs.Rewriting.{seen, written_anew}
use Rattle.ups_start.specs.declared.rewriting.Anew.{Anew}
use Rattle.ups_start.specs.Started.{said}

module _ {S : Type 0} {g : Ghosts S} where
  abbrev pub put_so_far : Anew S g → List (Record Global)
  put_so_far anew = said (written_anew anew.rewrite)

  -- no call has failed, and no wrong answer of the disk was taken as true
  abbrev pub IsPutting : Anew S g → Type 0
  IsPutting anew = IsTrue anew.is_whole × IsClean (seen anew.rewrite)
