-- The records that are kept in a store.
use Rattle.std.specs.Prelude.{◌≡◌, ◌⊎◌, ⊤, Bool, List, [], IsTrue, if◌then◌else◌}
use Rattle.std.proofs.Common.{sym, ap, ◌∙◌}
use Rattle.std.specs.declared.alloc.Global.{Global}
use Rattle.sqlite_trees.specs.Tree.{Trees}
use Rattle.sqlite_trees.specs.View.{IsClean}
use Rattle.sqlite_trees.specs.declared.store.Store.{Ghosts}
use Rattle.ups_journal.specs.declared.record.Record.{Record}
use Rattle.ups_store.specs.Rows.{requests_in}
use Rattle.ups_store.specs.declared.store.RequestStore.{RequestStore}
use Rattle.ups_store.specs.Shown.{requests_shown, requests, drafts}
use Rattle.ups_start.specs.declared.shelf.DraftFront.{DraftFront}
use Rattle.ups_start.specs.declared.shelf.DraftFront.TheVariants.{Unknown, Known, InDoubt}
use Rattle.ups_start.specs.declared.shelf.HeldStore.{HeldStore}
use Rattle.ups_start.specs.declared.shelf.HeldStore.TheVariants.{Open, Shut, Lost}
use Rattle.ups_start.specs.declared.shelf.Shelf.{Shelf}
use Rattle.ups_start.specs.declared.front.Front.{Front}
use Rattle.ups_start.specs.Front.{AreFront}
use Rattle.ups_start.specs.Started.{said}

-- the drafts have the front that is known of them
abbrev pub AreKnown : List (Record Global) → DraftFront → Type 0
AreKnown drafts known = (front : Front) → known ≡ Known front → AreFront drafts front

-- nobody knows whether the drafts have taken the place of the requests
abbrev pub IsInDoubt : DraftFront → Type 0
IsInDoubt Unknown = ⊥
IsInDoubt (Known front) = ⊥
IsInDoubt (InDoubt front) = ⊤

module _ {S : Type 0} {g : Ghosts S} where
  -- a crash can leave these trees of a store
  abbrev pub CanLeave : RequestStore S g → Trees → Type 0
  CanLeave store db = g.recovers store.store db

  -- A crash can leave these records of a store, and no wrong answer of the disk was taken as true so far. Of an open store it
  -- leaves what is committed: a law of stores, which a ledger's law on the same can only use from here.
  pub record LeavesRecords (store : RequestStore S g) (rs : List (Record Global)) : Type 0 where
    pub clean : IsClean (requests_shown store)
    pub db : Trees
    pub can_leave : CanLeave store db
    pub settled : IsTrue (requests_shown store).is_open → db ≡ (requests_shown store).committed
    pub are : said (requests_in db) ≡ rs

  -- the committed records, if the store is open
  abbrev pub records_in : HeldStore S g → List (Record Global)
  records_in (Open store) = said (requests store)
  records_in Shut = []
  records_in Lost = []

  -- the committed drafts, if the store is open
  abbrev pub drafts_on : HeldStore S g → List (Record Global)
  drafts_on (Open store) = said (drafts store)
  drafts_on Shut = []
  drafts_on Lost = []

  abbrev pub IsOpenStore : HeldStore S g → Type 0
  IsOpenStore (Open store) = IsTrue (requests_shown store).is_open
  IsOpenStore Shut = ⊥
  IsOpenStore Lost = ⊥

  -- no wrong answer of the disk was taken as true since the store was opened, if it is open
  abbrev pub IsHonestStore : HeldStore S g → Type 0
  IsHonestStore (Open store) = IsClean (requests_shown store)
  IsHonestStore Shut = ⊤
  IsHonestStore Lost = ⊤

  -- a crash can leave these records: any, if the store is not open
  abbrev pub Recovers : HeldStore S g → List (Record Global) → Type 0
  Recovers (Open store) rs = LeavesRecords store rs
  Recovers Shut rs = ⊤
  Recovers Lost rs = ⊤

  -- a crash leaves the records of an open store
  pub leaves_kept : (held : HeldStore S g) (rs : List (Record Global)) → IsOpenStore held → Recovers held rs → rs ≡ records_in held
  leaves_kept (Open store) rs up left = sym left.are ∙ ap (λ (db : Trees). said (requests_in db)) (left.settled up)
  leaves_kept Shut rs up left = absurd up
  leaves_kept Lost rs up left = absurd up

  abbrev pub kept_in : Shelf S g → List (Record Global)
  kept_in shelf = records_in shelf.held

  abbrev pub drafts_of : Shelf S g → List (Record Global)
  drafts_of shelf = drafts_on shelf.held

  -- the store is open, and never had to be reopened
  abbrev pub IsSound : Shelf S g → Type 0
  IsSound shelf = IsTrue shelf.is_first × IsOpenStore shelf.held

  abbrev pub IsHonest : Shelf S g → Type 0
  IsHonest shelf = IsHonestStore shelf.held

  -- an open store has the front that is committed, and nothing behind it
  abbrev pub IsCounted : Shelf S g → Type 0
  IsCounted shelf = IsOpenStore shelf.held → AreFront (kept_in shelf) shelf.front

  -- the drafts of an open store have the front that is known of them
  abbrev pub IsDrafted : Shelf S g → Type 0
  IsDrafted shelf = IsOpenStore shelf.held → AreKnown (drafts_of shelf) shelf.drafts

  -- the store is still open after an exchange that failed, or the exchange is in doubt, with the front of the drafts
  abbrev pub IsOpenOrInDoubt : Shelf S g → Shelf S g → Type 0
  IsOpenOrInDoubt old new = IsOpenStore new.held ⊎ ((front : Front) × (old.drafts ≡ Known front) × (new.drafts ≡ InDoubt front))

  -- The exchange in doubt was made, or was not: the records have the front of the drafts, or the one that was committed, and
  -- nothing is behind them.
  pub record HasSettled (old new : Shelf S g) (made : Bool) : Type 0 where
    pub drafted : Front
    pub was : old.drafts ≡ InDoubt drafted
    pub front : new.front ≡ (if made then drafted else old.front)
    pub are : IsHonest new → AreFront (kept_in new) new.front
