-- What a crash leaves of a ledger of the log.
use Rattle.std.specs.Prelude.{List}
use Rattle.std.specs.Global.{Global}
use Rattle.ups_journal.specs.declared.record.Record.{Record}
use Rattle.ups_compact.specs.Shifts.{less_by}
use Rattle.ups_lasting.specs.declared.draft_ledger.DraftLedger.{Ghosts}
use Rattle.ups_lasting.specs.declared.lasting.LastingLedger.{LastingLedger}
use Rattle.ups_lasting.specs.Doubting.{is_exchange}
use Rattle.ups_lasting.specs.Leaving.{LeavesOfLog}

-- a crash can leave these records of the log
abbrev pub LeavesLog : {D : Type 0} {g : Ghosts D} → LastingLedger D g → List (Record Global) → Type 0
LeavesLog {D} {g} l rs = LeavesOfLog g l.ledger l.content l.log l.tried (less_by l.shifts) (is_exchange l.doubt) rs
