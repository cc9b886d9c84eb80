-- How many entries are committed at once after a try.
use Rattle.std.specs.Prelude.{ℕ, ◌/◌, max, Bool, true, false, Result, Ok, Err}
use Rattle.ups_journal.specs.declared.fault.RecordingFault.{RecordingFault}
use Rattle.ups_journal.specs.declared.fault.RecordingFault.TheVariants.{BadTitle, TooLarge, Gone, Memory}
use Rattle.ups_ledger.specs.declared.fault.CommitFault.{CommitFault}
use Rattle.ups_ledger.specs.declared.fault.CommitFault.TheVariants.{Spent, Recording, Ledger}
use Rattle.ups_ledger.specs.declared.fault.LedgerFault.{LedgerFault}
use Rattle.ups_ledger.specs.declared.fault.LedgerFault.TheVariants.{Full, Write, Shut, Lost}
use Rattle.ups_ledger.specs.declared.group.Group.{Group}
use Rattle.ups_ledger.specs.declared.group.TheConstants.{MOST}

-- how many entries to commit at once
abbrev pub most_in : Group → ℕ
most_in group = group.most

abbrev pub half_unless : Bool → ℕ → ℕ
half_unless true most = most
half_unless false most = max (most / 2) 1

-- half the group, unless it is in doubt whether the ledger has appended the last one
abbrev pub halved : Group → Group
halved group = record { most = half_unless group.is_doubtful group.most; is_doubtful = group.is_doubtful }

-- nobody knows whether the ledger has appended the group
abbrev pub doubted : Group → Group
doubted group = record { most = group.most; is_doubtful = true }

abbrev pub after_recording : Group → RecordingFault → Group
after_recording group BadTitle = group
after_recording group TooLarge = group
after_recording group Gone = group
after_recording group Memory = halved group

abbrev pub after_ledger : Group → LedgerFault → Group
after_ledger group Full = halved group
after_ledger group Write = doubted group
after_ledger group Shut = doubted group
after_ledger group Lost = doubted group

abbrev pub after_fault : Group → CommitFault → Group
after_fault group Spent = group
after_fault group (Recording fault) = after_recording group fault
after_fault group (Ledger fault) = after_ledger group fault

-- the greatest group, with nothing in doubt
abbrev pub whole_group : Group
whole_group = record { most = MOST; is_doubtful = false }

-- the group to try after this one: the greatest again after a commit
abbrev pub group_after : Group → Result (Unit {0}) CommitFault → Group
group_after group (Ok done) = whole_group
group_after group (Err fault) = after_fault group fault
