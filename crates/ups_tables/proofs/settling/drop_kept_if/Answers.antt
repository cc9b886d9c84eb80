use Rattle.ups_watch.specs.Table.{cells_of, is_locked_by_any}
use Rattle.ups_keep.specs.Waits.{waits}
use Rattle.ups_tables.proofs.Follows.{none_dropped}
use Rattle.ups_tables.proofs.settling.drop_kept_if.Goals as goal

pub returns-else-locks-clause-waits : goal.returns-else-locks-clause-waits
returns-else-locks-clause-waits g c = λ u. none_dropped (is_locked_by_any (cells_of c.args.watchers.now u)) (waits u c.args.due.now.steps) (c.requires.unlocked c.if-locks.false u)
