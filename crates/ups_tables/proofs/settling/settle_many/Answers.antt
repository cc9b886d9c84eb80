use Rattle.std.proofs.Common.{ap, sym, ◌∙◌}
use Rattle.std.specs.Option.{option_or}
use Rattle.ups_keep.specs.Waits.{waits, unless_kept}
use Rattle.ups_watch.specs.Table.{cells_of, is_locked_by_any}
use Rattle.ups_tables.proofs.Fitness.{never_waits}
use Rattle.ups_tables.proofs.settling.settle_many.Goals as goal

pub drop_kept_if-requires-clause-unlocked : goal.drop_kept_if-requires-clause-unlocked
drop_kept_if-requires-clause-unlocked g c = λ h. c.requires.unlocked (sym c.is_lock.ensures ∙ h)

pub add_freed-requires-clause-apart : goal.add_freed-requires-clause-apart
add_freed-requires-clause-apart g c = λ u h. c.drop_kept_if.ensures.waits u ∙ ap (unless_kept (is_locked_by_any (cells_of c.args.watchers.now u))) (c.requires.apart u h) ∙ never_waits (is_locked_by_any (cells_of c.args.watchers.now u))

pub returns-clause-waits : goal.returns-clause-waits
returns-clause-waits g c = λ u. c.add_freed.ensures.waits u ∙ ap (λ o. option_or o (waits u c.args.freed.now)) (c.drop_kept_if.ensures.waits u)
