use Rattle.std.proofs.Common.{None, ap, cond, ◌∙◌}
use Rattle.std.specs.Str.{bytes_eq}
use Rattle.ups_life.proofs.Texts.{text_is_itself}
use Rattle.ups_keep.specs.Waits.{waits}
use Rattle.ups_tables.proofs.Follows.{nothing_changes, changes_twice}
use Rattle.ups_tables.proofs.settling.settle.Goals as goal

pub returns-then-is_same-clause-waits : goal.returns-then-is_same-clause-waits
returns-then-is_same-clause-waits g c = λ u. nothing_changes c.args.step u c.args.due.now.steps c.args.after (c.requires.before ∙ c.is_same.ensures c.if-is_same.true)

pub add_if-requires-clause-absent : goal.add_if-requires-clause-absent
add_if-requires-clause-absent g c = c.take_if.ensures.waits c.args.step ∙ ap (λ b. cond b None (waits c.args.step c.args.due.now.steps)) (text_is_itself c.args.step)

pub returns-clause-waits : goal.returns-clause-waits
returns-clause-waits g c = λ u. changes_twice (bytes_eq c.args.step u) c.args.after _ _ _ (c.add_if.ensures.waits u) (c.take_if.ensures.waits u)
