use Rattle.std.proofs.Common.{Some}
use Rattle.ups_tables.proofs.Planned.{named_or_not}
use Rattle.ups_tables.proofs.choosing.single_step.Goals as goal

pub returns-in-Single : goal.returns-in-Single
returns-in-Single g c = named_or_not c.args.target.now c.in-Single.step c.in-Single.is

pub returns-in_default : goal.returns-in_default
returns-in_default g c = λ step e. c.in_default.not-Single (Some step) e
