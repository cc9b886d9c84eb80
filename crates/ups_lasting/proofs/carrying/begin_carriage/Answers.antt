use Rattle.std.proofs.Common.{ap, length}
use Rattle.ups_lasting.specs.Standing.{firsts}
use Rattle.ups_lasting.proofs.Carried.{carried_none}
use Rattle.ups_lasting.proofs.carrying.begin_carriage.Goals as goal

pub returns-clause-carried : goal.returns-clause-carried
returns-clause-carried g c = λ s content i needed. carried_none s content c.args.whole _ _ _ _ c.in-Ok-of.ensures needed c.in-Ok.ensures.history (ap firsts c.new.ensures) i

pub returns-clause-same : goal.returns-clause-same
returns-clause-same g c = ap (λ n. length n.history) c.in-Ok-of.ensures
