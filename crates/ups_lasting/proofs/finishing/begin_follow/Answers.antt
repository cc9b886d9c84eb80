use Rattle.ups_compact.specs.Shifts.{less_by}
use Rattle.ups_lasting.specs.Standing.{firsts}
use Rattle.ups_lasting.proofs.Finished.{finished_begins}
use Rattle.ups_lasting.proofs.finishing.begin_follow.Goals as goal

pub returns-clause-followed : goal.returns-clause-followed
returns-clause-followed g c = λ s content f all. finished_begins s content c.args.f.fresh.history (less_by c.args.f.shifts) c.args.f.from c.args.f.drafted (firsts c.args.f.drafts.items) f all
