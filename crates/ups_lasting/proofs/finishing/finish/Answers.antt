use Rattle.ups_lasting.proofs.Finished.{finished}
use Rattle.ups_lasting.proofs.finishing.finish.Goals as goal

pub returns-clause-finished : goal.returns-clause-finished
returns-clause-finished g c = λ s content i all.
    finished _ _ s content c.args.c.survey c.args.c.steps c.args.c.fresh.history _ _ c.args.c.read c.args.c.drafted _ _ all c.in-Ok.ensures.entered c.in-Ok.ensures.compacted c.in-Ok-shifts_between.ensures i
