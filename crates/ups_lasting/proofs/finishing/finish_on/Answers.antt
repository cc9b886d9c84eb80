use Rattle.ups_lasting.proofs.Finished.{finished_drafted}
use Rattle.ups_lasting.proofs.Slices.{on_ok}
use Rattle.ups_lasting.proofs.finishing.finish_on.Goals as goal

pub returns-clause-finished : goal.returns-clause-finished
returns-clause-finished g c = on_ok _ _ c.draft_on.result (λ on s content i. finished_drafted s content _ _ _ _ _ _ _ on i) c.draft_on.ensures.drafted
