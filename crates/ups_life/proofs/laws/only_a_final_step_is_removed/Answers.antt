use Rattle.ups_life.proofs.Finals.{final_stays}
use Rattle.ups_life.proofs.Retained.{unfinished_stays}
use Rattle.ups_life.proofs.laws.only_a_final_step_is_removed.Goals as goal

pub returns-clause-unfinished : goal.returns-clause-unfinished
returns-clause-unfinished g c = unfinished_stays

pub returns-clause-finished : goal.returns-clause-finished
returns-clause-finished g c = final_stays
