use Rattle.std.proofs.Common.{sym, ◌∙◌}
use Rattle.std.proofs.lemmas.Result.{err_from_is_err_and}
use Rattle.ups_plain.proofs.rows.take_up.Goals as goal

pub change-requires-clause-moment : goal.change-requires-clause-moment
change-requires-clause-moment g c = c.requires.moment

pub returns-in_ok-after-clause-well_formed : goal.returns-in_ok-after-clause-well_formed
returns-in_ok-after-clause-well_formed g c = c.is_well_formed.ensures

pub returns-else-is_on-clause-well_formed : goal.returns-else-is_on-clause-well_formed
returns-else-is_on-clause-well_formed g c = c.is_well_formed.ensures

pub returns-in_err-after-clause-well_formed : goal.returns-in_err-after-clause-well_formed
returns-in_err-after-clause-well_formed g c = c.is_well_formed.ensures

pub returns-in_err-after-clause-named : goal.returns-in_err-after-clause-named
returns-in_err-after-clause-named g c = let p = err_from_is_err_and c.from_residual.result c.from_residual.ensures.1 in rw p.1 (sym c.is_on.ensures ∙ c.if-is_on.true)
