use Rattle.ups_manager.proofs.Fitting.{fits_so, within_limit}
use Rattle.ups_manager.proofs.submitting.row_for.Goals as goal

pub returns-clause-fits : goal.returns-clause-fits
returns-clause-fits g c = λ e. fits_so c.in-Ok.after.attributes c.is_a_data_set.ensures (within_limit c.in-Ok.after.attributes c.size.result c.size.ensures c.if-size-gt-MAX_ROW_BYTES.false)
