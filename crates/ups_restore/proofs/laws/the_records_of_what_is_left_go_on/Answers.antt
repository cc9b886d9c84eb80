use Rattle.ups_restore.proofs.Onward.{goes_on_by}
use Rattle.ups_restore.proofs.laws.the_records_of_what_is_left_go_on.Goals as goal

pub returns : goal.returns
returns c = goes_on_by
