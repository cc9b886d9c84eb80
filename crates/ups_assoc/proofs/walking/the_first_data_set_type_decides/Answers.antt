use Rattle.ups_assoc.proofs.Announced.{element_passed, type_decides}
use Rattle.ups_assoc.proofs.walking.the_first_data_set_type_decides.Goals as goal

pub returns : goal.returns
returns c = record { passes = element_passed; decides = type_decides }
