use Rattle.ups_lasting.proofs.Standing.{stands_alike, stands_itself, stands_on, stands_through}
use Rattle.ups_lasting.proofs.laws.what_stands_for_a_log_goes_on.Goals as goal

pub returns : goal.returns
returns c = record {
  itself = stands_itself c.what_stands_for_it_stands_for_its_log.ensures.itself;
  on = stands_on c.what_stands_with_less_numbers_lasts.ensures.ever c.what_stands_with_less_numbers_lasts.ensures.shift;
  alike = stands_alike;
  through = stands_through c.what_stands_for_it_stands_for_its_log.ensures.through;
}
