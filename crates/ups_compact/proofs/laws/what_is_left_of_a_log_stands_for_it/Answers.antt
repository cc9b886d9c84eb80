use Rattle.ups_compact.proofs.Standing.{left_itself, left_more, left_less, left_legal, left_stands, left_log}
use Rattle.ups_compact.proofs.laws.what_is_left_of_a_log_stands_for_it.Goals as goal

pub returns : goal.returns
returns g c = record {
  itself = left_itself;
  more = λ s by log e k l. left_more s by log k e l;
  less = λ caller moment s by log once k. left_less s by log k caller moment once;
  legal = left_legal;
  stands = λ s by log once k. left_stands s by log k once;
  legal_with_room = λ s by log limit once k room. left_log s by log k once limit room;
}
