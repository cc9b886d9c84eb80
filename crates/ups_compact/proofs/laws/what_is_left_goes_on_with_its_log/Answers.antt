use Rattle.ups_compact.proofs.Onward.{left_next, left_next_shift, left_ever, left_ever_shift}
use Rattle.ups_compact.proofs.laws.what_is_left_goes_on_with_its_log.Goals as goal

pub returns : goal.returns
returns g c = record {
  next = left_next;
  shift = λ s by log e w once k l. left_next_shift s by log e once k l w;
  ever = left_ever;
  ever_shift = λ s by log later w once k l. left_ever_shift s by log later once k l w;
}
