use Rattle.ups_compact.proofs.Shifted.{stands_more, stands_ever, shift_ever}
use Rattle.ups_compact.proofs.laws.what_stands_with_less_numbers_lasts.Goals as goal

pub returns : goal.returns
returns g c = record {
  next = stands_more;
  ever = λ s by log later x l. stands_ever s by log x later l;
  shift = λ s by log later w x l. shift_ever s by log x later l w;
}
