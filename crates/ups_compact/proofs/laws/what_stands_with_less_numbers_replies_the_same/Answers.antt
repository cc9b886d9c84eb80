use Rattle.ups_compact.proofs.Alike.{got_same, worklist_same}
use Rattle.ups_compact.proofs.Shifted.{decided_shifted, reply_shifted}
use Rattle.ups_compact.proofs.laws.what_stands_with_less_numbers_replies_the_same.Goals as goal

pub returns : goal.returns
returns g c = record {
  decided = decided_shifted;
  reply = reply_shifted;
  got = λ s by log step tags x. got_same s by log x.says step tags;
  found = λ s by log keys x. worklist_same s by log x.says keys;
}
