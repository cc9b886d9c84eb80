use Rattle.ups_lines.proofs.Encoding.{one_data_set}
use Rattle.ups_lines.proofs.laws.words_encode_one_data_set.Goals as goal

pub returns : goal.returns
returns c = one_data_set
