use Rattle.ups_lines.proofs.Again.{printed_word, printed_stands}
use Rattle.ups_lines.proofs.Decoding.{one_meaning}
use Rattle.ups_lines.proofs.laws.what_is_printed_is_read_again.Goals as goal

pub returns-clause-word : goal.returns-clause-word
returns-clause-word c = printed_word

pub returns-clause-again : goal.returns-clause-again
returns-clause-again c = printed_stands

pub returns-clause-alone : goal.returns-clause-alone
returns-clause-alone c = one_meaning
