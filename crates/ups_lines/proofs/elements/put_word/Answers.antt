use Rattle.ups_lines.proofs.Encoding.{as_word}
use Rattle.ups_lines.proofs.elements.put_word.Goals as goal

pub returns-in_default : goal.returns-in_default
returns-in_default g c = as_word c.args.word.now _ _ c.put_attribute.result c.put_attribute.ensures
