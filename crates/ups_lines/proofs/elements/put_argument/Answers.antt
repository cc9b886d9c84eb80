use Rattle.ups_lines.proofs.Encoding.{argument_put}
use Rattle.ups_lines.proofs.elements.put_argument.Goals as goal

pub returns : goal.returns
returns g c = argument_put c.args.digits.now c.args.text.now _ _ c.put_value.result _ _ c.in-Some.ensures c.in-Some-of.ensures c.put_value.ensures
