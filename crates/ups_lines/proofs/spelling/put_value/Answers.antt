use Rattle.std.proofs.Common.{rules}
use Rattle.ups_lines.proofs.Forming.{even_element}
use Rattle.ups_lines.proofs.spelling.put_value.Goals as goal

pub returns-else-len-ne0 : goal.returns-else-len-ne0
returns-else-len-ne0 g c = λ bytes is. even_element c.args.tag bytes c.args.out.now.items c.put_head.new.out.items c.put.new.out.items c.len-len.result c.in-Ok.padded (c.len-len.ensures bytes is) c.if-len-ne0.false (search rules) (search rules) (search rules)
