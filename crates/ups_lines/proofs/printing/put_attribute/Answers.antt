use Rattle.std.proofs.lemmas.Result.{on_ok_weaker}
use Rattle.ups_lines.specs.Ways.{way_text}
use Rattle.ups_lines.proofs.Printed.{word_put}
use Rattle.ups_lines.proofs.printing.put_attribute.Goals as goal

pub returns-clause-text : goal.returns-clause-text
returns-clause-text g c = on_ok_weaker c.put_text.result
    (λ said. word_put c.args.follows.now (way_text c.args.way.now) c.args.tag c.args.value.now _ _ _ _ _ _ c.in_ok-put_space.ensures.text c.in_ok-put_way.ensures c.in_ok-put_tag.ensures c.in_ok-write_all.ensures.bytes said)
    c.put_text.ensures
