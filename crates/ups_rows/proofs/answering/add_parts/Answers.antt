use Rattle.std.proofs.Common.{◌++◌, arith, ap, ◌∙◌}
use Rattle.ups_rows.specs.Answering.{answers_among}
use Rattle.ups_rows.proofs.Parts.{answered_next, as_many, counted_next, some_of_all}
use Rattle.ups_rows.proofs.answering.add_parts.Goals as goal

pub loop-part-preserved : goal.loop-part-preserved
loop-part-preserved g c =
    let says = g.M.Matcher.says c.args.keys.now in
    let keys = c.args.keys.now.attributes in
    let more = counted_next c.args.parts.now c.loop-part.part-index c.part-item.result c.loop-part-test.true c.part-item.is in
    let len = as_many c.rows.result.now c.part-item.result c.rows.ensures in
    record {
      found = answered_next c.args.parts.now c.loop-part.part-index c.part-item.result c.loop-part-test.true c.part-item.is says keys c.args.found.now _ _ c.loop-part.invariant.found
          (c.in_ok-more.ensures.found ∙ ap (λ rows. c.loop-part.found ++ answers_among says keys rows) c.rows.ensures);
      count = omega (arith, c.in_ok-more.ensures.each, c.loop-part.invariant.count, more, len);
      more = omega (arith, c.in_ok-more.ensures.left, c.loop-part.invariant.more, more, len);
    }

pub returns-in_err-more-clause-most : goal.returns-in_err-more-clause-most
returns-in_err-more-clause-most g c =
    let some = some_of_all c.args.parts.now c.loop-part.part-index c.part-item.result c.loop-part-test.true c.part-item.is in
    let len = as_many c.rows.result.now c.part-item.result c.rows.ensures in
    omega (arith, c.add_some.ensures.most, c.loop-part.invariant.count, some, len)
