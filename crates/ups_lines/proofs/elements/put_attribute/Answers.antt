use Rattle.std.proofs.Common.{◌≡◌, ◌++◌, take, drop, take-append-drop}
use Rattle.ups_lines.proofs.Encoding.{attribute_put}
use Rattle.ups_lines.proofs.elements.put_attribute.Goals as goal

pub returns : goal.returns
returns g c =
    let front : c.in-Some.digits.now ≡ take 8 c.args.word.now = c.in-Some.ensures.cases.1 in
    let back : c.in-Some.behind.now ≡ drop 8 c.args.word.now = c.in-Some.ensures.cases.2 in
    let whole : take 8 c.args.word.now ++ drop 8 c.args.word.now ≡ c.args.word.now = take-append-drop 8 c.args.word.now in
    let parts : c.args.word.now ≡ c.in-Some.digits.now ++ c.in-Some.behind.now = cc in
    attribute_put c.args.word.now c.in-Some.digits.now c.in-Some.behind.now _ _ _ c.put_argument.result parts c.in-Some-value_in.ensures c.put_argument.ensures
