use Rattle.std.proofs.Common.{rules, ◌≡◌, true, false, Bool, ◌&&◌, ap, ◌∙◌, sym}
use Rattle.std.specs.List.{list_all}
use Rattle.ups_pdu.specs.Item.{IsItem, is_one_of}
use Rattle.ups_pdu.proofs.Sequence.{splits, ends}
use Rattle.ups_pdu.proofs.ItemWays.{item_way}
use Rattle.ups_pdu.proofs.item.has_only.Goals as goal

pub returns-then-not-contains : goal.returns-then-not-contains
returns-then-not-contains c =
    let e : is_one_of c.args.kinds.now (record { kind = c.in-Some.kind; content = c.in-Some.field-0-1.now }) ≡ false = search rules in
    λ items each.
    let left = c.loop-kind.invariant items each in
    let s = splits IsItem item_way _ _ _ c.in-Some.ensures left.0 left.1 in
    sym (left.2 ∙ ap (list_all (is_one_of c.args.kinds.now)) s.parts ∙ ap (λ (b : Bool). b && list_all (is_one_of c.args.kinds.now) s.tail) e)

pub loop-kind-preserved : goal.loop-kind-preserved
loop-kind-preserved c =
    let e : is_one_of c.args.kinds.now (record { kind = c.in-Some.kind; content = c.in-Some.field-0-1.now }) ≡ true = search rules in
    λ items each.
    let left = c.loop-kind.invariant items each in
    let s = splits IsItem item_way _ _ _ c.in-Some.ensures left.0 left.1 in
    (s.tail, s.more, left.2 ∙ ap (list_all (is_one_of c.args.kinds.now)) s.parts ∙ ap (λ (b : Bool). b && list_all (is_one_of c.args.kinds.now) s.tail) e)

pub returns : goal.returns
returns c = λ items each.
    let left = c.loop-kind.invariant items each in
    let none = ends IsItem _ c.in_default.ensures left.0 left.1 in
    sym (left.2 ∙ ap (list_all (is_one_of c.args.kinds.now)) none.0)
