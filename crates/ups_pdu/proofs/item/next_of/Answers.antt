use Rattle.std.proofs.Common.{rules, ◌≡◌, true, false}
use Rattle.std.specs.Prelude.{◌==◌}
use Rattle.ups_pdu.proofs.Contents.{next_here, next_later, no_next}
use Rattle.ups_pdu.proofs.ItemWays.{item_shorter}
use Rattle.ups_pdu.proofs.item.next_of.Goals as goal

pub returns-then-found-kind-clause-next : goal.returns-then-found-kind-clause-next
returns-then-found-kind-clause-next c =
    let e : (c.in-Some.found == c.args.kind) ≡ true = search rules in
    λ found h. next_here _ _ _ _ _ e c.in-Some.ensures found (c.loop-found.invariant.on found h)

pub loop-found-preserved : goal.loop-found-preserved
loop-found-preserved c = record {
  on = λ found h. let e : (c.in-Some.found == c.args.kind) ≡ false = search rules in next_later _ _ _ _ _ e c.in-Some.ensures found (c.loop-found.invariant.on found h);
  left = search (rules, item_shorter);
}

pub returns-clause-next : goal.returns-clause-next
returns-clause-next c = λ found h. no_next _ _ c.in_default.ensures found (c.loop-found.invariant.on found h)
