use Rattle.std.proofs.Common.{refl}
use Rattle.ups_pdu.proofs.Collecting.{all_behind, not_all, all_at_end}
use Rattle.ups_pdu.proofs.item.are_all.Goals as goal

pub returns-in_default-spelled_by : goal.returns-in_default-spelled_by
returns-in_default-spelled_by g c = λ found h.
    let left = c.loop-content.invariant found h in
    let n = c.in-Some.ensures.next left.0 left.1 in
    (λ no. absurd cc, λ s. absurd (not_all g.T.Spelled.spells _ _ _ found left.0 n c.in_default-spelled_by.ensures left.2 s))

pub loop-content-preserved : goal.loop-content-preserved
loop-content-preserved g c = λ found h.
    let left = c.loop-content.invariant found h in
    let n = c.in-Some.ensures.next left.0 left.1 in
    (n.others, n.has, all_behind g.T.Spelled.spells _ _ _ found left.0 n _ c.in-Some-spelled_by.ensures left.2)

pub returns : goal.returns
returns g c = λ found h.
    let left = c.loop-content.invariant found h in
    (λ _. all_at_end g.T.Spelled.spells found left.0 (c.in_default.ensures.next left.0 left.1) left.2, λ _. refl)
