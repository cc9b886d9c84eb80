use Rattle.std.proofs.Common.{◌≡◌, ◌∙◌, ◌+◌, ℕ, ap, arith}
use Rattle.ups_turn.proofs.Turns.{at_rest_by, rests_by, observed_by}
use Rattle.ups_turn.proofs.desk.Desk.maintain.Goals as goal

pub maintain_in_turn-is_more-requires-clause-rests : goal.maintain_in_turn-is_more-requires-clause-rests
maintain_in_turn-is_more-requires-clause-rests g c = let p = c.pass.inside in (at_rest_by _ p.number p.calls _ p.place.me c.pass.invariant.0).0

pub maintain_in_turn-is_more-requires-clause-left : goal.maintain_in_turn-is_more-requires-clause-left
maintain_in_turn-is_more-requires-clause-left g c =
    let p = c.pass.inside in
    let drawn = (at_rest_by _ p.number p.calls _ p.place.me c.pass.invariant.0).1 in
    let less = c.if-is_done.false in
    omega arith

pub invariant_of-pass : goal.invariant_of-pass
invariant_of-pass g c =
    let p = c.pass.inside in
    let e = c.maintain_in_turn-is_more.ensures in
    let drawn : c.maintain_in_turn-is_more.new.place.me.0.draws ≡ p.calls + 1 = e.standing.calls ∙ ap (λ (k : ℕ). k + 1) (at_rest_by _ p.number p.calls _ p.place.me c.pass.invariant.0).1 in
    let less = c.if-is_done.false in
    (rests_by p.number _ c.maintain_in_turn-is_more.new.place.me e.rests drawn, e.entries, omega arith, e.legal)

pub returns-clause-pass : goal.returns-clause-pass
returns-clause-pass g c =
    let p = c.pass.inside in
    let e = c.maintain_in_turn-is_more.ensures in
    let before = (at_rest_by _ p.number p.calls _ p.place.me c.pass.invariant.0).1 in
    rw (← c.pass.view_is) (observed_by _ _ p.number p.calls _ p.place.me.0 c.maintain_in_turn-is_more.new.place.me.0 before (e.standing.calls ∙ ap (λ (k : ℕ). k + 1) before) e.standing)
