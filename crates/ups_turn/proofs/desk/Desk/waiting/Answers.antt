use Rattle.std.proofs.Common.{◌≡◌, ◌∙◌, ◌+◌, ℕ, true, nat_lt, ap, arith}
use Rattle.std.proofs.lemmas.Bool.Decides.{nat_tests}
use Rattle.ups_turn.specs.Pass.{most_calls}
use Rattle.ups_turn.proofs.Turns.{at_rest_by, rests_by, observed_by}
use Rattle.ups_turn.proofs.desk.Desk.waiting.Goals as goal

pub waiting_in_turn-count-requires-clause-rests : goal.waiting_in_turn-count-requires-clause-rests
waiting_in_turn-count-requires-clause-rests g c = let p = c.pass.inside in (at_rest_by _ p.number p.calls _ p.place.me c.pass.invariant.0).0

pub waiting_in_turn-count-requires-clause-left : goal.waiting_in_turn-count-requires-clause-left
waiting_in_turn-count-requires-clause-left g c =
    let p = c.pass.inside in
    let drawn = (at_rest_by _ p.number p.calls _ p.place.me c.pass.invariant.0).1 in
    let less = c.if-has_none_left.false in
    omega arith

pub invariant_of-pass : goal.invariant_of-pass
invariant_of-pass g c =
    let p = c.pass.inside in
    let e = c.waiting_in_turn-count.ensures in
    let drawn : c.waiting_in_turn-count.new.place.me.0.draws ≡ p.calls + 1 = e.standing.calls ∙ ap (λ (k : ℕ). k + 1) (at_rest_by _ p.number p.calls _ p.place.me c.pass.invariant.0).1 in
    let less = c.if-has_none_left.false in
    (rests_by p.number _ c.waiting_in_turn-count.new.place.me e.rests drawn, e.entries, omega arith, e.legal)

pub returns-clause-pass : goal.returns-clause-pass
returns-clause-pass g c =
    let p = c.pass.inside in
    let e = c.waiting_in_turn-count.ensures in
    let before = (at_rest_by _ p.number p.calls _ p.place.me c.pass.invariant.0).1 in
    rw (← c.pass.view_is) (observed_by _ _ p.number p.calls _ p.place.me.0 c.waiting_in_turn-count.new.place.me.0 before (e.standing.calls ∙ ap (λ (k : ℕ). k + 1) before) e.standing)
