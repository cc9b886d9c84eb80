use Rattle.std.proofs.Common.{◌≡◌, ◌∙◌, ◌+◌, ℕ, true, nat_lt, ap, arith}
use Rattle.std.proofs.lemmas.Bool.Decides.{nat_tests}
use Rattle.ups_turn.specs.Pass.{most_calls}
use Rattle.ups_turn.proofs.Turns.{at_rest_by, rests_by, observed_by}
use Rattle.ups_turn.proofs.desk.Desk.observe.Goals as goal

pub observe_in_turn-seen-requires-clause-rests : goal.observe_in_turn-seen-requires-clause-rests
observe_in_turn-seen-requires-clause-rests g c = let p = c.pass.inside in (at_rest_by _ p.number p.calls _ p.place.me c.pass.invariant.0).0

pub observe_in_turn-seen-requires-clause-left : goal.observe_in_turn-seen-requires-clause-left
observe_in_turn-seen-requires-clause-left g c =
    let p = c.pass.inside in
    let drawn = (at_rest_by _ p.number p.calls _ p.place.me c.pass.invariant.0).1 in
    let less = c.if-is_spent.false in
    omega arith

pub invariant_of-pass : goal.invariant_of-pass
invariant_of-pass g c =
    let p = c.pass.inside in
    let e = c.observe_in_turn-seen.ensures in
    let drawn : c.observe_in_turn-seen.new.place.me.0.draws ≡ p.calls + 1 = e.standing.calls ∙ ap (λ (k : ℕ). k + 1) (at_rest_by _ p.number p.calls _ p.place.me c.pass.invariant.0).1 in
    let less = c.if-is_spent.false in
    (rests_by p.number _ c.observe_in_turn-seen.new.place.me e.rests drawn, e.entries, omega arith, e.legal)

pub returns-clause-pass : goal.returns-clause-pass
returns-clause-pass g c =
    let p = c.pass.inside in
    let e = c.observe_in_turn-seen.ensures in
    let before = (at_rest_by _ p.number p.calls _ p.place.me c.pass.invariant.0).1 in
    rw (← c.pass.view_is) (observed_by _ _ p.number p.calls _ p.place.me.0 c.observe_in_turn-seen.new.place.me.0 before (e.standing.calls ∙ ap (λ (k : ℕ). k + 1) before) e.standing)
