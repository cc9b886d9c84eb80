use Rattle.std.proofs.Common.{◌≡◌, ◌∙◌, ◌+◌, ℕ, true, nat_lt, ap, arith, ◌<◌, subst, sym}
use Rattle.ups_turn.specs.Pass.{PassView, most_calls}
use Rattle.ups_turn.proofs.Turns.{at_rest_by, rests_by, observed_by}
use Rattle.ups_turn.proofs.desk.Desk.rows_of_look.Goals as goal

pub look_in_turn-rows-requires-clause-rests : goal.look_in_turn-rows-requires-clause-rests
look_in_turn-rows-requires-clause-rests g c = let p = c.pass.inside in (at_rest_by _ p.number p.calls _ p.place.me c.pass.invariant.0).0

pub look_in_turn-rows-requires-clause-left : goal.look_in_turn-rows-requires-clause-left
look_in_turn-rows-requires-clause-left g c =
    let p = c.pass.inside in
    let drawn = (at_rest_by _ p.number p.calls _ p.place.me c.pass.invariant.0).1 in
    let less : p.calls < most_calls = subst (λ (v : PassView g.row.A.Denot). v.calls < most_calls) (sym c.pass.view_is) c.requires.left in
    omega arith

pub invariant_of-pass : goal.invariant_of-pass
invariant_of-pass g c =
    let p = c.pass.inside in
    let e = c.look_in_turn-rows.ensures in
    let drawn : c.look_in_turn-rows.new.place.me.0.draws ≡ p.calls + 1 = e.standing.calls ∙ ap (λ (k : ℕ). k + 1) (at_rest_by _ p.number p.calls _ p.place.me c.pass.invariant.0).1 in
    let less : p.calls < most_calls = subst (λ (v : PassView g.row.A.Denot). v.calls < most_calls) (sym c.pass.view_is) c.requires.left in
    (rests_by p.number _ c.look_in_turn-rows.new.place.me e.rests drawn, e.entries, omega arith, e.legal)

pub returns-clause-pass : goal.returns-clause-pass
returns-clause-pass g c =
    let p = c.pass.inside in
    let e = c.look_in_turn-rows.ensures in
    let before = (at_rest_by _ p.number p.calls _ p.place.me c.pass.invariant.0).1 in
    rw (← c.pass.view_is) (observed_by _ _ p.number p.calls _ p.place.me.0 c.look_in_turn-rows.new.place.me.0 before (e.standing.calls ∙ ap (λ (k : ℕ). k + 1) before) e.standing)
