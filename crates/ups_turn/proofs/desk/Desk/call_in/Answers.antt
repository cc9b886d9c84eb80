use Rattle.std.proofs.Common.{◌∙◌, ◌+◌, ℕ, ap, arith, ◌<◌, subst, sym}
use Rattle.ups_turn.specs.Pass.{PassView, most_calls}
use Rattle.ups_turn.proofs.Turns.{given_in, at_rest_by, rests_by, served_by}
use Rattle.ups_turn.proofs.desk.Desk.call_in.Goals as goal

pub call_in_turn-reply-requires-clause-rests : goal.call_in_turn-reply-requires-clause-rests
call_in_turn-reply-requires-clause-rests g c = let p = c.pass.inside in (at_rest_by _ p.number p.calls _ p.place.me c.pass.invariant.0).0

pub call_in_turn-reply-requires-clause-left : goal.call_in_turn-reply-requires-clause-left
call_in_turn-reply-requires-clause-left g c =
    let p = c.pass.inside in
    let drawn = (at_rest_by _ p.number p.calls _ p.place.me c.pass.invariant.0).1 in
    let less : p.calls < most_calls = subst (λ (v : PassView g.row.A.Denot). v.calls < most_calls) (sym c.pass.view_is) c.requires.left in
    omega arith

pub invariant_of-pass : goal.invariant_of-pass
invariant_of-pass g c =
    let p = c.pass.inside in
    let e = c.call_in_turn-reply.ensures in
    let given = given_in c.args.ask.now c.requires.given e.served in
    let drawn = given.2.calls ∙ ap (λ (k : ℕ). k + 1) (at_rest_by _ p.number p.calls _ p.place.me c.pass.invariant.0).1 in
    let less : p.calls < most_calls = subst (λ (v : PassView g.row.A.Denot). v.calls < most_calls) (sym c.pass.view_is) c.requires.left in
    (rests_by p.number _ c.call_in_turn-reply.new.place.me e.rests drawn, e.entries, omega arith, e.legal)

pub returns-clause-served : goal.returns-clause-served
returns-clause-served g c =
    let p = c.pass.inside in
    let e = c.call_in_turn-reply.ensures in
    let given = given_in c.args.ask.now c.requires.given e.served in
    let before = (at_rest_by _ p.number p.calls _ p.place.me c.pass.invariant.0).1 in
    rw (← c.pass.view_is, given.1) (served_by _ _ p.number p.calls _ p.place.me.0 c.call_in_turn-reply.new.place.me.0 _ _ _ _ before (given.2.calls ∙ ap (λ (k : ℕ). k + 1) before) given.2)
