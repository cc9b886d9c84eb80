use Rattle.std.proofs.Common.{List, ℕ, refl, subst, sym}
use Rattle.ups_session.specs.Fold.{bad, closed}
use Rattle.ups_session.specs.Reading.{IsComplete}
use Rattle.ups_session.proofs.Coming.{turned_lost, turned, got_whole, got_bad, got_closed}
use Rattle.ups_session.proofs.driver.process_next.Goals as goal

pub returns-in-Err-clause-one_turn : goal.returns-in-Err-clause-one_turn
returns-in-Err-clause-one_turn g c =
    let (input, consumed, (is, begun)) = c.in-Err.ensures in
    (input, consumed, (turned_lost (g.P.Party.side (g.P.Party.setup c.args.party.now)) (g.P.Party.view c.args.party.now) (g.P.Party.view c.args.party.now) c.read_one.new.reader input _ c.in-Err.fault is begun))

pub process_whole-requires-clause-complete : goal.process_whole-requires-clause-complete
process_whole-requires-clause-complete g c =
    let (input, consumed, t) = c.in-Ok-Whole.ensures in
    let (same, complete) = got_whole g.row.A.Denot c.read_one.new.reader input _ _ c.in-Ok-Whole.field-0-is t in
    subst (λ (l : List ℕ). IsComplete l) (sym same) complete

pub returns-in-Ok-Whole-clause-one_turn : goal.returns-in-Ok-Whole-clause-one_turn
returns-in-Ok-Whole-clause-one_turn g c =
    let (input, consumed, t) = c.in-Ok-Whole.ensures in
    let (same, complete) = got_whole g.row.A.Denot c.read_one.new.reader input _ _ c.in-Ok-Whole.field-0-is t in
    (input, consumed, rw (← same) (c.process_whole.ensures.turn c.read_one.new.reader))

pub returns-in-Ok-Bad-clause-one_turn : goal.returns-in-Ok-Bad-clause-one_turn
returns-in-Ok-Bad-clause-one_turn g c =
    let (input, consumed, t) = c.in-Ok-Bad.ensures in
    (input, consumed, turned (g.P.Party.side (g.P.Party.setup c.args.party.now)) (g.P.Party.view c.args.party.now) (g.P.Party.view c.process_bad.new.party) c.read_one.new.reader input (bad c.in-Ok-Bad.fault) _ _ c.process_bad.result (got_bad g.row.A.Denot c.read_one.new.reader input _ _ c.in-Ok-Bad.fault c.in-Ok-Bad.field-0-is t) tt c.process_bad.ensures.performed)

pub returns-in-Ok-Closed-clause-one_turn : goal.returns-in-Ok-Closed-clause-one_turn
returns-in-Ok-Closed-clause-one_turn g c =
    let (input, consumed, t) = c.in-Ok-Closed.ensures in
    let (nothing, ended) = got_closed g.row.A.Denot c.read_one.new.reader input _ _ c.in-Ok-Closed.field-0-is t in
    (input, consumed, turned (g.P.Party.side (g.P.Party.setup c.args.party.now)) (g.P.Party.view c.args.party.now) (g.P.Party.view c.process_close.new.party) c.read_one.new.reader input closed _ _ c.process_close.result nothing (refl, ended) c.process_close.ensures.performed)
