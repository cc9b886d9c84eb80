use Rattle.std.proofs.Common.{◌≡◌, ◌<◌, ◌≤◌, [], ◌∷◌, ◌++◌, ◌∙◌, length, subst, arith}
use Rattle.std.proofs.KnownBytes.{Consumes-nil, Consumes-trans}
use Rattle.std.proofs.lemmas.List.{length-append}
use Rattle.std.proofs.lemmas.Result.{err_from_is_err_and}
use Rattle.ups_session.specs.Fold.{IsOpen}
use Rattle.ups_session.specs.Party.{IsOver}
use Rattle.ups_session.specs.Session.{okay, failing}
use Rattle.ups_session.specs.Turn.{IsTurn}
use Rattle.ups_session.proofs.Coming.{at_end_on, no_end_on, came_begun, came_on, session_failed, session_unbegun}
use Rattle.ups_session.proofs.Ending.{no_end_here}
use Rattle.ups_session.proofs.driver.drive.Goals as goal

pub returns-in_err-begin : goal.returns-in_err-begin
returns-in_err-begin g c =
    let side = g.P.Party.side (g.P.Party.setup c.args.party.now) in
    let p = err_from_is_err_and c.from_residual.result c.from_residual.ensures.1 in
    record {
      session = (
        [],
        Consumes-nil _,
        rw (p.1, p.2) (session_unbegun side g.P.Party.ending g.P.Party.start (g.P.Party.view c.begin.new.self) c.args.turns c.args.reader.now _ _ c.in_err-begin.field-0.0 c.in_err-begin.ensures.begins),
      );
      names = c.in_err-begin.ensures.names;
    }

pub loop-left-init : goal.loop-left-init
loop-left-init g c =
    let side = g.P.Party.side (g.P.Party.setup c.args.party.now) in (
      c.in_ok-begin.ensures.ready,
      c.in_ok-begin.ensures.setup,
      c.in_ok-begin.ensures.names,
      c.in_ok-begin.ensures.open,
      [],
      [],
      Consumes-nil _,
      omega (arith),
      tt,
      came_begun side g.P.Party.start (g.P.Party.view c.begin.new.self) _ _ c.in_ok-begin.ensures.begins,
    )

pub returns-in_err-process_next : goal.returns-in_err-process_next
returns-in_err-process_next g c =
    let (ready, same, named, is_open, input, arrivals, consumed, count, unended, progress) = c.loop-left.invariant in
    let (more, then, one_turn) = c.in_err-process_next.ensures.one_turn in
    let few : length arrivals < c.args.turns = omega (arith, count, c.loop-left-test.true) in
    let p = err_from_is_err_and c.from_residual-in_err-process_next.result c.from_residual-in_err-process_next.ensures.1 in
    let e = c.in_err-process_next.field-0.0 in
    record {
      session = (
        input ++ more,
        Consumes-trans _ _ _ _ _ consumed then,
        rw (p.1, p.2) (session_failed (g.P.Party.side (g.P.Party.setup c.args.party.now)) g.P.Party.ending g.P.Party.start (g.P.Party.view c.loop-left.party) (g.P.Party.view c.process_next.new.party) c.args.turns c.process_next.new.reader input more arrivals _ _ _ e progress (record { going_on = is_open; turn_left = few; unended = unended })
            (subst (λ (s : g.P.Party.Setup). IsTurn (g.P.Party.side s) (g.P.Party.view c.loop-left.party) (g.P.Party.view c.process_next.new.party) c.process_next.new.reader more (g.E.Environment.world c.loop-left.environment) (g.E.Environment.world c.process_next.new.environment) (failing e)) same one_turn)),
      );
      names = c.in_err-process_next.ensures.names ∙ named;
    }

pub returns-in-Some : goal.returns-in-Some
returns-in-Some g c =
    let (ready, same, named, is_open, input, arrivals, consumed, count, unended, progress) = c.loop-left.invariant in
    let (more, then, one_turn) = c.in_ok-process_next.ensures.one_turn in
    let now_same = c.in_ok-process_next.ensures.setup ∙ same in
    let (a, spells, end, performed) = subst (λ (s : g.P.Party.Setup). IsTurn (g.P.Party.side s) (g.P.Party.view c.loop-left.party) (g.P.Party.view c.process_next.new.party) c.process_next.new.reader more (g.E.Environment.world c.loop-left.environment) (g.E.Environment.world c.process_next.new.environment) okay) same one_turn in
    let few : length (arrivals ++ a ∷ []) ≤ c.args.turns = omega (arith, count, c.loop-left-test.true, length-append arrivals (a ∷ [])) in
    record {
      session = (
        input ++ more,
        Consumes-trans _ _ _ _ _ consumed then,
        (
          arrivals ++ a ∷ [],
          g.P.Party.view c.process_next.new.party,
          came_on (g.P.Party.side (g.P.Party.setup c.args.party.now)) g.P.Party.start (g.P.Party.view c.loop-left.party) (g.P.Party.view c.process_next.new.party) input more arrivals a _ _ _ progress is_open spells performed,
          at_end_on c.process_next.new.reader arrivals a unended end,
          few,
          subst (λ (s : g.P.Party.Setup). IsOpen ((g.P.Party.side s).state (g.P.Party.view c.process_next.new.party)) → ⊥) now_same c.in-Some.ensures.ended.0,
          c.in-Some.ensures.ended.1,
        ),
      );
      names = c.in_ok-process_next.ensures.names ∙ named;
    }

pub loop-left-preserved : goal.loop-left-preserved
loop-left-preserved g c =
    let (ready, same, named, is_open, input, arrivals, consumed, count, unended, progress) = c.loop-left.invariant in
    let (more, then, one_turn) = c.in_ok-process_next.ensures.one_turn in
    let now_same = c.in_ok-process_next.ensures.setup ∙ same in
    let side = g.P.Party.side (g.P.Party.setup c.args.party.now) in
    let (a, spells, end, performed) = subst (λ (s : g.P.Party.Setup). IsTurn (g.P.Party.side s) (g.P.Party.view c.loop-left.party) (g.P.Party.view c.process_next.new.party) c.process_next.new.reader more (g.E.Environment.world c.loop-left.environment) (g.E.Environment.world c.process_next.new.environment) okay) same one_turn in
    let over = subst (λ (s : g.P.Party.Setup). IsOver (g.P.Party.side s)) now_same c.in_default.ensures.over in
    let still = subst (λ (s : g.P.Party.Setup). IsOpen ((g.P.Party.side s).state (g.P.Party.view c.process_next.new.party))) now_same c.in_default.ensures.ended in (
      c.in_ok-process_next.ensures.ready,
      now_same,
      c.in_ok-process_next.ensures.names ∙ named,
      still,
      input ++ more,
      arrivals ++ a ∷ [],
      Consumes-trans _ _ _ _ _ consumed then,
      omega (arith, count, c.loop-left-test.true, length-append arrivals (a ∷ [])),
      no_end_on arrivals a unended (no_end_here side over a (g.P.Party.view c.loop-left.party) (g.P.Party.view c.process_next.new.party) _ _ performed still),
      came_on side g.P.Party.start (g.P.Party.view c.loop-left.party) (g.P.Party.view c.process_next.new.party) input more arrivals a _ _ _ progress is_open spells performed,
    )

pub returns : goal.returns
returns g c =
    let (ready, same, named, is_open, input, arrivals, consumed, count, unended, progress) = c.loop-left.invariant in
    let all : length arrivals ≡ c.args.turns = omega (arith, count, c.loop-left-test.false) in
    record { session = (input, consumed, (arrivals, g.P.Party.view c.loop-left.party, progress, unended, all, is_open)); names = named }
