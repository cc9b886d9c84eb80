use Rattle.std.proofs.Common.{rules, ◌∙◌, is_some, refl, subst, sym}
use native.Mathlib.Numerals.{unary_clauses}
use Rattle.ups_ledger.proofs.Leaving.{go_longer, go_on, go_same}
use Rattle.ups_net.specs.Sweeping.{LooksIfKept}
use Rattle.ups_net.proofs.Watching.{sweeps_more, swept_on}
use Rattle.ups_net.proofs.sweeping.sweep.Goals as goal

pub loop-round-init : goal.loop-round-init
loop-round-init g c = record {
  stays = c.requires.here;
  swept = search rules;
  keeps = refl;
  goes_on = go_same g.L.Ledger c.args.keeper c.args.pass.now.seen;
}

pub loop-round-preserved : goal.loop-round-preserved
loop-round-preserved g c =
    let was = c.loop-round.invariant in
    let paused = c.before_round-keeper.ensures in
    let once = c.sweep_once.ensures.sweeps in
    let more = swept_on c.args.options.now.config.ae _ _ once in
    let lets = c.maintain.ensures.watched in
    let looks = subst (λ b. LooksIfKept b c.loop-round.pass c.before_round-keeper.new.pass) was.keeps paused.looks in
    record {
      stays = c.maintain.ensures.stays ∙ (c.sweep_once.ensures.stays ∙ (paused.stays ∙ was.stays));
      swept = simp unary_clauses (sweeps_more c.args.options.now.config.ae (is_some c.args.keeper) c.loop-round.round c.args.pass.now c.loop-round.pass c.before_round-keeper.new.pass c.sweep_once.new.pass c.maintain.new.pass was.swept looks once lets);
      keeps = paused.keeps ∙ was.keeps;
      goes_on = go_on g.L.Ledger c.args.keeper c.loop-round.keeper c.before_round-keeper.result c.args.pass.now.seen c.loop-round.pass.seen c.maintain.new.pass.seen was.goes_on
          (go_on g.L.Ledger _ _ _ _ _ _ paused.goes_on (go_on g.L.Ledger _ _ _ _ _ _ (go_longer g.L.Ledger c.before_round-keeper.result c.before_round-keeper.new.pass.seen c.sweep_once.new.pass.seen (more.0, sym more.1))
          (go_longer g.L.Ledger c.before_round-keeper.result c.sweep_once.new.pass.seen c.maintain.new.pass.seen (lets.between, sym lets.seen))));
    }
