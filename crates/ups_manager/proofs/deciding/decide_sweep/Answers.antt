use Rattle.std.proofs.Common.{inl, refl, ap, ◌∙◌}
use Rattle.std.specs.Prelude.{nat_lt}
use Rattle.ups_life.specs.declared.request.Reply.TheVariants.{Swept}
use Rattle.ups_life.specs.Steps.{past}
use Rattle.ups_life.specs.History.{accepts, decided}
use Rattle.ups_manager.proofs.Entering.{refuses, lacks, done_granted}
use Rattle.ups_manager.proofs.Watchers.{of_time, sweep_decided, small_left, is_some_number}
use Rattle.ups_manager.proofs.Reindexed.{sweep_indexed}
use Rattle.ups_manager.proofs.deciding.decide_sweep.Goals as goal

pub plan_sweep-requires-clause-request : goal.plan_sweep-requires-clause-request
plan_sweep-requires-clause-request g c = of_time c.args.call.now.request c.requires.kind

pub returns-in_default : goal.returns-in_default
returns-in_default g c =
    let s = c.args.configuration.now in
    let es = past c.args.history.now.entries in
    let call = c.args.call.now in
    let some = ap (λ r. accepts (decided s es call r)) (of_time call.request c.requires.kind) ∙ c.in_default.ensures.lacks in
    record {
      answer = lacks s c.args.history.now.entries call _ refl (done_granted g.row.A.Denot (decided s es call call.request) some);
      nothing = refl;
      small = tt;
    }

pub returns-then-count-eq0 : goal.returns-then-count-eq0
returns-then-count-eq0 g c =
    let s = c.args.configuration.now in
    let es = past c.args.history.now.entries in
    let call = c.args.call.now in
    let none = ap (nat_lt 0) c.if-count-eq0.true in
    record {
      answer = inl (refuses s c.args.history.now.entries call (Swept c.swept-count.result) (sweep_decided s es call _ c.swept-count.result c.requires.kind c.in-Ok.ensures.count c.swept-count.ensures) none);
      nothing = none;
      small = tt;
    }

pub returns : goal.returns
returns g c =
    let s = c.args.configuration.now in
    let es = past c.args.history.now.entries in
    let call = c.args.call.now in
    record {
      reply = sweep_decided s es call _ c.swept-count.result c.requires.kind c.in-Ok.ensures.count c.swept-count.ensures;
      accepted = is_some_number c.swept-count.result c.if-count-eq0.false;
      plan = c.in-Ok.ensures.plan;
      small = small_left s es call _ c.requires.kind refl c.requires.stands.small;
      index = sweep_indexed s c.args.history.now.entries c.args.tables.now c.requires.stands.tables call (of_time call.request c.requires.kind) _ c.in-Ok.ensures.plan;
    }
