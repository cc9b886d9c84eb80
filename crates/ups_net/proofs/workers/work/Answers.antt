use Rattle.std.proofs.Common.{◌∙◌}
use native.Mathlib.Numerals.{unary_clauses}
use Rattle.ups_net.proofs.Served.{serves_more}
use Rattle.ups_net.proofs.workers.work.Goals as goal

pub loop-preserved : goal.loop-preserved
loop-preserved g c =
    let served = c.serve_one-after.ensures.serves in
    let options = c.args.options.now in
    record {
      stays = served.same.0 ∙ c.loop.invariant.stays;
      served = simp unary_clauses (serves_more options.config options.limits.turns c.loop.counter c.args.pass c.loop.pass c.serve_one-after.result.0 c.serve_one-after.result.1 c.loop.invariant.served served);
    }
