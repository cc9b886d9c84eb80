use Rattle.std.proofs.Common.{◌++◌, length}
use Rattle.ups_assoc.specs.Cutting.{fragments, run}
use Rattle.ups_assoc.proofs.Pieces.{pushed-last, pushed-more}
use Rattle.ups_assoc.proofs.cutting.put_run.Goals as goal

pub loop-rest-preserved : goal.loop-rest-preserved
loop-rest-preserved g c =
    let (most, enough, parts) = c.loop-rest.invariant in
    let rest = c.loop-rest.rest.now in
    pushed-more g.row.A.Denot (c.args.out.now.items ++ fragments (length c.args.bytes.now) c.args.size c.args.context c.args.command c.args.bytes.now) c.loop-rest.out.items c.push.new.self.items c.in_ok-fragment.field-0 most c.args.size c.args.context c.args.command rest c.split_at.result.0.now c.split_at.result.1.now c.requires enough c.loop-rest-test.true parts c.split_at.ensures.front c.split_at.ensures.back c.in_ok-fragment.ensures c.in_ok-push.ensures.items

pub returns : goal.returns
unfolding run
returns g c =
    let (most, enough, parts) = c.loop-rest.invariant in
    pushed-last g.row.A.Denot (c.args.out.now.items ++ fragments (length c.args.bytes.now) c.args.size c.args.context c.args.command c.args.bytes.now) c.loop-rest.out.items c.push-2.new.self.items c.in_ok-fragment-2.field-0 most c.args.size c.args.context c.args.command c.loop-rest.rest.now c.loop-rest-test.false parts c.in_ok-fragment-2.ensures c.in_ok-push-2.ensures.items
