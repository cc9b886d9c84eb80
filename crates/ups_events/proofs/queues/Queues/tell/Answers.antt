use Rattle.std.proofs.Common.{◌∙◌, arith}
use Rattle.ups_events.specs.Queue.{queue_at}
use Rattle.ups_events.proofs.Tellings.{told_next}
use Rattle.ups_events.proofs.queues.Queues.tell.Goals as goal

pub loop-report-preserved : goal.loop-report-preserved
loop-report-preserved g c = record {
  told_so = told_next c.args.entry c.args.reports.now c.loop-report.report-index c.report-item.result (queue_at c.args.self.now c.args.peer) (queue_at c.loop-report.self c.args.peer) (queue_at c.put.new.self c.args.peer)
      c.loop-report-test.true c.report-item.is c.loop-report.invariant.told_so c.put.ensures.added;
  others = λ p n. c.put.ensures.others p n ∙ c.loop-report.invariant.others p n;
  peers = c.put.ensures.peers ∙ c.loop-report.invariant.peers;
  room = (let a = c.put.ensures.added.spare in omega arith);
}
