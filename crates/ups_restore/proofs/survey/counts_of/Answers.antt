use Rattle.std.proofs.Common.{◌∙◌, ap}
use Rattle.ups_life.specs.declared.peer.Peer.{Peer}
use Rattle.ups_life.specs.Steps.{past}
use Rattle.ups_restore.specs.Surveying.{count_in, counts_in}
use Rattle.ups_restore.proofs.Between.{made_more, made_all}
use Rattle.ups_restore.proofs.survey.counts_of.Goals as goal

pub loop-peer-preserved : goal.loop-peer-preserved
loop-peer-preserved c =
    let m = c.args.manager.now in
    made_more (λ (p : Peer). count_in m.settings (past m.history) p.ae) c.peers-peers.result.now c.loop-peer.peer-index c.peer-item.result c.loop-peer.counts.items c.push.new.self.items c.count_of-count.result c.loop-peer-test.true c.peer-item.is
    c.loop-peer.invariant c.count_of-count.ensures c.in_ok-push.ensures.items

pub returns : goal.returns
returns c =
    let m = c.args.manager.now in
    made_all (λ (p : Peer). count_in m.settings (past m.history) p.ae) c.peers-peers.result.now c.loop-peer.peer-index c.loop-peer.counts.items c.loop-peer-test.false c.loop-peer.invariant
    ∙ ap (counts_in m.settings (past m.history)) c.peers-peers.ensures
