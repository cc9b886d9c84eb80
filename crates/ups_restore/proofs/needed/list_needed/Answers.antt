use Rattle.ups_life.specs.Steps.{past}
use Rattle.ups_life.specs.Watching.{held}
use Rattle.ups_restore.proofs.Needing.{peer_more}
use Rattle.ups_restore.proofs.needed.list_needed.Goals as goal

pub loop-peer-preserved : goal.loop-peer-preserved
loop-peer-preserved c =
    peer_more c.args.manager.now.settings (past c.args.manager.now.history) (held c.args.manager.now.settings (past c.args.manager.now.history)) c.peers-peers.result.now c.loop-peer.peer-index c.peer-item.result c.loop-peer.steps.items
    c.add_pending.new.steps.items c.loop-peer-test.true c.peer-item.is c.loop-peer.invariant c.in_ok-add_pending.ensures.added
