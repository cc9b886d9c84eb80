use Rattle.std.proofs.Common.{sym, ap, ◌∙◌}
use Rattle.std.specs.List.{list_any}
use Rattle.ups_life.specs.declared.peer.Peer.{Peer}
use Rattle.ups_life.specs.Steps.{past}
use Rattle.ups_life.specs.Watching.{watch, is_locked}
use Rattle.ups_plain.proofs.Walks.{any_found, any_later, any_none}
use Rattle.ups_plain.proofs.walking.is_kept.Goals as goal

pub returns-then-is_locked : goal.returns-then-is_locked
returns-then-is_locked g c =
    let keeps = λ (p : Peer). is_locked (watch c.args.configuration.now (past c.args.entries.now) p.ae c.args.step) in
    any_found keeps c.peers-peers.result.now c.loop-peer.peer-index c.peer-item.result c.loop-peer-test.true c.peer-item.is c.loop-peer.invariant (ap is_locked (sym c.in_ok-watch.ensures) ∙ sym c.is_locked.ensures ∙ c.if-is_locked.true)
    ∙ ap (list_any keeps) c.peers-peers.ensures

pub loop-peer-preserved : goal.loop-peer-preserved
loop-peer-preserved g c =
    any_later (λ (p : Peer). is_locked (watch c.args.configuration.now (past c.args.entries.now) p.ae c.args.step)) c.peers-peers.result.now c.loop-peer.peer-index c.peer-item.result c.loop-peer-test.true c.peer-item.is c.loop-peer.invariant
    (ap is_locked (sym c.in_ok-watch.ensures) ∙ sym c.is_locked.ensures ∙ c.if-is_locked.false)

pub returns : goal.returns
returns g c =
    let keeps = λ (p : Peer). is_locked (watch c.args.configuration.now (past c.args.entries.now) p.ae c.args.step) in
    any_none keeps c.peers-peers.result.now c.loop-peer.peer-index c.loop-peer-test.false c.loop-peer.invariant ∙ ap (list_any keeps) c.peers-peers.ensures

pub watch-requires-clause-moments : goal.watch-requires-clause-moments
watch-requires-clause-moments g c = c.requires.moments

pub watch-requires-clause-offset : goal.watch-requires-clause-offset
watch-requires-clause-offset g c = c.requires.offset
