use Rattle.std.proofs.Common.{Bool, List, if◌then◌else◌, Some, sym, ap, ◌∙◌}
use Rattle.std.specs.Str.{bytes_eq}
use Rattle.ups_life.specs.declared.peer.Peer.{Peer}
use Rattle.ups_life.specs.declared.watching.Subscription.{Subscription}
use Rattle.ups_life.specs.Steps.{past, row}
use Rattle.ups_life.specs.Watching.{takes_in, granted}
use Rattle.ups_plain.proofs.Walks.{if_both, if_neither}
use Rattle.ups_plain.proofs.walking.subscribed.Goals as goal

pub returns-in_ok-row-clause-watching : goal.returns-in_ok-row-clause-watching
returns-in_ok-row-clause-watching g c =
    let s = c.args.configuration.now in
    let r = row s (past c.args.earlier.now) c.args.step in
    let how = granted s.peers c.args.ae c.args.lock in
    if_both (bytes_eq c.args.receiver c.args.ae) (takes_in c.args.target.now c.args.step r) (Some how) c.args.before c.if_taken_in.result (sym c.same_ae.ensures ∙ c.if-same_ae.true)
    (c.if_taken_in.ensures
    ∙ ap (λ (b : Bool). if b then Some c.granted-how.result else c.args.before) (c.takes_in.ensures ∙ ap (takes_in c.args.target.now c.args.step) c.in_ok-row.ensures)
    ∙ ap (λ (h : Subscription). if takes_in c.args.target.now c.args.step r then Some h else c.args.before) (c.granted-how.ensures ∙ ap (λ (ps : List Peer). granted ps c.args.ae c.args.lock) c.peers.ensures))

pub returns-else-same_ae-clause-watching : goal.returns-else-same_ae-clause-watching
returns-else-same_ae-clause-watching g c = if_neither (bytes_eq c.args.receiver c.args.ae) _ _ c.args.before (sym c.same_ae.ensures ∙ c.if-same_ae.false)

pub row-requires-clause-moments : goal.row-requires-clause-moments
row-requires-clause-moments g c = c.requires.moments

pub row-requires-clause-offset : goal.row-requires-clause-offset
row-requires-clause-offset g c = c.requires.offset
