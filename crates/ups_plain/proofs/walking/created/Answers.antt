use Rattle.std.proofs.Common.{List, sym, ap, ◌∙◌}
use Rattle.std.specs.Str.{bytes_eq}
use Rattle.ups_dataset.specs.Data.{El}
use Rattle.ups_life.specs.declared.peer.Peer.{Peer}
use Rattle.ups_life.specs.Steps.{past, row}
use Rattle.ups_life.specs.Watching.{cover}
use Rattle.ups_plain.proofs.Walks.{if_so, if_not}
use Rattle.ups_plain.proofs.walking.created.Goals as goal

pub returns-in_ok-row-clause-watching : goal.returns-in_ok-row-clause-watching
returns-in_ok-row-clause-watching g c =
    let s = c.args.configuration.now in
    let es = past c.args.earlier.now in
    if_so (bytes_eq c.args.new c.args.step) (cover s.peers es c.args.ae (row s (past c.args.so_far.now) c.args.step)) c.args.before c.cover.result (sym c.same_step.ensures ∙ c.if-same_step.true)
    (c.cover.ensures ∙ ap (λ (ps : List Peer). cover ps es c.args.ae c.in_ok-row.row) c.peers.ensures ∙ ap (λ (r : List El). cover s.peers es c.args.ae r) c.in_ok-row.ensures)

pub returns-else-same_step-clause-watching : goal.returns-else-same_step-clause-watching
returns-else-same_step-clause-watching g c = if_not (bytes_eq c.args.new c.args.step) _ c.args.before (sym c.same_step.ensures ∙ c.if-same_step.false)

pub row-requires-clause-moments : goal.row-requires-clause-moments
row-requires-clause-moments g c = c.requires.moments

pub row-requires-clause-offset : goal.row-requires-clause-offset
row-requires-clause-offset g c = c.requires.offset
