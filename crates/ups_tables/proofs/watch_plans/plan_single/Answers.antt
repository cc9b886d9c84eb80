use Rattle.std.proofs.Common.{◌∷◌, [], List, ap, ◌∙◌}
use Rattle.ups_life.specs.declared.peer.Peer.{Peer}
use Rattle.ups_life.specs.declared.row.Row.{Row}
use Rattle.ups_life.specs.declared.event.Report.{Report}
use Rattle.ups_life.specs.Steps.{past}
use Rattle.ups_life.specs.Watching.{granted}
use Rattle.ups_tables.specs.Live.{report_now}
use Rattle.ups_tables.proofs.Planned.{found_held, found_row, single_held, not_missing}
use Rattle.ups_tables.proofs.watch_plans.plan_single.Goals as goal

pub returns : goal.returns
returns g c =
    let s = c.args.configuration.now in
    record {
      receiver = c.args.receiver;
      place = c.requires.place;
      lock = c.args.lock;
      request = c.requires.request;
      how_is = c.granted-subscription.ensures ∙ ap (λ (ps : List Peer). granted ps c.args.receiver c.args.lock) c.peers.ensures;
      here = found_held s c.args.history.now.entries c.args.tables.now c.requires.stands c.args.step c.in-Some.held.now c.in-Some.ensures;
      news = c.in_ok-news.ensures ∙ ap (λ (x : Report). x ∷ []) c.report_held.ensures ∙ ap (λ (r : Row g.row.A.Denot). report_now c.args.step r ∷ []) (found_row s c.args.history.now.entries c.args.tables.now c.requires.stands c.args.step c.in-Some.held.now c.in-Some.ensures);
    }

pub unreachable-requires : goal.unreachable-requires
unreachable-requires g c =
    not_missing c.args.configuration.now c.args.history.now.entries c.args.tables.now c.requires.stands c.args.step
    (single_held c.args.configuration.now (past c.args.history.now.entries) c.args.entry.now c.requires.accepted c.args.step c.args.receiver c.args.lock c.requires.request) c.in_default.ensures
