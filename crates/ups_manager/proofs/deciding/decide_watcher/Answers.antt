use Rattle.std.proofs.Common.{inl, refl, sym, ap, ◌∙◌}
use Rattle.std.specs.Option.{option_copied}
use Rattle.ups_cycle.specs.Statuses.{is_done}
use Rattle.ups_life.specs.declared.request.Reply.TheVariants.{Status as Answered}
use Rattle.ups_life.specs.Steps.{past}
use Rattle.ups_tables.specs.Keyed.{as_steps}
use Rattle.ups_tables.proofs.Keyed.{steps_kept}
use Rattle.ups_manager.proofs.Entering.{refuses, lacks}
use Rattle.ups_manager.proofs.Watchers.{status_is, watcher_decided, of_watcher_of_no_step, small_same}
use Rattle.ups_manager.proofs.Reindexed.{same_indexed}
use Rattle.ups_manager.proofs.deciding.decide_watcher.Goals as goal

pub plan_watcher-requires-clause-accepted : goal.plan_watcher-requires-clause-accepted
plan_watcher-requires-clause-accepted g c =
    let s = c.args.configuration.now in
    let call = c.args.call.now in
    ap is_done (sym (status_is s (past c.args.history.now.entries) (as_steps c.args.tables.now.steps.entries) call.caller call.ae call.moment call.request c.peers.result.now c.named_step.result (option_copied c.known-row.result) c.watcher_status-status.result c.requires.kind
    (steps_kept s c.args.history.now.entries c.args.tables.now c.requires.stands.tables) c.peers.ensures c.named_step.ensures c.known-row.ensures c.watcher_status-status.ensures)) ∙ sym c.is_done.ensures ∙ c.if-is_done.true

pub returns-else-is_done : goal.returns-else-is_done
returns-else-is_done g c =
    let s = c.args.configuration.now in
    let call = c.args.call.now in
    let no = sym c.is_done.ensures ∙ c.if-is_done.false in
    record {
      answer = inl
          (refuses s c.args.history.now.entries call (Answered c.watcher_status-status.result)
          (watcher_decided s (past c.args.history.now.entries) (as_steps c.args.tables.now.steps.entries) call.caller call.ae call.moment call.request c.peers.result.now c.named_step.result (option_copied c.known-row.result) c.watcher_status-status.result c.requires.kind
          (steps_kept c.args.configuration.now c.args.history.now.entries c.args.tables.now c.requires.stands.tables) c.peers.ensures c.named_step.ensures c.known-row.ensures c.watcher_status-status.ensures)
          no);
      nothing = no;
      small = tt;
    }

pub returns-in-Ok : goal.returns-in-Ok
returns-in-Ok g c =
    let s = c.args.configuration.now in
    let es = past c.args.history.now.entries in
    let call = c.args.call.now in
    record {
      reply = watcher_decided s es (as_steps c.args.tables.now.steps.entries) call.caller call.ae call.moment call.request c.peers.result.now c.named_step.result (option_copied c.known-row.result) c.watcher_status-status.result c.requires.kind
          (steps_kept c.args.configuration.now c.args.history.now.entries c.args.tables.now c.requires.stands.tables) c.peers.ensures c.named_step.ensures c.known-row.ensures c.watcher_status-status.ensures;
      accepted = sym c.is_done.ensures ∙ c.if-is_done.true;
      plan = c.in-Ok.ensures;
      small = small_same s es call _ (of_watcher_of_no_step call.request c.requires.kind) refl c.requires.stands.small;
      index = same_indexed s es call (of_watcher_of_no_step call.request c.requires.kind);
    }

pub returns-in-Err : goal.returns-in-Err
returns-in-Err g c =
    let s = c.args.configuration.now in
    let call = c.args.call.now in
    record {
      answer = lacks s c.args.history.now.entries call (Answered c.watcher_status-status.result)
          (watcher_decided s (past c.args.history.now.entries) (as_steps c.args.tables.now.steps.entries) call.caller call.ae call.moment call.request c.peers.result.now c.named_step.result (option_copied c.known-row.result) c.watcher_status-status.result c.requires.kind
          (steps_kept c.args.configuration.now c.args.history.now.entries c.args.tables.now c.requires.stands.tables) c.peers.ensures c.named_step.ensures c.known-row.ensures c.watcher_status-status.ensures)
          (sym c.is_done.ensures ∙ c.if-is_done.true);
      nothing = refl;
      small = tt;
    }
