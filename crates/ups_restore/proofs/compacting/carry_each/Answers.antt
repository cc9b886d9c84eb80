use Rattle.std.proofs.Common.{◌∙◌}
use Rattle.ups_restore.specs.Compacting.{IsNoRefusal}
use Rattle.ups_restore.proofs.Keeping.{kept_more, kept_fault}
use Rattle.ups_restore.proofs.compacting.carry_each.Goals as goal

pub loop-entry-preserved : goal.loop-entry-preserved
loop-entry-preserved c =
    let inv = c.loop-entry.invariant in
    record {
      entered =
          kept_more c.args.history.now c.loop-entry.entry-index c.entry-item.result c.loop-entry-test.true c.entry-item.is c.args.fresh.now.settings c.loop-entry.fresh.settings c.args.steps.now c.loop-entry.fresh.history c.carry.new.fresh.history
          inv.settings c.requires.legally inv.entered c.in_default.ensures.carried;
      settings = c.carry.ensures.settings ∙ inv.settings;
      legal = c.carry.ensures.legal;
    }

pub returns-in-Err-clause-entered : goal.returns-in-Err-clause-entered
returns-in-Err-clause-entered c =
    let inv = c.loop-entry.invariant in
    kept_fault c.args.history.now c.loop-entry.entry-index c.entry-item.result c.loop-entry-test.true c.entry-item.is (IsNoRefusal c.in-Err.fault) c.args.fresh.now.settings c.loop-entry.fresh.settings c.args.steps.now c.loop-entry.fresh.history
    inv.settings c.requires.legally inv.entered c.requires.moments (λ es l was at. c.in-Err.ensures.carried es l was at)
