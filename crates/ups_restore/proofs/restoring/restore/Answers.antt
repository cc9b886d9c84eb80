use Rattle.std.proofs.Common.{[], ◌∷◌, ◌++◌, List, refl, sym, ap, ◌∙◌}
use Rattle.std.proofs.lemmas.List.{append_assoc, append-nil}
use Rattle.std.proofs.Common.{take}
use Rattle.ups_life.specs.declared.entry.Entry.{Entry}
use Rattle.ups_restore.proofs.Going.{goes_on, next, all_taken, stops_at}
use Rattle.ups_restore.proofs.restoring.restore.Goals as goal

pub loop-place-init : goal.loop-place-init
loop-place-init g c = record {
  goes = ([], refl, sym (append-nil c.args.manager.now.history));
  only = λ es a. sym (append-nil c.args.manager.now.history);
  settings = refl;
  legal = c.history-history.ensures.legal;
}

pub returns-in-Err-clause-only : goal.returns-in-Err-clause-only
returns-in-Err-clause-only g c = λ es a.
    let n = next c.args.manager.now.settings c.loop-place.manager.settings c.args.manager.now.history c.args.records.now es c.loop-place.place c.index-records-place.result c.loop-place.manager.history
    c.loop-place-test.true c.index-records-place.is a (c.loop-place.invariant.only es a) c.loop-place.invariant.settings in
    c.in-Err.ensures.only n.0 n.1

pub returns-in-Err-clause-stops : goal.returns-in-Err-clause-stops
returns-in-Err-clause-stops g c =
    stops_at c.args.manager.now.settings c.loop-place.manager.settings c.args.manager.now.history c.args.records.now c.loop-place.place c.index-records-place.result c.loop-place.manager.history
    c.restore_one.new.manager.history _ c.loop-place-test.true c.index-records-place.is c.loop-place.invariant.goes c.loop-place.invariant.settings c.in-Err.ensures.stays refl refl c.in-Err.ensures.why

pub loop-place-preserved : goal.loop-place-preserved
loop-place-preserved g c = record {
  goes = goes_on c.args.manager.now.history c.args.records.now c.loop-place.place c.index-records-place.result c.loop-place.manager.history c.restore_one.new.manager.history
      c.loop-place-test.true c.index-records-place.is c.loop-place.invariant.goes c.in_default.ensures.entered;
  only = λ es a.
      let n = next c.args.manager.now.settings c.loop-place.manager.settings c.args.manager.now.history c.args.records.now es c.loop-place.place c.index-records-place.result c.loop-place.manager.history
      c.loop-place-test.true c.index-records-place.is a (c.loop-place.invariant.only es a) c.loop-place.invariant.settings in
      c.in_default.ensures.only n.0 n.1
      ∙ (ap (λ (l : List (Entry _)). l ++ n.0 ∷ []) (c.loop-place.invariant.only es a)
      ∙ (append_assoc c.args.manager.now.history (take c.loop-place.place es) (n.0 ∷ []) ∙ ap (λ (l : List (Entry _)). c.args.manager.now.history ++ l) (sym n.2)));
  settings = c.restore_one.ensures.settings ∙ c.loop-place.invariant.settings;
  legal = c.restore_one.ensures.legal;
}

pub returns-clause-only : goal.returns-clause-only
returns-clause-only g c = λ es a.
    c.loop-place.invariant.only es a
    ∙ ap (λ (l : List (Entry _)). c.args.manager.now.history ++ l) (all_taken c.args.manager.now.settings c.args.manager.now.history c.args.records.now es c.loop-place.place a c.loop-place-test.false)
