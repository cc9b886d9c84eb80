use Rattle.std.proofs.Common.{[], ◌∷◌, ◌++◌, List, take, refl, sym, subst, ap, ◌∙◌}
use Rattle.std.proofs.lemmas.List.{append_assoc, append-nil, take_all}
use Rattle.ups_life.specs.declared.entry.Entry.{Entry}
use Rattle.ups_journal.specs.declared.record.Record.{Record}
use Rattle.ups_restore.specs.Leaving.{AreTaken}
use Rattle.ups_restore.proofs.Going.{next, all_taken}
use Rattle.ups_restore.proofs.Taking.{none_taken, taken_more, stops_taking}
use Rattle.ups_restore.proofs.leaving.restore_each.Goals as goal

pub loop-place-init : goal.loop-place-init
loop-place-init g c = record {
  taken = none_taken c.args.manager.now.settings c.args.manager.now.history c.args.may_be_left_out c.new-counts.result c.new-counts.ensures;
  only = λ es a. sym (append-nil c.args.manager.now.history);
  settings = refl;
  legal = c.history-history.ensures.legal;
}

pub returns-in-Err-clause-only : goal.returns-in-Err-clause-only
returns-in-Err-clause-only g c = λ es a.
    let n = next c.args.manager.now.settings c.loop-place.manager.settings c.args.manager.now.history c.args.records.now es c.loop-place.place c.index-records-place.result c.loop-place.manager.history
    c.loop-place-test.true c.index-records-place.is a (c.loop-place.invariant.only es a) c.loop-place.invariant.settings in
    c.in-Err.ensures.only n.0 n.1

pub returns-in-Err-clause-stops : goal.returns-in-Err-clause-stops
returns-in-Err-clause-stops g c =
    stops_taking c.args.manager.now.settings c.loop-place.manager.settings c.args.manager.now.history c.args.records.now c.args.may_be_left_out c.loop-place.place c.index-records-place.result
    c.loop-place.manager.history c.take.new.manager.history c.loop-place.counts _ c.loop-place-test.true c.index-records-place.is c.loop-place.invariant.settings c.loop-place.invariant.taken c.in-Err.ensures.stays
    refl refl c.in-Err.ensures.why

pub loop-place-preserved : goal.loop-place-preserved
loop-place-preserved g c = record {
  taken = taken_more c.args.manager.now.settings c.loop-place.manager.settings c.args.manager.now.history c.args.records.now c.args.may_be_left_out c.loop-place.place c.index-records-place.result
      c.loop-place.manager.history c.take.new.manager.history c.loop-place.counts c.take.new.self _ c.loop-place-test.true c.index-records-place.is c.loop-place.invariant.settings c.loop-place.invariant.taken
      c.in_default.ensures.became c.in_default.ensures.counts;
  only = λ es a.
      let n = next c.args.manager.now.settings c.loop-place.manager.settings c.args.manager.now.history c.args.records.now es c.loop-place.place c.index-records-place.result c.loop-place.manager.history
      c.loop-place-test.true c.index-records-place.is a (c.loop-place.invariant.only es a) c.loop-place.invariant.settings in
      (c.in_default.ensures.only n.0 n.1).1
      ∙ (ap (λ (l : List (Entry _)). l ++ n.0 ∷ []) (c.loop-place.invariant.only es a)
      ∙ (append_assoc c.args.manager.now.history (take c.loop-place.place es) (n.0 ∷ []) ∙ ap (λ (l : List (Entry _)). c.args.manager.now.history ++ l) (sym n.2)));
  settings = c.take.ensures.settings ∙ c.loop-place.invariant.settings;
  legal = c.take.ensures.legal;
}

pub returns-clause-only : goal.returns-clause-only
returns-clause-only g c = λ es a.
    c.loop-place.invariant.only es a
    ∙ ap (λ (l : List (Entry _)). c.args.manager.now.history ++ l) (all_taken c.args.manager.now.settings c.args.manager.now.history c.args.records.now es c.loop-place.place a c.loop-place-test.false)

pub returns-clause-taken : goal.returns-clause-taken
returns-clause-taken g c =
    subst (λ (l : List (Record _)). AreTaken c.args.manager.now.settings c.args.manager.now.history l c.args.may_be_left_out c.loop-place.counts c.loop-place.manager.history)
    (take_all c.loop-place.place c.args.records.now c.loop-place-test.false) c.loop-place.invariant.taken
