use Rattle.std.proofs.Common.{◌≤◌, List, ◌++◌, length, ap, sym, refl, ◌∙◌, arith}
use Rattle.std.proofs.lemmas.List.{append-nil, take_all}
use Rattle.std.specs.Global.{Global}
use Rattle.ups_life.specs.declared.entry.Entry.{Entry}
use Rattle.ups_lasting.proofs.Surveyed.{survey_more, all_entries}
use Rattle.ups_lasting.proofs.surveying.survey_all.Goals as goal

pub loop-stored-init : goal.loop-stored-init
loop-stored-init c = record {
  entered = λ es written are. sym (append-nil c.args.whole.now.history);
  more = omega arith;
  settings = refl;
}

pub loop-stored-preserved : goal.loop-stored-preserved
loop-stored-preserved c = record {
  entered = λ es written are.
      survey_more c.args.records.now es c.loop-stored.stored-index c.stored-item.result c.args.whole.now.history c.loop-stored.whole.history c.survey_record.new.whole.history c.loop-stored-test.true c.stored-item.is written are
      (c.loop-stored.invariant.entered es written are) c.in_ok-survey_record.ensures.entered;
  more = omega (arith, c.in_ok-survey_record.ensures.more, c.loop-stored.invariant.more);
  settings = c.survey_record.ensures.settings ∙ c.loop-stored.invariant.settings;
}

pub returns-clause-entered : goal.returns-clause-entered
returns-clause-entered c = λ es written are.
    let all : length es ≤ c.loop-stored.stored-index = omega (arith, all_entries es c.args.records.now are, c.loop-stored-test.false) in
    c.loop-stored.invariant.entered es written are ∙ ap (λ (l : List (Entry Global)). c.args.whole.now.history ++ l) (take_all c.loop-stored.stored-index es all)
