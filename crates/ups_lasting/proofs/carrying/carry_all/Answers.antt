use Rattle.std.proofs.Common.{◌≤◌, List, ◌++◌, length, ap, sym, refl, ◌∙◌, arith}
use Rattle.std.proofs.lemmas.List.{append-nil, take_all}
use Rattle.std.specs.Global.{Global}
use Rattle.ups_life.specs.declared.entry.Entry.{Entry}
use Rattle.ups_life.specs.Steps.{past}
use Rattle.ups_compact.specs.Compacting.{left_for}
use Rattle.ups_lasting.proofs.Carried.{carry_more}
use Rattle.ups_lasting.proofs.Surveyed.{all_entries}
use Rattle.ups_lasting.proofs.carrying.carry_all.Goals as goal

pub loop-stored-init : goal.loop-stored-init
loop-stored-init c = record {
  carried = λ front es written are ok was. was ∙ ap (λ (l : List (Entry Global)). left_for c.args.fresh.now.settings c.args.steps.now (past l)) (sym (append-nil front));
  settings = refl;
}

pub loop-stored-preserved : goal.loop-stored-preserved
loop-stored-preserved c = record {
  carried = λ front es written are ok was.
      carry_more c.args.fresh.now.settings c.loop-stored.fresh.settings c.args.steps.now c.args.records.now front es c.loop-stored.stored-index c.stored-item.result c.loop-stored.fresh.history c.carry_record.new.fresh.history
      c.loop-stored-test.true c.stored-item.is c.loop-stored.invariant.settings written are ok (c.loop-stored.invariant.carried front es written are ok was) c.in-Ok.ensures.carried;
  settings = c.carry_record.ensures.settings ∙ c.loop-stored.invariant.settings;
}

pub returns-clause-carried : goal.returns-clause-carried
returns-clause-carried c = λ front es written are ok was.
    let all : length es ≤ c.loop-stored.stored-index = omega (arith, all_entries es c.args.records.now are, c.loop-stored-test.false) in
    c.loop-stored.invariant.carried front es written are ok was
    ∙ ap (λ (l : List (Entry Global)). left_for c.args.fresh.now.settings c.args.steps.now (past (front ++ l))) (take_all c.loop-stored.stored-index es all)
