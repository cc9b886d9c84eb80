use Rattle.std.proofs.Common.{List, inl, refl, sym, subst, ◌∙◌}
use Rattle.std.specs.Global.{Global}
use Rattle.ups_journal.specs.declared.record.Record.{Record}
use Rattle.ups_compact.specs.Shifts.{less_by}
use Rattle.ups_lasting.specs.Standing.{StandsForLog}
use Rattle.ups_lasting.proofs.GoingOn.{some_stands}
use Rattle.ups_lasting.proofs.Turning.{agreed_resting, covers_resting}
use Rattle.ups_lasting.proofs.lasting.LastingLedger.over.Goals as goal

pub invariant_of-result-clause-stands : goal.invariant_of-result-clause-stands
invariant_of-result-clause-stands g c = λ k.
    subst (λ (rs : List (Record Global)). StandsForLog c.new.result.empty.settings rs c.of.result (less_by c.none.result)) (c.of.ensures ∙ sym c.of-2.ensures)
    (c.what_stands_for_a_log_goes_on.ensures.itself c.new.result.empty.settings c.of.result (less_by c.none.result) c.none.ensures.less)

pub invariant_of-result-clause-left : goal.invariant_of-result-clause-left
invariant_of-result-clause-left g c = λ first found can.
    let s = c.new.result.empty.settings in
    let less = less_by c.none.result in
    let is = c.requires.left first found can in
    ∣ (c.of.result, inl (is ∙ sym c.of-2.ensures, refl), some_stands s found c.of.result c.of.result less (is ∙ sym c.of.ensures) (c.what_stands_for_a_log_goes_on.ensures.itself s c.of.result less c.none.ensures.less)) ∣₁

pub invariant_of-result-clause-agrees : goal.invariant_of-result-clause-agrees
invariant_of-result-clause-agrees g c = agreed_resting g.D.DraftLedger c.new.result.empty.settings c.new.result.begun c.args.ledger c.args.ledger c.new.result.stage c.new.ensures.stage

pub invariant_of-result-clause-covers : goal.invariant_of-result-clause-covers
invariant_of-result-clause-covers g c = covers_resting g.D.DraftLedger c.new.result.empty.settings c.new.result.begun c.args.ledger c.args.ledger c.new.result.stage c.new.ensures.stage
