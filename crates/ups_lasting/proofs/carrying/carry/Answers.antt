use Rattle.std.proofs.Common.{◌≡◌, ◌+◌, length, arith, ◌∙◌, sym}
use Rattle.ups_lasting.proofs.Carried.{carried_on}
use Rattle.ups_lasting.proofs.carrying.carry.Goals as goal

pub returns-clause-carried : goal.returns-clause-carried
returns-clause-carried g c = λ k s i.
    let many : c.in-Some.next ≡ c.args.c.now.read + length c.in_ok-records.records.items = omega (arith, c.in-Some.ensures.1) in
    carried_on s c.args.c.now.fresh.settings (g.D.DraftLedger.kept c.args.ledger.now) c.in_ok-records.records.items _ c.in-Some.next c.args.c.now.survey c.args.c.now.steps c.args.c.now.fresh.history c.carry_part.new.fresh.history _ _ _
    (c.in_ok-records.ensures.read k) (omega arith) (c.args.c.now.same ∙ i.surveyed.settings) many
    (λ front es written are ok was. c.in_ok-carry_part.ensures.carried front es written (are ∙ sym c.deref.ensures.value) ok was) i
