use Rattle.std.proofs.Common.{◌≡◌, ◌+◌, length, ◌∙◌, sym, arith}
use Rattle.std.proofs.lemmas.Bool.Decides.{nat_tests}
use Rattle.ups_lasting.specs.declared.stage.TheConstants.{SLICE}
use Rattle.ups_lasting.proofs.Followed.{all_read}
use Rattle.ups_lasting.proofs.Surveyed.{surveyed_on}
use Rattle.ups_lasting.proofs.surveying.survey.Goals as goal

pub returns-clause-surveyed : goal.returns-clause-surveyed
returns-clause-surveyed g c = λ k s i.
    let more : length c.survey_part.new.whole.history ≡ length c.args.whole.now.history + length c.in_ok-records.records.items = cc (c.in_ok-survey_part.ensures.more) in
    let read = c.in_ok-records.ensures.read k in
    surveyed_on s (g.D.DraftLedger.kept c.args.ledger.now) c.in_ok-records.records.items SLICE c.args.whole.now c.survey_part.new.whole (rw c.entries.ensures.count at read) c.survey_part.ensures.settings more
    (λ es written are. c.in_ok-survey_part.ensures.entered es written (are ∙ sym c.deref.ensures.value)) i

pub returns-then-is_empty-clause-all : goal.returns-then-is_empty-clause-all
returns-then-is_empty-clause-all g c = λ _ k low.
    let none : length c.in_ok-records.records.items ≡ 0 = grind (arith, nat_tests) in
    let n = length c.args.whole.now.history in
    let read = c.in_ok-records.ensures.read k in
    let all = all_read (g.D.DraftLedger.kept c.args.ledger.now) c.in_ok-records.records.items n SLICE n (rw c.entries.ensures.count at read) (omega (arith, none)) (omega (arith, none)) in
    omega (arith, low, all)

pub returns-clause-all : goal.returns-clause-all
returns-clause-all g c = λ is k low. grind (arith, nat_tests)
