use Rattle.std.proofs.Common.{inr, sym, subst, ◌∙◌, arith}
use Rattle.ups_life.specs.Settings.{Settings}
use Rattle.ups_compact.specs.Shifts.{less_by}
use Rattle.ups_lasting.specs.Doubting.{is_exchange}
use Rattle.ups_lasting.specs.Leaving.{LeavesStanding}
use Rattle.ups_lasting.specs.Standing.{StandsForLog}
use Rattle.ups_lasting.proofs.Turning.{agreed_freeing, covers_freeing}
use Rattle.ups_lasting.proofs.lasting.LastingLedgerLedger.tend.Goals as goal

pub invariant_of-self : goal.invariant_of-self
invariant_of-self g c =
    let l = c.args.self.now in
    record {
      counted = l.counted;
      now = l.now;
      stands = λ k. subst (λ (x : Settings). StandsForLog x l.content l.log (less_by l.shifts)) (sym c.begin_if.ensures.settings) (l.stands k);
      left = subst (λ (x : Settings). LeavesStanding g.D.DraftLedger x l.ledger l.content l.log l.tried (less_by l.shifts) (is_exchange l.doubt)) (sym c.begin_if.ensures.settings) l.left;
      agrees = λ k. c.begin_if.ensures.agrees (g.D.DraftLedger.kept l.ledger) (g.D.DraftLedger.drafts l.ledger) (l.agrees k);
      sure = l.sure;
      unsound = l.unsound;
      covers = λ k. c.begin_if.ensures.covers (g.D.DraftLedger.kept l.ledger) (let many = c.len-records.ensures k in omega (arith, many)) (l.covers k);
    }

pub invariant_of-self-in-Err-clause-stands : goal.invariant_of-self-in-Err-clause-stands
invariant_of-self-in-Err-clause-stands g c = λ k.
    let l = c.args.self.now in
    subst (λ (x : Settings). StandsForLog x l.content l.log (less_by l.shifts)) (sym (c.give_up.ensures.settings ∙ c.begin_if.ensures.settings)) (l.stands k)

pub invariant_of-self-in-Err-clause-left : goal.invariant_of-self-in-Err-clause-left
invariant_of-self-in-Err-clause-left g c =
    let l = c.args.self.now in
    subst (λ (x : Settings). LeavesStanding g.D.DraftLedger x l.ledger l.content l.log l.tried (less_by l.shifts) (is_exchange l.doubt)) (sym (c.give_up.ensures.settings ∙ c.begin_if.ensures.settings)) l.left

pub invariant_of-self-in-Err-clause-agrees : goal.invariant_of-self-in-Err-clause-agrees
invariant_of-self-in-Err-clause-agrees g c = agreed_freeing g.D.DraftLedger c.give_up.new.self.empty.settings c.give_up.new.self.begun c.args.self.now.ledger c.args.self.now.ledger c.give_up.new.self.stage c.give_up.ensures.stage

pub returns-in-Ok-clause-crash : goal.returns-in-Ok-clause-crash
returns-in-Ok-clause-crash g c = λ first rs leaves. inr (c.turn.ensures.crash first rs leaves)

pub invariant_of-self-in-Err-clause-covers : goal.invariant_of-self-in-Err-clause-covers
invariant_of-self-in-Err-clause-covers g c = covers_freeing g.D.DraftLedger c.give_up.new.self.empty.settings c.give_up.new.self.begun c.args.self.now.ledger c.args.self.now.ledger c.give_up.new.self.stage c.give_up.ensures.stage
