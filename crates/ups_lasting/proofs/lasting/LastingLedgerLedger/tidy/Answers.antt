use Rattle.std.proofs.Common.{inl, inr}
use Rattle.ups_compact.specs.Shifts.{less_by}
use Rattle.ups_lasting.specs.Doubting.{is_exchange}
use Rattle.ups_lasting.proofs.GoingOn.{agreed_same, left_staying}
use Rattle.ups_lasting.proofs.Turning.{covers_same}
use Rattle.ups_lasting.proofs.lasting.LastingLedgerLedger.tidy.Goals as goal

pub invariant_of-self-clause-left : goal.invariant_of-self-clause-left
invariant_of-self-clause-left g c =
    let l = c.args.self.now in
    left_staying l.compaction.empty.settings g.D.DraftLedger l.ledger c.tidy.new.self l.content l.log l.tried (less_by l.shifts) (is_exchange l.doubt) l.now l.stands c.tidy.ensures.first
    (λ first rs can. elim (c.tidy.ensures.crash rs can) [ inl before ↦ inl before | inr x ↦ inr (x.0 (c.tidy.ensures.first first), x.1) ]) l.left

pub invariant_of-self-clause-agrees : goal.invariant_of-self-clause-agrees
invariant_of-self-clause-agrees g c =
    let l = c.args.self.now in
    agreed_same l.compaction.empty.settings g.D.DraftLedger l.ledger c.tidy.new.self l.content l.log l.tried (less_by l.shifts) l.compaction.stage c.tidy.ensures.sound c.tidy.ensures.same c.tidy.ensures.drafts l.agrees

pub invariant_of-self-clause-covers : goal.invariant_of-self-clause-covers
invariant_of-self-clause-covers g c =
    let l = c.args.self.now in
    covers_same g.D.DraftLedger l.compaction.empty.settings l.compaction.begun l.ledger c.tidy.new.self l.compaction.stage c.tidy.ensures.sound c.tidy.ensures.same l.covers
