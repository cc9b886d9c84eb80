use Rattle.std.proofs.Common.{◌≡◌, List, ◌++◌, map, false, ap, sym, subst, ◌∙◌}
use Rattle.std.specs.Global.{Global}
use Rattle.ups_journal.specs.declared.record.Record.{Record}
use Rattle.ups_compact.specs.Shifts.{less_by}
use Rattle.ups_restore.specs.Lessening.{lessened}
use Rattle.ups_lasting.specs.Doubting.{is_exchange}
use Rattle.ups_lasting.specs.Leaving.{LeavesOfLog, LeavesStanding}
use Rattle.ups_lasting.specs.Stages.{Covers}
use Rattle.ups_lasting.specs.Standing.{StandsForLog}
use Rattle.ups_lasting.proofs.Appending.{crash_failed}
use Rattle.ups_lasting.proofs.GoingOn.{agreed_appended, agreed_same, left_appended, left_failed, left_shut, stands_appended}
use Rattle.ups_lasting.proofs.Stages.{covers_on}
use Rattle.ups_lasting.proofs.Turning.{covers_same}
use Rattle.ups_lasting.proofs.lasting.LastingLedger.append_settled.Goals as goal

pub invariant_of-self-in-Ok-clause-stands : goal.invariant_of-self-in-Ok-clause-stands
invariant_of-self-in-Ok-clause-stands g c =
    let l = c.args.self.now in
    stands_appended l.compaction.empty.settings g.D.DraftLedger l.ledger c.append_less.new.ledger l.content l.log l.tried (less_by l.shifts) c.what_stands_for_a_log_goes_on.ensures.on c.args.records.now c.append_less.new.content c.grow.new.self
    l.stands c.in-Ok.ensures.0 c.in-Ok.ensures.1 c.grow.ensures

pub invariant_of-self-in-Ok-clause-left : goal.invariant_of-self-in-Ok-clause-left
invariant_of-self-in-Ok-clause-left g c =
    let l = c.args.self.now in
    left_appended l.compaction.empty.settings g.D.DraftLedger l.ledger c.append_less.new.ledger l.content l.log l.tried (less_by l.shifts) c.what_stands_for_a_log_goes_on.ensures.on c.args.records.now c.append_less.new.content c.grow.new.self c.none.result false
    l.now l.stands c.in-Ok.ensures.0 c.in-Ok.ensures.1 c.grow.ensures

pub invariant_of-self-in-Ok-clause-agrees : goal.invariant_of-self-in-Ok-clause-agrees
invariant_of-self-in-Ok-clause-agrees g c =
    let l = c.args.self.now in
    agreed_appended l.compaction.empty.settings g.D.DraftLedger l.ledger c.append_less.new.ledger l.content l.log l.tried (less_by l.shifts) l.compaction.stage (map (lessened (less_by l.shifts)) c.args.records.now) l.agrees c.in-Ok.ensures.0

pub invariant_of-self-then-was_up-clause-stands : goal.invariant_of-self-then-was_up-clause-stands
invariant_of-self-then-was_up-clause-stands g c = λ k.
    let l = c.args.self.now in
    subst (λ (rs : List (Record Global)). StandsForLog l.compaction.empty.settings rs l.log (less_by l.shifts)) (sym c.in-Err.ensures.1) (l.stands (c.in-Err.ensures.0.sound k))

pub invariant_of-self-then-was_up-clause-left : goal.invariant_of-self-then-was_up-clause-left
invariant_of-self-then-was_up-clause-left g c =
    let l = c.args.self.now in
    let s = l.compaction.empty.settings in
    let less = less_by l.shifts in
    let are : c.grow-then-was_up.new.self ≡ c.args.records.now = c.grow-then-was_up.ensures ∙ ap (λ (xs : List (Record Global)). xs ++ c.args.records.now) c.none-then-was_up.ensures in
    subst (λ (rs : List (Record Global)). LeavesStanding g.D.DraftLedger s c.append_less.new.ledger rs l.log c.grow-then-was_up.new.self less false) (sym c.in-Err.ensures.1)
    (left_failed s g.D.DraftLedger l.ledger c.append_less.new.ledger l.content l.log l.tried less c.what_stands_for_a_log_goes_on.ensures.on g.D.DraftLedger.settled c.args.records.now c.grow-then-was_up.new.self false
    l.now l.stands (c.is_up-was_up.ensures.up c.if-was_up.true) c.in-Err.ensures.0 are)

pub invariant_of-self-then-was_up-clause-agrees : goal.invariant_of-self-then-was_up-clause-agrees
invariant_of-self-then-was_up-clause-agrees g c =
    let l = c.args.self.now in
    let failed = c.in-Err.ensures.0 in
    agreed_same l.compaction.empty.settings g.D.DraftLedger l.ledger c.append_less.new.ledger l.content l.log l.tried (less_by l.shifts) l.compaction.stage failed.sound failed.same failed.drafts l.agrees

pub invariant_of-self-else-was_up-clause-stands : goal.invariant_of-self-else-was_up-clause-stands
invariant_of-self-else-was_up-clause-stands g c = λ k.
    let l = c.args.self.now in
    subst (λ (rs : List (Record Global)). StandsForLog l.compaction.empty.settings rs l.log (less_by l.shifts)) (sym c.in-Err.ensures.1) (l.stands (c.in-Err.ensures.0.sound k))

pub invariant_of-self-else-was_up-clause-left : goal.invariant_of-self-else-was_up-clause-left
invariant_of-self-else-was_up-clause-left g c =
    let l = c.args.self.now in
    let s = l.compaction.empty.settings in
    let less = less_by l.shifts in
    let unsound : ¬ g.D.DraftLedger.is_sound l.ledger = λ k. absurd (cc (c.is_up-was_up.ensures.sound k, c.if-was_up.false)) in
    subst (λ (rs : List (Record Global)). LeavesStanding g.D.DraftLedger s c.append_less.new.ledger rs l.log l.tried less false) (sym c.in-Err.ensures.1)
    (left_shut s g.D.DraftLedger l.ledger c.append_less.new.ledger l.content l.log l.tried less c.args.records.now (is_exchange l.doubt) false c.requires.settled unsound l.left c.in-Err.ensures.0)

pub invariant_of-self-else-was_up-clause-agrees : goal.invariant_of-self-else-was_up-clause-agrees
invariant_of-self-else-was_up-clause-agrees g c =
    let l = c.args.self.now in
    let failed = c.in-Err.ensures.0 in
    agreed_same l.compaction.empty.settings g.D.DraftLedger l.ledger c.append_less.new.ledger l.content l.log l.tried (less_by l.shifts) l.compaction.stage failed.sound failed.same failed.drafts l.agrees

pub returns-then-was_up-clause-crash : goal.returns-then-was_up-clause-crash
returns-then-was_up-clause-crash g c = λ first rs leaves.
    let l = c.args.self.now in
    let less = less_by l.shifts in
    let are : c.grow-then-was_up.new.self ≡ c.args.records.now = c.grow-then-was_up.ensures ∙ ap (λ (xs : List (Record Global)). xs ++ c.args.records.now) c.none-then-was_up.ensures in
    crash_failed g.D.DraftLedger l.ledger c.append_less.new.ledger l.content l.log l.tried c.grow-then-was_up.new.self less (is_exchange l.doubt) c.args.records.now l.now (c.is_up-was_up.ensures.up c.if-was_up.true) c.in-Err.ensures.0 are first rs
    (subst (λ (xs : List (Record Global)). LeavesOfLog g.D.DraftLedger c.append_less.new.ledger xs l.log c.grow-then-was_up.new.self less false rs) c.in-Err.ensures.1 leaves)

pub invariant_of-self-in-Ok-clause-covers : goal.invariant_of-self-in-Ok-clause-covers
invariant_of-self-in-Ok-clause-covers g c = λ k.
    let l = c.args.self.now in
    subst (λ (rs : List (Record Global)). Covers l.compaction.begun l.compaction.stage rs) (sym (c.in-Ok.ensures.0.put k))
    (covers_on l.compaction.begun l.compaction.stage (g.D.DraftLedger.kept l.ledger) (map (lessened (less_by l.shifts)) c.args.records.now) (l.covers (c.in-Ok.ensures.0.sound k)))

pub invariant_of-self-then-was_up-clause-covers : goal.invariant_of-self-then-was_up-clause-covers
invariant_of-self-then-was_up-clause-covers g c =
    let l = c.args.self.now in
    covers_same g.D.DraftLedger l.compaction.empty.settings l.compaction.begun l.ledger c.append_less.new.ledger l.compaction.stage c.in-Err.ensures.0.sound c.in-Err.ensures.0.same l.covers

pub invariant_of-self-else-was_up-clause-covers : goal.invariant_of-self-else-was_up-clause-covers
invariant_of-self-else-was_up-clause-covers g c =
    let l = c.args.self.now in
    covers_same g.D.DraftLedger l.compaction.empty.settings l.compaction.begun l.ledger c.append_less.new.ledger l.compaction.stage c.in-Err.ensures.0.sound c.in-Err.ensures.0.same l.covers
