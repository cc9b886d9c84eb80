use Rattle.std.proofs.Common.{◌≡◌, ◌⊎◌, ◌+◌, ℕ, List, true, sym, subst, ◌∙◌}
use Rattle.std.specs.Prelude.{Option, Ok, IfSome}
use Rattle.std.specs.Global.{Global}
use Rattle.ups_journal.specs.declared.record.Record.{Record}
use Rattle.ups_life.specs.Settings.{Settings}
use Rattle.ups_compact.specs.Shifts.{less_by}
use Rattle.ups_compact.specs.declared.shifts.Shift.{Shift}
use Rattle.ups_lasting.specs.declared.compaction.Tended.{Tended}
use Rattle.ups_lasting.specs.Doubting.{is_exchange}
use Rattle.ups_lasting.specs.Leaving.{LeavesStanding}
use Rattle.ups_lasting.specs.Stages.{ShortenedBy}
use Rattle.ups_lasting.specs.Standing.{firsts, StandsForLog}
use Rattle.ups_lasting.specs.Tending.{HaveReplaced, IfDoubtful, IfExchanged, IfStaying, StandsBySome, UnlessExchanged}
use Rattle.ups_lasting.proofs.GoingOn.{left_doubtful, left_exchanged, left_staying, stands_exchanged, sure_append}
use Rattle.ups_lasting.proofs.lasting.LastingLedger.turn.Goals as goal

pub invariant_of-self : goal.invariant_of-self
invariant_of-self g c =
    let l = c.args.self.now in
    record {
      counted = l.counted;
      now = λ k. c.in_err-tend.ensures.same k ∙ l.now (c.tend.ensures.sound k);
      stands = λ k. subst (λ (x : Settings). StandsForLog x l.content l.log (less_by l.shifts)) (sym c.tend.ensures.settings) (l.stands (c.tend.ensures.sound k));
      left =
          subst (λ (x : Settings). LeavesStanding g.D.DraftLedger x c.tend.new.ledger l.content l.log l.tried (less_by l.shifts) (is_exchange l.doubt)) (sym c.tend.ensures.settings)
          (left_staying l.compaction.empty.settings g.D.DraftLedger l.ledger c.tend.new.ledger l.content l.log l.tried (less_by l.shifts) (is_exchange l.doubt) l.now l.stands c.tend.ensures.first c.in_err-tend.ensures.crash l.left);
      agrees = c.tend.ensures.agrees;
      covers = c.tend.ensures.covers;
      sure = l.sure;
      unsound = λ x k. l.unsound x (c.tend.ensures.sound k);
    }

pub invariant_of-self-in-Resting-clause-now : goal.invariant_of-self-in-Resting-clause-now
invariant_of-self-in-Resting-clause-now g c = λ k. subst (λ (x : Tended). UnlessExchanged (Ok x) (g.D.DraftLedger.is_sound c.tend.new.ledger → g.D.DraftLedger.kept c.tend.new.ledger ≡ g.D.DraftLedger.kept c.args.self.now.ledger)) c.in-Resting.is c.in_ok-tend.ensures.same k ∙ c.args.self.now.now (c.tend.ensures.sound k)

pub invariant_of-self-in-Resting-clause-stands : goal.invariant_of-self-in-Resting-clause-stands
invariant_of-self-in-Resting-clause-stands g c = λ k.
    let l = c.args.self.now in
    subst (λ (x : Settings). StandsForLog x l.content l.log (less_by l.shifts)) (sym c.tend.ensures.settings) (l.stands (c.tend.ensures.sound k))

pub invariant_of-self-in-Resting-clause-left : goal.invariant_of-self-in-Resting-clause-left
invariant_of-self-in-Resting-clause-left g c =
    let l = c.args.self.now in
    subst (λ (x : Settings). LeavesStanding g.D.DraftLedger x c.tend.new.ledger l.content l.log l.tried (less_by l.shifts) (is_exchange l.doubt)) (sym c.tend.ensures.settings)
    (left_staying l.compaction.empty.settings g.D.DraftLedger l.ledger c.tend.new.ledger l.content l.log l.tried (less_by l.shifts) (is_exchange l.doubt) l.now l.stands c.tend.ensures.first
    (subst (λ (x : Tended). IfStaying (Ok x) (g.D.DraftLedger.is_first c.tend.new.ledger → (rs : List (Record Global)) → g.D.DraftLedger.recovers c.tend.new.ledger rs → g.D.DraftLedger.recovers c.args.self.now.ledger rs ⊎ (g.D.DraftLedger.is_sound c.args.self.now.ledger × (rs ≡ g.D.DraftLedger.kept c.args.self.now.ledger)))) c.in-Resting.is c.in_ok-tend.ensures.crash) l.left)

pub invariant_of-self-in-Going-clause-now : goal.invariant_of-self-in-Going-clause-now
invariant_of-self-in-Going-clause-now g c = λ k. subst (λ (x : Tended). UnlessExchanged (Ok x) (g.D.DraftLedger.is_sound c.tend.new.ledger → g.D.DraftLedger.kept c.tend.new.ledger ≡ g.D.DraftLedger.kept c.args.self.now.ledger)) c.in-Going.is c.in_ok-tend.ensures.same k ∙ c.args.self.now.now (c.tend.ensures.sound k)

pub invariant_of-self-in-Going-clause-stands : goal.invariant_of-self-in-Going-clause-stands
invariant_of-self-in-Going-clause-stands g c = λ k.
    let l = c.args.self.now in
    subst (λ (x : Settings). StandsForLog x l.content l.log (less_by l.shifts)) (sym c.tend.ensures.settings) (l.stands (c.tend.ensures.sound k))

pub invariant_of-self-in-Going-clause-left : goal.invariant_of-self-in-Going-clause-left
invariant_of-self-in-Going-clause-left g c =
    let l = c.args.self.now in
    subst (λ (x : Settings). LeavesStanding g.D.DraftLedger x c.tend.new.ledger l.content l.log l.tried (less_by l.shifts) (is_exchange l.doubt)) (sym c.tend.ensures.settings)
    (left_staying l.compaction.empty.settings g.D.DraftLedger l.ledger c.tend.new.ledger l.content l.log l.tried (less_by l.shifts) (is_exchange l.doubt) l.now l.stands c.tend.ensures.first
    (subst (λ (x : Tended). IfStaying (Ok x) (g.D.DraftLedger.is_first c.tend.new.ledger → (rs : List (Record Global)) → g.D.DraftLedger.recovers c.tend.new.ledger rs → g.D.DraftLedger.recovers c.args.self.now.ledger rs ⊎ (g.D.DraftLedger.is_sound c.args.self.now.ledger × (rs ≡ g.D.DraftLedger.kept c.args.self.now.ledger)))) c.in-Going.is c.in_ok-tend.ensures.crash) l.left)

pub invariant_of-self-in-Exchanged-clause-now : goal.invariant_of-self-in-Exchanged-clause-now
invariant_of-self-in-Exchanged-clause-now g c = λ k.
    let l = c.args.self.now in
    let s = l.compaction.empty.settings in
    let P : List (Record Global) → Type 0 = λ records. HaveReplaced g.D.DraftLedger s l.compaction.begun l.ledger c.tend.new.ledger l.compaction.stage records in
    let e : P (firsts c.in-Exchanged.records.items) = subst (λ (x : Tended). IfExchanged (Ok x) P) c.in-Exchanged.is c.in_ok-tend.ensures.exchanged in
    e.kept k ∙ sym c.drafted.ensures

pub invariant_of-self-in-Exchanged-clause-stands : goal.invariant_of-self-in-Exchanged-clause-stands
invariant_of-self-in-Exchanged-clause-stands g c = λ k.
    let l = c.args.self.now in
    let s = l.compaction.empty.settings in
    let P : List (Record Global) → Type 0 = λ records. HaveReplaced g.D.DraftLedger s l.compaction.begun l.ledger c.tend.new.ledger l.compaction.stage records in
    let e : P (firsts c.in-Exchanged.records.items) = subst (λ (x : Tended). IfExchanged (Ok x) P) c.in-Exchanged.is c.in_ok-tend.ensures.exchanged in
    let sums : (w : List ℕ) → less_by c.args.total w ≡ less_by e.extra w + less_by l.shifts w = subst (λ (o : Option (List Shift)). IfSome o (λ extra. (w : List ℕ) → less_by c.args.total w ≡ less_by extra w + less_by l.shifts w)) e.is c.requires.total in
    subst (λ (x : Settings). StandsForLog x c.drafted.result l.log (less_by c.args.total)) (sym c.tend.ensures.settings)
    (subst (λ (rs : List (Record Global)). StandsForLog s rs l.log (less_by c.args.total)) (sym c.drafted.ensures)
    (stands_exchanged s g.D.DraftLedger l.ledger c.tend.new.ledger l.content l.log l.tried (less_by l.shifts) c.what_stands_for_a_log_goes_on.ensures.through c.what_stands_for_a_log_goes_on.ensures.alike (firsts c.in-Exchanged.records.items)
    (less_by e.extra) (less_by c.args.total) l.now l.stands sums c.tend.ensures.sound (λ k. (e.kept k, e.stands k)) k))

pub invariant_of-self-in-Exchanged-clause-left : goal.invariant_of-self-in-Exchanged-clause-left
invariant_of-self-in-Exchanged-clause-left g c =
    let l = c.args.self.now in
    let s = l.compaction.empty.settings in
    let P : List (Record Global) → Type 0 = λ records. HaveReplaced g.D.DraftLedger s l.compaction.begun l.ledger c.tend.new.ledger l.compaction.stage records in
    let e : P (firsts c.in-Exchanged.records.items) = subst (λ (x : Tended). IfExchanged (Ok x) P) c.in-Exchanged.is c.in_ok-tend.ensures.exchanged in
    let sums : (w : List ℕ) → less_by c.args.total w ≡ less_by e.extra w + less_by l.shifts w = subst (λ (o : Option (List Shift)). IfSome o (λ extra. (w : List ℕ) → less_by c.args.total w ≡ less_by extra w + less_by l.shifts w)) e.is c.requires.total in
    let Q : List (Record Global) → Type 0 = λ records. g.D.DraftLedger.is_first c.tend.new.ledger → (rs : List (Record Global)) → g.D.DraftLedger.recovers c.tend.new.ledger rs → g.D.DraftLedger.is_sound c.tend.new.ledger × (rs ≡ g.D.DraftLedger.kept c.tend.new.ledger) in
    let left : Q (firsts c.in-Exchanged.records.items) = subst (λ (x : Tended). IfExchanged (Ok x) Q) c.in-Exchanged.is c.in_ok-tend.ensures.left in
    subst (λ (x : Settings). LeavesStanding g.D.DraftLedger x c.tend.new.ledger c.drafted.result l.log l.tried (less_by c.args.total) (is_exchange l.doubt)) (sym c.tend.ensures.settings)
    (subst (λ (rs : List (Record Global)). LeavesStanding g.D.DraftLedger s c.tend.new.ledger rs l.log l.tried (less_by c.args.total) (is_exchange l.doubt)) (sym c.drafted.ensures)
    (left_exchanged s g.D.DraftLedger l.ledger c.tend.new.ledger l.content l.log l.tried (less_by l.shifts) c.what_stands_for_a_log_goes_on.ensures.through c.what_stands_for_a_log_goes_on.ensures.alike (firsts c.in-Exchanged.records.items)
    (less_by e.extra) (less_by c.args.total) l.now l.stands sums c.tend.ensures.sound (λ k. (e.kept k, e.stands k)) (is_exchange l.doubt) left))

pub invariant_of-self-in-Doubtful-clause-now : goal.invariant_of-self-in-Doubtful-clause-now
invariant_of-self-in-Doubtful-clause-now g c = λ k.
    let unsound : ¬ g.D.DraftLedger.is_sound c.tend.new.ledger = subst (λ (x : Tended). IfDoubtful (Ok x) (¬ g.D.DraftLedger.is_sound c.tend.new.ledger)) c.in-Doubtful.is c.in_ok-tend.ensures.unsound in
    absurd (unsound k)

pub invariant_of-self-in-Doubtful-clause-stands : goal.invariant_of-self-in-Doubtful-clause-stands
invariant_of-self-in-Doubtful-clause-stands g c = λ k.
    let unsound : ¬ g.D.DraftLedger.is_sound c.tend.new.ledger = subst (λ (x : Tended). IfDoubtful (Ok x) (¬ g.D.DraftLedger.is_sound c.tend.new.ledger)) c.in-Doubtful.is c.in_ok-tend.ensures.unsound in
    absurd (unsound k)

pub invariant_of-self-in-Doubtful-clause-sure : goal.invariant_of-self-in-Doubtful-clause-sure
invariant_of-self-in-Doubtful-clause-sure g c = λ _. c.args.self.now.sure (sure_append c.args.self.now.doubt c.requires.sure)

pub invariant_of-self-in-Doubtful-clause-unsound : goal.invariant_of-self-in-Doubtful-clause-unsound
invariant_of-self-in-Doubtful-clause-unsound g c = λ _.
    let unsound : ¬ g.D.DraftLedger.is_sound c.tend.new.ledger = subst (λ (x : Tended). IfDoubtful (Ok x) (¬ g.D.DraftLedger.is_sound c.tend.new.ledger)) c.in-Doubtful.is c.in_ok-tend.ensures.unsound in
    unsound

pub invariant_of-self-in-Doubtful-clause-left : goal.invariant_of-self-in-Doubtful-clause-left
invariant_of-self-in-Doubtful-clause-left g c =
    let l = c.args.self.now in
    let s = l.compaction.empty.settings in
    let D : Type 0 = g.D.DraftLedger.is_first c.tend.new.ledger → (rs : List (Record Global)) → g.D.DraftLedger.recovers c.tend.new.ledger rs → g.D.DraftLedger.recovers l.ledger rs ⊎ (g.D.DraftLedger.is_sound l.ledger × ((rs ≡ g.D.DraftLedger.kept l.ledger) ⊎ StandsBySome s (g.D.DraftLedger.kept l.ledger) rs)) in
    let doubt : D = subst (λ (x : Tended). IfDoubtful (Ok x) D) c.in-Doubtful.is c.in_ok-tend.ensures.doubt in
    subst (λ (x : Settings). LeavesStanding g.D.DraftLedger x c.tend.new.ledger l.content l.log l.tried (less_by l.shifts) true) (sym c.tend.ensures.settings)
    (left_doubtful s g.D.DraftLedger l.ledger c.tend.new.ledger l.content l.log l.tried (less_by l.shifts) c.what_stands_for_a_log_goes_on.ensures.through (is_exchange l.doubt) l.now l.stands c.tend.ensures.first doubt l.left)

pub returns-in-Exchanged-clause-compacted : goal.returns-in-Exchanged-clause-compacted
returns-in-Exchanged-clause-compacted g c = λ k.
    let l = c.args.self.now in
    let s = l.compaction.empty.settings in
    let before = g.D.DraftLedger.kept l.ledger in
    let after = g.D.DraftLedger.kept c.tend.new.ledger in
    let P : List (Record Global) → Type 0 = λ records. HaveReplaced g.D.DraftLedger s l.compaction.begun l.ledger c.tend.new.ledger l.compaction.stage records in
    let e : P (firsts c.in-Exchanged.records.items) = subst (λ (x : Tended). IfExchanged (Ok x) P) c.in-Exchanged.is c.in_ok-tend.ensures.exchanged in
    let by : ShortenedBy s l.compaction.begun before after (less_by e.extra) = subst (λ (rs : List (Record Global)). ShortenedBy s l.compaction.begun before rs (less_by e.extra)) (sym (e.kept k)) (e.shortened k) in
    ∣ (
      less_by e.extra,
      subst (λ (x : Settings). ShortenedBy x c.tend.new.self.begun before after (less_by e.extra)) (sym c.tend.ensures.settings)
          (subst (λ (n : ℕ). ShortenedBy s n before after (less_by e.extra)) (sym c.tend.ensures.begun) by),
    ) ∣₁
