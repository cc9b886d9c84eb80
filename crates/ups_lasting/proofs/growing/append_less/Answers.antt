use Rattle.std.proofs.Common.{◌≡◌, ◌++◌, List, sym, subst}
use Rattle.std.specs.Prelude.{MatchResult}
use Rattle.std.specs.Global.{Global}
use Rattle.ups_journal.specs.declared.record.Record.{Record}
use Rattle.ups_compact.specs.Shifts.{less_by}
use Rattle.ups_lasting.specs.Leaving.{Appended, Failed}
use Rattle.ups_lasting.proofs.Standing.{all_less_none}
use Rattle.ups_lasting.proofs.growing.append_less.Goals as goal

pub returns-then-is_none : goal.returns-then-is_none
returns-then-is_none g c =
    let before = c.args.ledger.now in
    let after = c.append_all.new.ledger in
    let content = c.args.content.now in
    let more = c.append_all.new.content in
    let same = all_less_none (less_by c.args.shifts.now) (c.is_none.ensures.none c.if-is_none.true) c.args.records.now in
    subst (λ (rs : List (Record Global)). MatchResult c.append_all.result (λ x. Appended g.D.DraftLedger before rs after × (more ≡ content ++ rs)) (λ x. Failed g.D.DraftLedger before rs after × (more ≡ content))) (sym same) c.append_all.ensures
