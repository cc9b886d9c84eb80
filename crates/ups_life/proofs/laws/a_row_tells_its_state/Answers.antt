use Rattle.std.proofs.Common.{List, sym, subst}
use Rattle.std.proofs.lemmas.List.{take_all}
use Rattle.ups_life.specs.declared.entry.Entry.{Entry}
use Rattle.ups_life.specs.Steps.{past}
use Rattle.ups_life.specs.Telling.{AreWellFormed}
use Rattle.ups_life.proofs.Rows.{past_more}
use Rattle.ups_life.proofs.RowsTell.{each_row_tells}
use Rattle.ups_life.proofs.laws.a_row_tells_its_state.Goals as goal

pub loop-entry-preserved : goal.loop-entry-preserved
loop-entry-preserved g c =
    subst (λ (es : List (Entry _)). AreWellFormed es) (sym (past_more c.args.history.now c.loop-entry.entry-index c.entry-item.result c.loop-entry-test.true c.entry-item.is)) (c.is_well_formed.ensures, c.loop-entry.invariant)

pub returns : goal.returns
returns g c = λ s h u.
    each_row_tells s (past c.args.history.now) (subst (λ (l : List (Entry _)). AreWellFormed (past l)) (take_all c.loop-entry.entry-index c.args.history.now c.loop-entry-test.false) c.loop-entry.invariant) h u
