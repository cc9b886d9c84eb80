use Rattle.std.proofs.Common.{List, Option, subst}
use Rattle.sqlite_value.specs.Order.{Row}
use Rattle.ups_store.specs.Runs.{IsFirst}
use Rattle.ups_store.proofs.Behind.{first_is_last}
use Rattle.ups_store.proofs.Steps.{clean_before, mapped}
use Rattle.ups_store.proofs.runs.read_last.Goals as goal

pub returns-clause-last : goal.returns-clause-last
returns-clause-last g c =
    let old = g.S.Store.view c.args.store.now in
    let mid = g.S.Store.view c.seek_last.new.store in
    let new = g.S.Store.view c.take_row.new.store in
    mapped c.take_row.result (λ row clean. first_is_last (old.trees c.args.table) c.take_row.new.row (subst (λ (left : Option (List Row)). IsFirst left c.take_row.new.row) (c.in_ok-seek_last.ensures.left (clean_before mid new c.take_row.ensures.quiet.clean clean)) (row clean))) c.take_row.ensures.row
