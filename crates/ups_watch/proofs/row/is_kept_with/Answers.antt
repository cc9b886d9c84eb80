use Rattle.std.proofs.Common.{rules, ◌<◌, length, sym, ap, ◌∙◌}
use Rattle.ups_watch.specs.Table.{is_locked}
use Rattle.ups_watch.proofs.Keeping.{kept_here}
use Rattle.ups_watch.proofs.row.is_kept_with.Goals as goal

pub returns-then-is_locked : goal.returns-then-is_locked
returns-then-is_locked c =
    let within : c.loop-place.place < length c.args.cells.now = search rules in
    sym (kept_here c.args.cells.now c.args.peer c.loop-place.place c.args.subscription c.requires within (ap is_locked (sym c.cell_with.ensures) ∙ sym c.is_locked.ensures ∙ c.if-is_locked.true))
