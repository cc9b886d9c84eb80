use Rattle.std.proofs.Common.{rules, ◌≡◌, ◌∙◌, ap, OnOk, Result, Ok, Err}
use Rattle.ups_store.specs.Rows.{stored_in_run, request_row, request_in}
use Rattle.ups_store.proofs.Says.{says}
use Rattle.ups_store.proofs.request.lay.Goals as goal

on_ok : {T E P R : Type 0} (r : Result T E) → (P → R) → OnOk r P → OnOk r R
on_ok (Ok x) f p = f p
on_ok (Err e) f p = tt

pub returns-clause-says : goal.returns-clause-says
returns-clause-says c =
    let r = stored_in_run c.args.run c.args.asked.now in
    let laid : OnOk c.lay.result (c.lay.new.row ≡ request_row c.args.number r) = search rules in
    on_ok c.lay.result (λ is. ap request_in is ∙ says c.args.number r c.number_cell.ensures.again c.cells_of.ensures.again) laid
