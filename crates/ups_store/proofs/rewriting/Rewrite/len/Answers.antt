use Rattle.std.proofs.Common.{length, ap, sym, ◌∙◌}
use Rattle.std.proofs.lemmas.List.{length-map}
use Rattle.ups_store.specs.Rows.{request_in}
use Rattle.ups_store.proofs.Tables.{requests_at}
use Rattle.ups_store.proofs.rewriting.Rewrite.len.Goals as goal

pub returns : goal.returns
returns g c goes_on =
    let it = c.args.self.now in
    let v = g.S.Store.view it.store in
    let putting = it.adding goes_on.0 goes_on.1 in
    sym (ap length (requests_at v.trees it.table putting.tabled) ∙ length-map (v.trees it.table) request_in ∙ putting.adding.counted)
