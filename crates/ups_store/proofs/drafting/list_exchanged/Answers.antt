use Rattle.std.proofs.Common.{◌≡◌, ℕ, ◌-◌, codes, sym, subst}
use Rattle.sqlite_trees.specs.declared.store.Shape.TheVariants.{Table}
use Rattle.ups_store.proofs.Steps.{mapped}
use Rattle.ups_store.proofs.Tables.{IsLow, low_from}
use Rattle.ups_store.proofs.Drafted.{low_other}
use Rattle.ups_store.proofs.Exchanged.{plain_object, may_relist, lists_exchanged}
use Rattle.ups_store.proofs.drafting.list_exchanged.Goals as goal

pub relist-requires-clause-each : goal.relist-requires-clause-each
relist-requires-clause-each g c clean =
    let old = g.S.Store.view c.args.store.now in
    let t = c.args.table in
    let s = c.draft_beside-spare.result in
    let can = c.requires.can clean in
    let low = low_from _ t can.tabled in
    let spare : s ≡ 2 - t = c.draft_beside-spare.ensures in
    let a = plain_object c.draft_table.result (codes "draft") c.draft_table.ensures.wanted in
    let b = plain_object c.request_table.result (codes "request") c.request_table.ensures.wanted in
    (may_relist old t c.draft_table.result can.tables low can.shaped a, (may_relist old s c.request_table.result can.tables (subst (λ (k : ℕ). IsLow k) (sym spare) (low_other t low)) (subst (λ (k : ℕ). old.shape k ≡ Table) (sym spare) can.spare) b, tt))

pub returns-clause-listed : goal.returns-clause-listed
returns-clause-listed g c =
    let old = g.S.Store.view c.args.store.now in
    let new = g.S.Store.view c.relist.new.self in
    mapped c.relist.result (λ relists clean.
    lists_exchanged old new c.args.table c.draft_beside-spare.result c.draft_table.result c.request_table.result c.draft_beside-spare.ensures
    (plain_object c.draft_table.result (codes "draft") c.draft_table.ensures.wanted) (plain_object c.request_table.result (codes "request") c.request_table.ensures.wanted)
    (c.draft_table.ensures.listed c.args.table) (c.request_table.ensures.listed c.draft_beside-spare.result) (relists clean)) c.relist.ensures.ok
