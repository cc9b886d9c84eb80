use Rattle.std.proofs.Common.{rules, ◌≡◌, ◌+◌, pos, subst, IfErr}
use Rattle.sqlite_value.specs.Order.{Row}
use Rattle.sqlite_trees.specs.View.{SetsTree, HasCause, IsStorableRow}
use Rattle.sqlite_disk.specs.Disk.{MoreFaults}
use Rattle.sqlite_trees.specs.Tree.{put_row}
use Rattle.ups_store.specs.Rows.{stored_in_run, request_row, request_in}
use Rattle.ups_store.proofs.Steps.{adds, writes_kept, failed_kept, on_either, mapped}
use Rattle.ups_store.proofs.Tables.{others_set}
use Rattle.ups_store.proofs.store.put_one.Goals as goal

pub returns-clause-added : goal.returns-clause-added
returns-clause-added g c =
    let old = g.S.Store.view c.args.store.now in
    let new = g.S.Store.view c.put.new.self in
    let r = stored_in_run c.args.run c.args.asked.now in
    let row : c.lay.new.row ≡ request_row (pos (c.args.count + 1)) r = search rules in
    let says : request_in c.lay.new.row ≡ r = search rules in
    mapped c.put.result (λ sets clean. adds old new c.args.table r c.args.count (c.requires.adding (search rules)) (subst (λ (row : Row). request_in row ≡ r) row says) (subst (λ (row : Row). SetsTree old new c.args.table (put_row row)) row (sets clean))) c.put.ensures.ok

pub returns-clause-kept : goal.returns-clause-kept
returns-clause-kept g c = on_either c.put.result (mapped c.put.result (λ only. writes_kept _ _ c.put.ensures.schema (g.met.S.Store.shut_if_dirty c.put.new.self) only) c.put.ensures.frame) (failed_kept c.put.result _ _ c.put.ensures.err)

pub returns-clause-cause : goal.returns-clause-cause
returns-clause-cause g c clean =
    let old = g.S.Store.view c.args.store.now in
    let row : c.lay.new.row ≡ request_row (pos (c.args.count + 1)) (stored_in_run c.args.run c.args.asked.now) = search rules in
    subst (λ (row : Row). IfErr c.put.result (HasCause old (MoreFaults (g.S.Store.faults c.args.store.now) (g.S.Store.faults c.put.new.self)) (¬ IsStorableRow (old.reals c.args.table) row))) row (c.put.ensures.cause clean)

pub returns-clause-others : goal.returns-clause-others
returns-clause-others g c = mapped c.put.result (λ sets clean. others_set (g.S.Store.view c.args.store.now) (g.S.Store.view c.put.new.self) c.args.table _ (sets clean)) c.put.ensures.ok
