use Rattle.std.proofs.Common.{ℤ, w64, subst}
use Rattle.std.proofs.lemmas.Int.{to_z_pos}
use Rattle.sqlite_trees.specs.View.{SetsTree}
use Rattle.sqlite_trees.specs.Tree.{without_rowid}
use Rattle.ups_store.proofs.Steps.{writes_kept, failed_kept, on_either, mapped, clean_before}
use Rattle.ups_store.proofs.Cleared.{shortens}
use Rattle.ups_store.proofs.Tables.{others_set}
use Rattle.ups_store.proofs.rewriting.delete_last.Goals as goal

pub returns-clause-shorter : goal.returns-clause-shorter
returns-clause-shorter g c =
    let old = g.S.Store.view c.args.store.now in
    let new = g.S.Store.view c.delete.new.self in
    mapped c.delete.result (λ sets clean. shortens old new c.args.table c.args.count c.requires.some (c.requires.adding (clean_before old new c.delete.ensures.quiet.clean clean)) (subst (λ (z : ℤ). SetsTree old new c.args.table (without_rowid z)) (to_z_pos w64 c.args.count c.requires.few) (sets clean))) c.delete.ensures.ok

pub returns-clause-kept : goal.returns-clause-kept
returns-clause-kept g c = on_either c.delete.result (mapped c.delete.result (λ only. writes_kept _ _ c.delete.ensures.schema (g.met.S.Store.shut_if_dirty c.delete.new.self) only) c.delete.ensures.frame) (failed_kept c.delete.result _ _ c.delete.ensures.err)

pub returns-clause-others : goal.returns-clause-others
returns-clause-others g c = mapped c.delete.result (λ sets clean. others_set (g.S.Store.view c.args.store.now) (g.S.Store.view c.delete.new.self) c.args.table _ (sets clean)) c.delete.ensures.ok
