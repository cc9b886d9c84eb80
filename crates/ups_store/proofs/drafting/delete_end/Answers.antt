use Rattle.std.proofs.Common.{ℤ, w64, subst, sym}
use Rattle.std.proofs.lemmas.Int.{to_z-of_z}
use Rattle.sqlite_trees.specs.View.{SetsTree}
use Rattle.sqlite_trees.specs.Tree.{without_rowid}
use Rattle.ups_store.proofs.Emptied.{shaped_rows, drained, none_drained}
use Rattle.ups_store.proofs.Steps.{clean_before, kept_through, writes_kept, failed_kept, on_either, mapped}
use Rattle.ups_store.proofs.drafting.delete_end.Goals as goal

pub returns-in_ok-delete-in-Some-clause-drained : goal.returns-in_ok-delete-in-Some-clause-drained
returns-in_ok-delete-in-Some-clause-drained g c clean =
    let old = g.S.Store.view c.args.store.now in
    let mid = g.S.Store.view c.read_last.new.store in
    let new = g.S.Store.view c.delete.new.self in
    let between = clean_before mid new c.delete.ensures.quiet.clean clean in
    let was = clean_before old mid c.read_last.ensures.quiet.clean between in
    let sound = c.in_ok-read_last.ensures.sound between in
    let shaped = shaped_rows old c.args.table (c.requires.table was sound) (g.met.S.Store.ordered c.args.store.now sound) in
    drained old mid new c.args.table c.read_last.new.row c.in-Some.id (c.in_ok-read_last.ensures.same between) sound shaped (c.in_ok-read_last.ensures.last between) (sym c.in-Some.ensures.id)
    (subst (λ (z : ℤ). SetsTree mid new c.args.table (without_rowid z)) (to_z-of_z w64 c.in-Some.id c.in-Some.ensures.fits) (c.in_ok-delete-in-Some.ensures.ok clean))

pub returns-in_ok-delete-in-Some-clause-kept : goal.returns-in_ok-delete-in-Some-clause-kept
returns-in_ok-delete-in-Some-clause-kept g c =
    let old = g.S.Store.view c.args.store.now in
    let mid = g.S.Store.view c.read_last.new.store in
    let new = g.S.Store.view c.delete.new.self in
    kept_through old mid new c.read_last.ensures.kept
    (on_either c.delete.result (mapped c.delete.result (λ only. writes_kept mid new c.delete.ensures.schema (g.met.S.Store.shut_if_dirty c.delete.new.self) only) c.delete.ensures.frame) (failed_kept c.delete.result mid new c.delete.ensures.err))

pub returns-in-None-clause-drained : goal.returns-in-None-clause-drained
returns-in-None-clause-drained g c clean =
    let old = g.S.Store.view c.args.store.now in
    let mid = g.S.Store.view c.read_last.new.store in
    let was = clean_before old mid c.read_last.ensures.quiet.clean clean in
    let sound = c.in_ok-read_last.ensures.sound clean in
    let shaped = shaped_rows old c.args.table (c.requires.table was sound) (g.met.S.Store.ordered c.args.store.now sound) in
    none_drained old mid c.args.table c.read_last.new.row (c.in_ok-read_last.ensures.same clean) sound shaped (c.in_ok-read_last.ensures.last clean) (sym c.in-None.ensures.id)
