use Rattle.std.proofs.Common.{ℤ, w64, FitsSigned, Option, IfSome, subst, sym, ◌∙◌}
use Rattle.std.proofs.lemmas.Int.{to_z-of_z}
use Rattle.sqlite_trees.specs.View.{SetsTree}
use Rattle.sqlite_trees.specs.Tree.{without_rowid}
use Rattle.ups_store.proofs.Dropped.{drops_one, ordered_runs}
use Rattle.ups_store.proofs.Steps.{clean_before, kept_through, writes_kept, failed_kept, on_either, mapped}
use Rattle.ups_store.proofs.runs.drop_first.Goals as goal

pub returns-in_ok-delete-in-Ok-Some-clause-dropped : goal.returns-in_ok-delete-in-Ok-Some-clause-dropped
returns-in_ok-delete-in-Ok-Some-clause-dropped g c clean =
    let old = g.S.Store.view c.args.store.now in
    let mid = g.S.Store.view c.first_old.new.store in
    let new = g.S.Store.view c.delete.new.self in
    let between = clean_before mid new c.delete.ensures.quiet.clean clean in
    let was = clean_before old mid c.first_old.ensures.quiet.clean between in
    let sound = c.in-Ok-Some.ensures.sound between in
    let table = ordered_runs old (c.requires.table was sound) (g.met.S.Store.ordered c.args.store.now sound) in
    let fits = subst (λ (found : Option ℤ). IfSome found (λ id. FitsSigned w64 id)) c.in-Ok-Some.field-0-is c.in-Ok-Some.ensures.fits in
    drops_one old mid new c.args.number c.in-Ok-Some.id (c.in-Ok-Some.ensures.same between) sound table (sym (c.in-Ok-Some.ensures.found between) ∙ c.in-Ok-Some.field-0-is) (subst (λ (z : ℤ). SetsTree mid new 1 (without_rowid z)) (to_z-of_z w64 c.in-Ok-Some.id fits) (c.in_ok-delete-in-Ok-Some.ensures.ok clean))

pub returns-in_ok-delete-in-Ok-Some-clause-kept : goal.returns-in_ok-delete-in-Ok-Some-clause-kept
returns-in_ok-delete-in-Ok-Some-clause-kept g c =
    let old = g.S.Store.view c.args.store.now in
    let mid = g.S.Store.view c.first_old.new.store in
    let new = g.S.Store.view c.delete.new.self in
    kept_through old mid new c.first_old.ensures.kept
    (on_either c.delete.result (mapped c.delete.result (λ only. writes_kept mid new c.delete.ensures.schema (g.met.S.Store.shut_if_dirty c.delete.new.self) only) c.delete.ensures.frame) (failed_kept c.delete.result mid new c.delete.ensures.err))
