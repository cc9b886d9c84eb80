use Rattle.std.proofs.Common.{rules, ℕ, subst, ap, ◌∙◌, arith}
use Rattle.sqlite_trees.specs.declared.store.Shape.{Shape}
use Rattle.sqlite_trees.specs.View.{IsClean}
use Rattle.ups_store.specs.Held.{IsAdding}
use Rattle.ups_store.proofs.Steps.{clean_before, kept_through, schema_through, later_cause}
use Rattle.ups_store.proofs.Tables.{others_through}
use Rattle.ups_store.proofs.rewriting.delete_all.Goals as goal

pub returns-in-Err-clause-cause : goal.returns-in-Err-clause-cause
returns-in-Err-clause-cause g c clean =
    let old = g.S.Store.view c.args.store.now in
    let mid = g.S.Store.view c.loop-gone.store in
    let new = g.S.Store.view c.delete_last.new.store in
    let inv = c.loop-gone.invariant in
    later_cause old mid _ _ _ _ _ c.in-Err.error inv.quiet.counts (inv.adding (clean_before mid new c.delete_last.ensures.quiet.clean clean)).sound (λ none. none) (c.in-Err.ensures.cause clean)

pub loop-gone-preserved : goal.loop-gone-preserved
loop-gone-preserved g c =
    let old = g.S.Store.view c.args.store.now in
    let mid = g.S.Store.view c.loop-gone.store in
    let new = g.S.Store.view c.delete_last.new.store in
    let inv = c.loop-gone.invariant in
    let before = λ (clean : IsClean new). clean_before mid new c.delete_last.ensures.quiet.clean clean in
    record {
      quiet = search rules;
      kept = kept_through old mid new inv.kept c.delete_last.ensures.kept;
      schema = schema_through old mid new inv.schema c.delete_last.ensures.schema;
      table = λ clean. ap (λ (s : ℕ → Shape). s c.args.table) c.delete_last.ensures.schema.shape ∙ inv.table (before clean);
      adding = λ clean. subst (IsAdding new c.args.table) (omega arith) (c.in-Ok.ensures.shorter clean);
      sound = λ clean. inv.sound (before clean);
      others = λ clean. others_through old mid new c.args.table (inv.others (before clean)) (c.in-Ok.ensures.others clean);
    }
