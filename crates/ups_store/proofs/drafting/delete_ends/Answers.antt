use Rattle.std.proofs.Common.{rules, ℕ, subst, ap, ◌∙◌, arith}
use Rattle.sqlite_trees.specs.declared.store.Shape.{Shape}
use Rattle.sqlite_trees.specs.View.{IsClean}
use Rattle.ups_store.specs.Drafting.{Drains}
use Rattle.ups_store.proofs.Emptied.{cuts_more, cuts_all}
use Rattle.ups_store.proofs.Steps.{clean_before, kept_through, schema_through, later_cause}
use Rattle.ups_store.proofs.drafting.delete_ends.Goals as goal

pub loop-gone-preserved : goal.loop-gone-preserved
loop-gone-preserved g c =
    let old = g.S.Store.view c.args.store.now in
    let mid = g.S.Store.view c.loop-gone.store in
    let new = g.S.Store.view c.delete_end.new.store in
    let inv = c.loop-gone.invariant in
    let before = λ (clean : IsClean new). clean_before mid new c.delete_end.ensures.quiet.clean clean in
    record {
      quiet = search rules;
      kept = kept_through old mid new inv.kept c.delete_end.ensures.kept;
      schema = schema_through old mid new inv.schema c.delete_end.ensures.schema;
      table = λ clean. ap (λ (s : ℕ → Shape). s c.args.table) c.delete_end.ensures.schema.shape ∙ inv.table (before clean);
      cuts = λ clean. cuts_more old mid new c.args.table c.loop-gone._gone (inv.cuts (before clean)) (subst (Drains mid new c.args.table) c.in-Ok-true.field-0-test (c.in-Ok-true.ensures.drained clean));
    }

pub returns-in-Err-clause-cause : goal.returns-in-Err-clause-cause
returns-in-Err-clause-cause g c clean =
    let old = g.S.Store.view c.args.store.now in
    let mid = g.S.Store.view c.loop-gone.store in
    let new = g.S.Store.view c.delete_end.new.store in
    let inv = c.loop-gone.invariant in
    later_cause old mid _ _ _ _ _ c.in-Err.error inv.quiet.counts (inv.cuts (clean_before mid new c.delete_end.ensures.quiet.clean clean)).stays (λ none. none) (c.in-Err.ensures.cause clean)

pub returns-in-Ok-false-clause-cut : goal.returns-in-Ok-false-clause-cut
returns-in-Ok-false-clause-cut g c clean =
    let old = g.S.Store.view c.args.store.now in
    let mid = g.S.Store.view c.loop-gone.store in
    let new = g.S.Store.view c.delete_end.new.store in
    cuts_all old mid new c.args.table c.loop-gone._gone c.args.most (omega arith) (c.loop-gone.invariant.cuts (clean_before mid new c.delete_end.ensures.quiet.clean clean)) (subst (Drains mid new c.args.table) c.in-Ok-false.field-0-test (c.in-Ok-false.ensures.drained clean))
