use Rattle.std.proofs.Common.{rules, ◌≡◌, ◌+◌, ◌<◌, ◌∷◌, [], ◌++◌, List, length, drop, sym, ap, subst, ◌∙◌, arith}
use Rattle.sqlite_trees.specs.View.{View, IsClean}
use Rattle.sqlite_trees.specs.declared.store.Shape.TheVariants.{Table}
use Rattle.ups_store.specs.declared.request.StoredRequest.{StoredRequest}
use Rattle.ups_store.specs.Rows.{requests_in_tree, IsNumbered}
use Rattle.ups_store.proofs.Steps.{clean_before, kept_through, schema_through}
use Rattle.ups_store.proofs.Placed.{taken_more}
use Rattle.ups_store.proofs.drafting.read_rows.Goals as goal

pub read_one-requires-clause-table : goal.read_one-requires-clause-table
read_one-requires-clause-table g c clean =
    let inv = c.loop-at.invariant in
    let same = inv.same clean in
    subst (λ (v : View). v.shape c.args.table ≡ Table) (sym same) (c.requires.table (subst IsClean same clean))

pub read_one-requires-clause-numbered : goal.read_one-requires-clause-numbered
read_one-requires-clause-numbered g c clean =
    let inv = c.loop-at.invariant in
    let same = inv.same clean in
    subst (λ (v : View). IsNumbered (v.trees c.args.table)) (sym same) (c.requires.numbered (subst IsClean same clean))

pub read_one-requires-clause-within : goal.read_one-requires-clause-within
read_one-requires-clause-within g c clean =
    let inv = c.loop-at.invariant in
    let same = inv.same clean in
    subst (λ (v : View). c.args.from + c.loop-at.at < length (v.trees c.args.table)) (sym same) (omega (arith, c.requires.within (subst IsClean same clean)))

pub loop-at-preserved : goal.loop-at-preserved
loop-at-preserved g c =
    let old = g.S.Store.view c.args.store.now in
    let mid = g.S.Store.view c.loop-at.store in
    let new = g.S.Store.view c.read_one.new.store in
    let inv = c.loop-at.invariant in
    let t = c.args.table in
    let from = c.args.from in
    let at = c.loop-at.at in
    let r = c.in-Ok.request in
    let before = λ (clean : IsClean new). clean_before mid new c.read_one.ensures.quiet.clean clean in
    let pushed : c.push.new.self.items ≡ c.loop-at.found.items ++ r ∷ [] = search rules in
    record {
      quiet = search rules;
      kept = kept_through old mid new inv.kept c.read_one.ensures.kept;
      schema = schema_through old mid new inv.schema c.read_one.ensures.schema;
      same = λ clean. c.in-Ok.ensures.same clean ∙ inv.same (before clean);
      found = λ clean.
          let here = subst (λ (v : View). drop (from + at) (requests_in_tree v.trees t) ≡ r ∷ drop (from + at + 1) (requests_in_tree v.trees t)) (inv.same (before clean)) (c.in-Ok.ensures.read clean) in
          pushed ∙ ap (λ (rs : List StoredRequest). rs ++ r ∷ []) (inv.found (before clean)) ∙ sym (taken_more from at (requests_in_tree old.trees t) r here);
    }
