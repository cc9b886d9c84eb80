use Rattle.std.proofs.Common.{rules, ◌≡◌, ◌+◌, ◌<◌, ◌∷◌, [], ◌++◌, ℕ, map, take, length, get_or, pos, List, subst, sym, ap, ◌∙◌, arith}
use Rattle.std.proofs.lemmas.List.{map_more, length-map, length-take-le}
use Rattle.std.specs.declared.alloc.Global.{Global}
use Rattle.sqlite_trees.specs.declared.store.Shape.{Shape}
use Rattle.sqlite_trees.specs.View.{IsClean, IsStorableRow}
use Rattle.ups_journal.specs.declared.record.Record.{Record}
use Rattle.ups_store.specs.declared.request.StoredRequest.{StoredRequest}
use Rattle.ups_store.specs.Rows.{stored_in_run, request_row}
use Rattle.ups_store.specs.Held.{Adds}
use Rattle.ups_store.specs.Storing.{HasTooLarge}
use Rattle.ups_store.proofs.Steps.{clean_before, kept_through, schema_through, adds_more, later_cause}
use Rattle.ups_store.proofs.Tables.{others_through}
use Rattle.ups_store.proofs.store.put_all.Goals as goal

-- what was recorded with one more record
one_more : (run : ℕ) (records : List (Record Global)) (at : ℕ) (x : Record Global) → at < length records → x ≡ get_or records at x → map (stored_in_run run) (take (at + 1) records) ≡ map (stored_in_run run) (take at records) ++ stored_in_run run x ∷ []
one_more run records at x within is = map_more (stored_in_run run) records at x within ∙ ap (λ (r : Record Global). map (stored_in_run run) (take at records) ++ stored_in_run run r ∷ []) (sym is)

pub returns-in-Err-clause-cause : goal.returns-in-Err-clause-cause
returns-in-Err-clause-cause g c clean =
    let old = g.S.Store.view c.args.store.now in
    let mid = g.S.Store.view c.loop-at.store in
    let new = g.S.Store.view c.put_one.new.store in
    let inv = c.loop-at.invariant in
    let x = c.index-records-at.result in
    let within : c.loop-at.at < length c.args.records.now = omega arith in
    let large = λ (h : ¬ IsStorableRow (mid.reals c.args.table) (request_row (pos (c.args.count + c.loop-at.at + 1)) (stored_in_run c.args.run x))).
    let why : HasTooLarge old c.args.table c.args.run c.args.records.now = (c.loop-at.at, x, within, sym c.index-records-at.is, (c.args.count + c.loop-at.at + 1, subst (λ (r : ℕ → ℕ). ¬ IsStorableRow (r c.args.table) (request_row (pos (c.args.count + c.loop-at.at + 1)) (stored_in_run c.args.run x))) inv.schema.reals h)) in
    why in
    later_cause old mid _ _ _ _ _ c.in-Err.error inv.quiet.counts (inv.added (clean_before mid new c.put_one.ensures.quiet.clean clean)).adding.sound large (c.in-Err.ensures.cause clean)

pub loop-at-preserved : goal.loop-at-preserved
loop-at-preserved g c =
    let old = g.S.Store.view c.args.store.now in
    let mid = g.S.Store.view c.loop-at.store in
    let new = g.S.Store.view c.put_one.new.store in
    let inv = c.loop-at.invariant in
    let records = c.args.records.now in
    let x = c.index-records-at.result in
    let f = stored_in_run c.args.run in
    let before = λ (clean : IsClean new). clean_before mid new c.put_one.ensures.quiet.clean clean in
    let within : c.loop-at.at < length records = omega arith in
    let number : c.args.count + c.loop-at.at ≡ c.args.count + length (map f (take c.loop-at.at records)) = omega (arith, length-map (take c.loop-at.at records) f, length-take-le c.loop-at.at records (omega arith)) in
    record {
      quiet = search rules;
      kept = kept_through old mid new inv.kept c.put_one.ensures.kept;
      schema = schema_through old mid new inv.schema c.put_one.ensures.schema;
      table = λ clean. ap (λ (s : ℕ → Shape). s c.args.table) c.put_one.ensures.schema.shape ∙ inv.table (before clean);
      sound = λ clean. inv.sound (before clean);
      added = λ clean. subst (λ (rs : List StoredRequest). Adds old new c.args.table rs c.args.count) (sym (one_more c.args.run records c.loop-at.at x within c.index-records-at.is))
          (adds_more old mid new c.args.table (map f (take c.loop-at.at records)) (f x) c.args.count (c.args.count + c.loop-at.at) number (inv.added (before clean)) (c.in-Ok.ensures.added clean));
      others = λ clean. others_through old mid new c.args.table (inv.others (before clean)) (c.in-Ok.ensures.others clean);
    }
