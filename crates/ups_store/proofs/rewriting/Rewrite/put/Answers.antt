use Rattle.std.proofs.Common.{rules, ◌≡◌, ◌++◌, List, map, subst, sym, ap, ◌∙◌, arith}
use Rattle.ups_store.specs.declared.request.StoredRequest.{StoredRequest}
use Rattle.std.proofs.lemmas.List.{length-map}
use Rattle.ups_store.specs.declared.rewriting.Progress.TheVariants.{Putting}
use Rattle.ups_store.specs.Rows.{stored_in_run}
use Rattle.ups_store.specs.Held.{IsAdding}
use Rattle.ups_store.proofs.Steps.{open_clean, sound_open}
use Rattle.ups_store.proofs.Cleared.{table_as}
use Rattle.ups_store.proofs.Tables.{low_from, not_runs, table_stays, requests_at}
use Rattle.ups_store.proofs.rewriting.Rewrite.put.Goals as goal

pub put_all-requires-clause-table : goal.put_all-requires-clause-table
put_all-requires-clause-table g c clean sound =
    let it = c.args.self.now in
    let old = g.S.Store.view it.store in
    let whole : it.progress ≡ Putting = c.in-Putting.is in
    (it.tables whole (sound_open old (g.met.S.Store.broken_if_shut it.store) sound)).shaped

pub invariant_of-self-2 : goal.invariant_of-self-2
invariant_of-self-2 g c =
    let it = c.args.self.now in
    let old = g.S.Store.view it.store in
    let new = g.S.Store.view c.put_all.new.store in
    let whole : it.progress ≡ Putting = c.in-Putting.is in
    record {
      held = search rules;
      tables = λ _ up. table_as old new it.table c.put_all.ensures.schema (it.tables whole (c.put_all.ensures.kept.was_open up));
      adding = λ _ sound.
          let up = sound_open new (g.met.S.Store.broken_if_shut c.put_all.new.store) sound in
          let clean = open_clean new (g.met.S.Store.shut_if_dirty c.put_all.new.store) up in
          let was = it.adding whole (c.in_ok-put_all.ensures.sound clean) in
          record {
            adding = subst (IsAdding new it.table) (omega (arith, length-map c.args.records.now (stored_in_run c.args.run), c.in-Some.ensures.0)) (c.in_ok-put_all.ensures.added clean).adding;
            tabled = table_stays old new it.table (low_from _ it.table was.tabled) (c.in_ok-put_all.ensures.others clean) ∙ was.tabled;
          };
    }

pub returns-clause-added : goal.returns-clause-added
returns-clause-added g c clean =
    let it = c.args.self.now in
    let old = g.S.Store.view it.store in
    let new = g.S.Store.view c.put_all.new.store in
    let whole : it.progress ≡ Putting = c.in-Putting.is in
    let was = it.adding whole (c.in_ok-put_all.ensures.sound clean) in
    let now = table_stays old new it.table (low_from _ it.table was.tabled) (c.in_ok-put_all.ensures.others clean) ∙ was.tabled in
    requests_at new.trees it.table now ∙ (c.in_ok-put_all.ensures.added clean).more ∙ ap (λ (rs : List StoredRequest). rs ++ map (stored_in_run c.args.run) c.args.records.now) (sym (requests_at old.trees it.table was.tabled))

pub returns-clause-runs : goal.returns-clause-runs
returns-clause-runs g c clean =
    let it = c.args.self.now in
    let whole : it.progress ≡ Putting = c.in-Putting.is in
    let was = it.adding whole (c.in_ok-put_all.ensures.sound clean) in
    c.in_ok-put_all.ensures.others clean 1 (not_runs it.table (low_from _ it.table was.tabled))
