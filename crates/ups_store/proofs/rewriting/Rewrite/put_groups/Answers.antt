use Rattle.std.proofs.Common.{rules, ◌≡◌, ◌<◌, ◌++◌, map, take, length, List, sym, ap, ◌∙◌, append_assoc, arith}
use Rattle.sqlite_trees.specs.View.{IsClean}
use Rattle.std.specs.declared.alloc.Global.{Global}
use Rattle.ups_journal.specs.declared.record.Record.{Record}
use Rattle.ups_store.specs.declared.request.StoredRequest.{StoredRequest}
use Rattle.ups_store.specs.Rows.{stored_in_run, requests_in}
use Rattle.ups_store.specs.Rewriting.{records_of}
use Rattle.ups_store.proofs.Steps.{clean_before, schema_through}
use Rattle.ups_store.proofs.Cleared.{entered_more}
use Rattle.ups_store.proofs.rewriting.Rewrite.put_groups.Goals as goal

pub loop-at-preserved : goal.loop-at-preserved
loop-at-preserved g c =
    let old = g.S.Store.view c.args.self.now.store in
    let mid = g.S.Store.view c.loop-at.self.store in
    let new = g.S.Store.view c.put.new.self.store in
    let inv = c.loop-at.invariant in
    let groups = c.args.groups.now in
    let run = c.args.run in
    let x = c.index-groups-at.result in
    let within : c.loop-at.at < length groups = omega arith in
    let same : c.deref.result.now ≡ x.items = search rules in
    let before = λ (clean : IsClean new). clean_before mid new c.put.ensures.quiet.clean clean in
    record {
      quiet = search rules;
      schema = schema_through old mid new inv.schema c.put.ensures.schema;
      added = λ clean.
          let put : requests_in new.trees ≡ requests_in mid.trees ++ map (stored_in_run run) c.deref.result.now = c.in_ok-put.ensures.added clean in
          put ∙ ap (λ (rs : List (Record Global)). requests_in mid.trees ++ map (stored_in_run run) rs) same ∙ ap (λ (rs : List StoredRequest). rs ++ map (stored_in_run run) x.items) (inv.added (before clean))
          ∙ append_assoc (requests_in old.trees) (map (stored_in_run run) (records_of (take c.loop-at.at groups))) (map (stored_in_run run) x.items)
          ∙ ap (λ (rs : List StoredRequest). requests_in old.trees ++ rs) (sym (entered_more run c.loop-at.at groups x within c.index-groups-at.is));
    }
