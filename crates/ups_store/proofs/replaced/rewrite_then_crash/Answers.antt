use Rattle.std.proofs.Common.{◌≡◌, inl, inr, map, sym, subst, ap, ◌∙◌}
use Rattle.sqlite_trees.specs.View.{IsClean}
use Rattle.sqlite_trees.specs.Tree.{Trees}
use Rattle.ups_store.specs.Rows.{stored_in_run, requests_in, table_in, IsNumbered}
use Rattle.ups_store.proofs.Tables.{numbered_at}
use Rattle.ups_store.specs.Rewriting.{records_of}
use Rattle.ups_store.specs.Held.{HasTables}
use Rattle.ups_store.proofs.Cleared.{both_ways, both_ok, told}
use Rattle.ups_store.proofs.replaced.rewrite_then_crash.Goals as goal

pub crash_and_reopen-requires : goal.crash_and_reopen-requires
crash_and_reopen-requires g c clean = c.replace.ensures.tables (subst (λ s. HasTables (g.S.Store.view s)) (sym c.rewrite-rewrite.ensures.same) (c.args.store.held c.requires).has.tables) clean

pub returns-clause-outcome : goal.returns-clause-outcome
returns-clause-outcome g c clean =
    let old = g.S.Store.view c.args.store.store in
    let new = g.S.Store.view c.replace.new.self.store in
    let found = (g.S.Store.view c.in_ok-again.again.store).committed in
    let all = map (stored_in_run c.args.entered_in) (records_of c.args.groups.now) in
    let after : g.S.Store.recovers c.replace.new.self.store found = c.in_ok-again.ensures.outcome clean in
    let mine : IsClean new = c.in_ok-again.ensures.clean clean in
    let was = λ (before : g.S.Store.recovers c.rewrite-rewrite.result.store found).
    let same : requests_in found ≡ requests_in old.committed = ap requests_in (g.met.S.Store.settled c.args.store.store found c.requires (subst (λ s. g.S.Store.recovers s found) c.rewrite-rewrite.ensures.same before)) in
    same in
    let done = both_ok c.replace.result (λ says is_open.
    let is : requests_in found ≡ all = ap requests_in (g.met.S.Store.settled c.replace.new.self.store found (is_open mine) after) ∙ says mine in
    is) c.replace.ensures.replaced c.replace.ensures.is_open in
    told c.replace.result c.is_ok-done.result c.is_ok-done.ensures.value done (both_ways was (λ said. said.0) (c.replace.ensures.crash found after))

pub returns-clause-numbered : goal.returns-clause-numbered
returns-clause-numbered g c clean =
    let it = c.args.store in
    let old = g.S.Store.view it.store in
    let found = (g.S.Store.view c.in_ok-again.again.store).committed in
    let h = it.held c.requires in
    let known : IsNumbered (old.committed (table_in old.committed)) = subst (λ (db : Trees). IsNumbered (db (table_in db))) h.same (numbered_at old.trees it.table h.tabled h.adding.numbered) in
    elim (c.replace.ensures.crash found (c.in_ok-again.ensures.outcome clean)) [
      | inl before ↦ subst (λ (db : Trees). IsNumbered (db (table_in db))) (sym (g.met.S.Store.settled it.store found c.requires (subst (λ s. g.S.Store.recovers s found) c.rewrite-rewrite.ensures.same before))) known
      | inr said ↦ said.1
    ]
