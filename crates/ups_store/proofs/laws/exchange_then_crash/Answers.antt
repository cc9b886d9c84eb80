use Rattle.std.proofs.Common.{◌≡◌, inl, inr, sym, subst, ap, ◌∙◌}
use Rattle.sqlite_trees.specs.Tree.{Trees}
use Rattle.sqlite_trees.specs.View.{IsClean}
use Rattle.ups_store.specs.Rows.{requests_in, drafts_in, table_in, IsNumbered}
use Rattle.ups_store.proofs.Cleared.{both_ways, both_ok, told}
use Rattle.ups_store.proofs.Tables.{numbered_at}
use Rattle.ups_store.proofs.laws.exchange_then_crash.Goals as goal

pub returns-clause-outcome : goal.returns-clause-outcome
returns-clause-outcome g c clean =
    let it = c.args.store in
    let old = g.S.Store.view it.store in
    let new = g.S.Store.view c.exchange.new.self.store in
    let found = (g.S.Store.view c.in_ok-again.again.store).committed in
    let all = drafts_in old.committed in
    let after : g.S.Store.recovers c.exchange.new.self.store found = c.in_ok-again.ensures.outcome clean in
    let mine : IsClean new = c.in_ok-again.ensures.clean clean in
    let was = λ (before : g.S.Store.recovers it.store found).
    let same : requests_in found ≡ requests_in old.committed = ap requests_in (g.met.S.Store.settled it.store found c.requires before) in
    same in
    let done = both_ok c.exchange.result (λ says is_open.
    let is : requests_in found ≡ all = ap requests_in (g.met.S.Store.settled c.exchange.new.self.store found (is_open mine) after) ∙ says mine in
    is) c.exchange.ensures.exchanged c.exchange.ensures.keeps.is_open in
    told c.exchange.result c.is_ok-done.result c.is_ok-done.ensures.value done (both_ways was (λ said. said.1) (c.exchange.ensures.crash found after))

pub returns-clause-numbered : goal.returns-clause-numbered
returns-clause-numbered g c clean =
    let it = c.args.store in
    let old = g.S.Store.view it.store in
    let found = (g.S.Store.view c.in_ok-again.again.store).committed in
    let h = it.held c.requires in
    let known : IsNumbered (old.committed (table_in old.committed)) = subst (λ (db : Trees). IsNumbered (db (table_in db))) h.same (numbered_at old.trees it.table h.tabled h.adding.numbered) in
    elim (c.exchange.ensures.crash found (c.in_ok-again.ensures.outcome clean)) [
      | inl before ↦ subst (λ (db : Trees). IsNumbered (db (table_in db))) (sym (g.met.S.Store.settled it.store found c.requires before)) known
      | inr said ↦ said.2
    ]
