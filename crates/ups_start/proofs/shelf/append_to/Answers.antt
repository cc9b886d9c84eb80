use Rattle.std.proofs.Common.{◌≡◌, ◌⊎◌, inl, inr, ◌++◌, ◌∙◌, sym, ap, subst}
use Rattle.sqlite_trees.specs.Tree.{Trees}
use Rattle.ups_store.specs.Rows.{requests_in}
use Rattle.ups_store.specs.Shown.{requests_shown, requests, drafts}
use Rattle.ups_store.proofs.Steps.{open_clean}
use Rattle.ups_start.specs.Shelved.{records_in, drafts_on, IsOpenStore, Recovers}
use Rattle.ups_start.specs.Started.{said}
use Rattle.ups_start.proofs.Said.{said_more}
use Rattle.ups_start.proofs.Leaves.{leaves_before}
use Rattle.ups_start.proofs.shelf.append_to.Goals as goal

pub returns-in-Ok-clause-put : goal.returns-in-Ok-clause-put
returns-in-Ok-clause-put g c is_open =
    let clean = open_clean (requests_shown c.append.new.self) (g.met.S.Store.shut_if_dirty c.append.new.self.store) is_open in
    let more = said_more _ (requests c.append.new.self) c.args.run c.args.records.now (c.in-Ok.ensures.added clean) in
    subst (λ h. said (requests c.append.new.self) ≡ records_in h ++ c.args.records.now) (sym c.in-Open.is) more

pub returns-in-Ok-clause-drafts : goal.returns-in-Ok-clause-drafts
returns-in-Ok-clause-drafts g c is_open =
    let clean = open_clean (requests_shown c.append.new.self) (g.met.S.Store.shut_if_dirty c.append.new.self.store) is_open in
    subst (λ h. said (drafts c.append.new.self) ≡ drafts_on h) (sym c.in-Open.is) (ap said (c.in-Ok.ensures.drafts clean))

pub returns-in-Ok-clause-left : goal.returns-in-Ok-clause-left
returns-in-Ok-clause-left g c = λ rs left.
    let up = c.in-Ok.ensures.keeps.is_open left.clean in
    (up, sym left.are ∙ ap (λ (db : Trees). said (requests_in db)) (g.met.S.Store.settled c.append.new.self.store left.db up left.can_leave))

pub returns-in-Ok-clause-crash : goal.returns-in-Ok-clause-crash
returns-in-Ok-clause-crash g c = λ rs left.
    subst (λ h. Recovers h rs ⊎ (IsOpenStore h × (rs ≡ records_in h ++ c.args.records.now))) (sym c.in-Open.is)
    (elim (c.append.ensures.crash left.db left.can_leave) [
      | inl was ↦ inl (leaves_before c.in-Open.store c.append.new.self rs c.append.ensures.keeps.clean (g.met.S.Store.settled c.in-Open.store.store) left was)
      | inr both ↦ inr (both.0, sym left.are ∙ said_more _ (requests_in left.db) c.args.run c.args.records.now both.1)
    ])

pub returns-in-Err-clause-crash : goal.returns-in-Err-clause-crash
returns-in-Err-clause-crash g c = λ rs left.
    subst (λ h. Recovers h rs ⊎ (IsOpenStore h × (rs ≡ records_in h ++ c.args.records.now))) (sym c.in-Open.is)
    (elim (c.append.ensures.crash left.db left.can_leave) [
      | inl was ↦ inl (leaves_before c.in-Open.store c.append.new.self rs c.append.ensures.keeps.clean (g.met.S.Store.settled c.in-Open.store.store) left was)
      | inr both ↦ inr (both.0, sym left.are ∙ said_more _ (requests_in left.db) c.args.run c.args.records.now both.1)
    ])
