use Rattle.std.proofs.Common.{◌≡◌, ◌⊎◌, inl, inr, ◌∙◌, sym, ap, subst}
use Rattle.sqlite_trees.specs.Tree.{Trees}
use Rattle.ups_store.specs.Rows.{requests_in}
use Rattle.ups_store.specs.Shown.{requests_shown, requests}
use Rattle.ups_store.proofs.Steps.{open_clean}
use Rattle.ups_start.specs.Shelved.{drafts_on, IsOpenStore, Recovers}
use Rattle.ups_start.specs.Started.{said}
use Rattle.ups_start.proofs.Leaves.{leaves_before}
use Rattle.ups_start.proofs.drafting.exchange_in.Goals as goal

pub returns-in-Ok-clause-put : goal.returns-in-Ok-clause-put
returns-in-Ok-clause-put g c is_open =
    let clean = open_clean (requests_shown c.exchange.new.self) (g.met.S.Store.shut_if_dirty c.exchange.new.self.store) is_open in
    subst (λ h. said (requests c.exchange.new.self) ≡ drafts_on h) (sym c.in-Open.is) (ap said (c.in-Ok.ensures.exchanged clean))

pub returns-in-Ok-clause-left : goal.returns-in-Ok-clause-left
returns-in-Ok-clause-left g c = λ rs left.
    let up = c.in-Ok.ensures.keeps.is_open left.clean in
    (up, sym left.are ∙ ap (λ (db : Trees). said (requests_in db)) (left.settled up))

pub returns-in-Ok-clause-crash : goal.returns-in-Ok-clause-crash
returns-in-Ok-clause-crash g c = λ rs left.
    subst (λ h. Recovers h rs ⊎ (IsOpenStore h × (rs ≡ drafts_on h))) (sym c.in-Open.is)
    (elim (c.exchange.ensures.crash left.db left.can_leave) [
      | inl was ↦ inl (leaves_before c.in-Open.store c.exchange.new.self rs c.exchange.ensures.keeps.clean (g.met.S.Store.settled c.in-Open.store.store) left was)
      | inr both ↦ inr (both.0, sym left.are ∙ ap said both.1)
    ])

pub returns-in-Err-clause-crash : goal.returns-in-Err-clause-crash
returns-in-Err-clause-crash g c = λ rs left.
    subst (λ h. Recovers h rs ⊎ (IsOpenStore h × (rs ≡ drafts_on h))) (sym c.in-Open.is)
    (elim (c.exchange.ensures.crash left.db left.can_leave) [
      | inl was ↦ inl (leaves_before c.in-Open.store c.exchange.new.self rs c.exchange.ensures.keeps.clean (g.met.S.Store.settled c.in-Open.store.store) left was)
      | inr both ↦ inr (both.0, sym left.are ∙ ap said both.1)
    ])
