use Rattle.std.proofs.Common.{◌≡◌, ◌⊎◌, inl, inr, ◌∙◌, sym, ap, subst}
use Rattle.ups_store.specs.Shown.{requests_shown, requests}
use Rattle.ups_store.proofs.Steps.{open_clean}
use Rattle.ups_start.specs.Shelved.{records_in, IsOpenStore, Recovers}
use Rattle.ups_start.specs.Started.{said}
use Rattle.ups_start.proofs.Leaves.{leaves_before}
use Rattle.ups_start.proofs.drafting.clear_in.Goals as goal

pub returns-in-Ok-clause-none : goal.returns-in-Ok-clause-none
returns-in-Ok-clause-none g c none is_open =
    let clean = open_clean (requests_shown c.clear_drafts.new.self) (g.met.S.Store.shut_if_dirty c.clear_drafts.new.self.store) is_open in
    ap said (c.in-Ok.ensures.none clean none)

pub returns-in-Ok-clause-same : goal.returns-in-Ok-clause-same
returns-in-Ok-clause-same g c is_open =
    let clean = open_clean (requests_shown c.clear_drafts.new.self) (g.met.S.Store.shut_if_dirty c.clear_drafts.new.self.store) is_open in
    subst (λ h. said (requests c.clear_drafts.new.self) ≡ records_in h) (sym c.in-Open.is) (ap said (c.in-Ok.ensures.requests clean))

pub returns-in-Ok-clause-crash : goal.returns-in-Ok-clause-crash
returns-in-Ok-clause-crash g c = λ rs left.
    subst (λ h. Recovers h rs ⊎ (IsOpenStore h × (rs ≡ records_in h))) (sym c.in-Open.is)
    (elim (c.clear_drafts.ensures.crash left.db left.can_leave) [
      | inl was ↦ inl (leaves_before c.in-Open.store c.clear_drafts.new.self rs c.clear_drafts.ensures.keeps.clean (g.met.S.Store.settled c.in-Open.store.store) left was)
      | inr both ↦ inr (both.0, sym left.are ∙ ap said both.1)
    ])

pub returns-in-Err-clause-crash : goal.returns-in-Err-clause-crash
returns-in-Err-clause-crash g c = λ rs left.
    subst (λ h. Recovers h rs ⊎ (IsOpenStore h × (rs ≡ records_in h))) (sym c.in-Open.is)
    (elim (c.clear_drafts.ensures.crash left.db left.can_leave) [
      | inl was ↦ inl (leaves_before c.in-Open.store c.clear_drafts.new.self rs c.clear_drafts.ensures.keeps.clean (g.met.S.Store.settled c.in-Open.store.store) left was)
      | inr both ↦ inr (both.0, sym left.are ∙ ap said both.1)
    ])
