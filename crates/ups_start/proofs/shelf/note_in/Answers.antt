use Rattle.std.proofs.Common.{◌≡◌, ◌⊎◌, inl, inr, ◌∙◌, ap, sym, subst}
use Rattle.ups_store.specs.Shown.{requests_shown, requests, drafts}
use Rattle.ups_store.proofs.Steps.{open_clean}
use Rattle.ups_start.specs.Shelved.{records_in, drafts_on, IsOpenStore, Recovers}
use Rattle.ups_start.specs.Started.{said}
use Rattle.ups_start.proofs.Leaves.{leaves_before}
use Rattle.ups_start.proofs.shelf.note_in.Goals as goal

pub returns-in-Ok-clause-same : goal.returns-in-Ok-clause-same
returns-in-Ok-clause-same g c is_open =
    let clean = open_clean (requests_shown c.note_requests.new.self) (g.met.S.Store.shut_if_dirty c.note_requests.new.self.store) is_open in
    subst (λ h. said (requests c.note_requests.new.self) ≡ records_in h) (sym c.in-Open.is) (ap said (c.in-Ok.ensures.requests clean))

pub returns-in-Ok-clause-drafts : goal.returns-in-Ok-clause-drafts
returns-in-Ok-clause-drafts g c is_open =
    let clean = open_clean (requests_shown c.note_requests.new.self) (g.met.S.Store.shut_if_dirty c.note_requests.new.self.store) is_open in
    subst (λ h. said (drafts c.note_requests.new.self) ≡ drafts_on h) (sym c.in-Open.is) (ap said (c.in-Ok.ensures.drafts clean))

pub returns-in-Ok-clause-crash : goal.returns-in-Ok-clause-crash
returns-in-Ok-clause-crash g c = λ rs left.
    subst (λ h. Recovers h rs ⊎ (IsOpenStore h × (rs ≡ records_in h))) (sym c.in-Open.is)
    (elim (c.note_requests.ensures.crash left.db left.can_leave) [
      | inl was ↦ inl (leaves_before c.in-Open.store c.note_requests.new.self rs c.note_requests.ensures.keeps.clean (g.met.S.Store.settled c.in-Open.store.store) left was)
      | inr both ↦ inr (both.0, sym left.are ∙ ap said both.1)
    ])

pub returns-in-Err-clause-crash : goal.returns-in-Err-clause-crash
returns-in-Err-clause-crash g c = λ rs left.
    subst (λ h. Recovers h rs ⊎ (IsOpenStore h × (rs ≡ records_in h))) (sym c.in-Open.is)
    (elim (c.note_requests.ensures.crash left.db left.can_leave) [
      | inl was ↦ inl (leaves_before c.in-Open.store c.note_requests.new.self rs c.note_requests.ensures.keeps.clean (g.met.S.Store.settled c.in-Open.store.store) left was)
      | inr both ↦ inr (both.0, sym left.are ∙ ap said both.1)
    ])
