use Rattle.std.proofs.Common.{◌≡◌, ◌⊎◌, inl, inr, ◌++◌, ◌∙◌, sym, ap, subst}
use Rattle.ups_store.specs.Shown.{requests_shown, requests, drafts}
use Rattle.ups_store.proofs.Steps.{open_clean}
use Rattle.ups_start.specs.Shelved.{records_in, drafts_on, IsOpenStore, Recovers}
use Rattle.ups_start.specs.Started.{said}
use Rattle.ups_start.proofs.Said.{said_more}
use Rattle.ups_start.proofs.Leaves.{leaves_before}
use Rattle.ups_start.proofs.drafting.draft_in.Goals as goal

pub returns-in-Ok-clause-put : goal.returns-in-Ok-clause-put
returns-in-Ok-clause-put g c is_open =
    let clean = open_clean (requests_shown c.draft.new.self) (g.met.S.Store.shut_if_dirty c.draft.new.self.store) is_open in
    let more = said_more _ (drafts c.draft.new.self) c.args.run c.args.records.now (c.in-Ok.ensures.added clean) in
    subst (λ h. said (drafts c.draft.new.self) ≡ drafts_on h ++ c.args.records.now) (sym c.in-Open.is) more

pub returns-in-Ok-clause-same : goal.returns-in-Ok-clause-same
returns-in-Ok-clause-same g c is_open =
    let clean = open_clean (requests_shown c.draft.new.self) (g.met.S.Store.shut_if_dirty c.draft.new.self.store) is_open in
    subst (λ h. said (requests c.draft.new.self) ≡ records_in h) (sym c.in-Open.is) (ap said (c.in-Ok.ensures.requests clean))

pub returns-in-Ok-clause-crash : goal.returns-in-Ok-clause-crash
returns-in-Ok-clause-crash g c = λ rs left.
    subst (λ h. Recovers h rs ⊎ (IsOpenStore h × (rs ≡ records_in h))) (sym c.in-Open.is)
    (elim (c.draft.ensures.crash left.db left.can_leave) [
      | inl was ↦ inl (leaves_before c.in-Open.store c.draft.new.self rs c.draft.ensures.keeps.clean (g.met.S.Store.settled c.in-Open.store.store) left was)
      | inr both ↦ inr (both.0, sym left.are ∙ ap said both.1)
    ])

pub returns-in-Err-clause-crash : goal.returns-in-Err-clause-crash
returns-in-Err-clause-crash g c = λ rs left.
    subst (λ h. Recovers h rs ⊎ (IsOpenStore h × (rs ≡ records_in h))) (sym c.in-Open.is)
    (elim (c.draft.ensures.crash left.db left.can_leave) [
      | inl was ↦ inl (leaves_before c.in-Open.store c.draft.new.self rs c.draft.ensures.keeps.clean (g.met.S.Store.settled c.in-Open.store.store) left was)
      | inr both ↦ inr (both.0, sym left.are ∙ ap said both.1)
    ])
