use Rattle.std.proofs.Common.{sym, subst, ap, ◌∙◌, if◌then◌else◌}
use Rattle.ups_store.specs.Shown.{requests_shown}
use Rattle.ups_store.proofs.Steps.{open_clean}
use Rattle.ups_start.specs.declared.shelf.Shelf.{Shelf}
use Rattle.ups_start.specs.Front.{AreFront}
use Rattle.ups_start.specs.Shelved.{kept_in, IsHonest, IsCounted, IsDrafted}
use Rattle.ups_start.proofs.ledger.StoreLedgerDraftLedger.settle.Goals as goal

pub invariant_of-self-in-Ok : goal.invariant_of-self-in-Ok
invariant_of-self-in-Ok g c = record {
  counted =
      let store = c.in-Ok.settled.store in
      subst (λ shelf. IsCounted shelf) (sym c.take_up.ensures) (λ up. c.in-Ok.ensures.are (open_clean (requests_shown store) (g.met.P.Store.Store.shut_if_dirty store.store) up));
  drafted = subst (λ shelf. IsDrafted shelf) (sym c.take_up.ensures) (λ up front is. cc);
}

pub returns-in-Ok-clause-settled : goal.returns-in-Ok-clause-settled
returns-in-Ok-clause-settled g c = record {
  drafted = c.in-InDoubt.drafted;
  was = c.in-InDoubt.is;
  front = ap (λ (shelf : Shelf _ _). shelf.front) c.take_up.ensures ∙ (c.in-Ok.ensures.front ∙ ap (λ f. if c.in-Ok.settled.is_made then c.in-InDoubt.drafted else f) c.in_ok-before.ensures.front);
  are = subst (λ shelf. IsHonest shelf → AreFront (kept_in shelf) shelf.front) (sym c.take_up.ensures) c.in-Ok.ensures.are;
}
