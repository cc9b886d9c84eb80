use Rattle.std.proofs.Common.{sym, subst}
use Rattle.ups_store.specs.Shown.{requests_shown, requests}
use Rattle.ups_store.proofs.Steps.{open_clean}
use Rattle.ups_start.specs.Started.{said}
use Rattle.ups_start.specs.Shelved.{kept_in, IsHonest, IsCounted, IsDrafted}
use Rattle.ups_start.specs.Front.{AreFront, front_with}
use Rattle.ups_start.specs.Reopened.{AreBehindSame}
use Rattle.ups_start.proofs.Digested.{front_of_behind}
use Rattle.ups_start.proofs.ledger.StoreLedger.append_anew.Goals as goal

pub invariant_of-self : goal.invariant_of-self
invariant_of-self g c = record {
  counted =
      let store = c.in-Ok.store in
      let all = said (requests store) in
      subst (λ shelf. IsCounted shelf) (sym c.take_up.ensures) (λ up.
      let clean = open_clean (requests_shown store) (g.met.P.Store.Store.shut_if_dirty store.store) up in
      let front = c.args.self.now.shelf.front in
      let are = front_of_behind all c.args.records.now front (c.in-Ok.ensures.behind front c.in_ok-reopened.ensures.behind clean) in
      subst (λ f. AreFront all f) (sym c.in-Some.ensures) (subst (λ f. AreFront all (front_with f c.args.records.now)) (sym c.reopen.ensures.same) are));
  drafted = subst (λ shelf. IsDrafted shelf) (sym c.take_up.ensures) (λ up front is. cc);
}

pub returns-in-Ok-clause-behind : goal.returns-in-Ok-clause-behind
returns-in-Ok-clause-behind g c =
    subst (λ shelf. IsHonest shelf → AreBehindSame (kept_in shelf) c.args.self.now.shelf.front c.args.records.now) (sym c.take_up.ensures)
    (λ clean. c.in-Ok.ensures.behind c.args.self.now.shelf.front c.in_ok-reopened.ensures.behind clean)
