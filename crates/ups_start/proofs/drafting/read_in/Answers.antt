use Rattle.std.proofs.Common.{◌≡◌, sym, subst}
use Rattle.std.specs.Prelude.{take, drop}
use Rattle.ups_store.specs.Shown.{requests_shown, requests}
use Rattle.ups_store.proofs.Steps.{open_clean}
use Rattle.ups_start.specs.Shelved.{records_in, Recovers}
use Rattle.ups_start.specs.Started.{said}
use Rattle.ups_start.proofs.Said.{said_within}
use Rattle.ups_start.proofs.Leaves.{leaves_before}
use Rattle.ups_start.proofs.drafting.read_in.Goals as goal

pub returns-in-Ok-clause-read : goal.returns-in-Ok-clause-read
returns-in-Ok-clause-read g c is_open =
    let clean = open_clean (requests_shown c.read_from.new.self) (g.met.S.Store.shut_if_dirty c.read_from.new.self.store) is_open in
    subst (λ h. said c.in-Ok.requests.items ≡ take c.args.most (drop c.args.from (records_in h))) (sym c.in-Open.is) (said_within (requests c.in-Open.store) c.in-Ok.requests.items c.args.from c.args.most (c.in-Ok.ensures.read clean))

pub returns-in-Ok-clause-crash : goal.returns-in-Ok-clause-crash
returns-in-Ok-clause-crash g c = λ rs left.
    subst (λ h. Recovers h rs) (sym c.in-Open.is) (leaves_before c.in-Open.store c.read_from.new.self rs c.read_from.ensures.clean (g.met.S.Store.settled c.in-Open.store.store) left (c.read_from.ensures.crash left.db left.can_leave))

pub returns-in-Err-clause-crash : goal.returns-in-Err-clause-crash
returns-in-Err-clause-crash g c = λ rs left.
    subst (λ h. Recovers h rs) (sym c.in-Open.is) (leaves_before c.in-Open.store c.read_from.new.self rs c.read_from.ensures.clean (g.met.S.Store.settled c.in-Open.store.store) left (c.read_from.ensures.crash left.db left.can_leave))
