use Rattle.std.proofs.Common.{sym, subst}
use Rattle.ups_requests.specs.Asking.{IsUnasked}
use Rattle.ups_requests.proofs.Unread.{unasked_is}
use Rattle.ups_requests.proofs.meaning.ask_of.Goals as goal

pub returns-in-Err-clause-unasked : goal.returns-in-Err-clause-unasked
returns-in-Err-clause-unasked g c =
    subst (IsUnasked c.args.offset c.args.operation.now c.args.data_set.now) (sym c.without_set.ensures)
    (unasked_is c.args.offset c.args.operation.now c.args.data_set.now c.in-Err.fault c.in-Err.ensures.found c.in-Err.ensures.only)
