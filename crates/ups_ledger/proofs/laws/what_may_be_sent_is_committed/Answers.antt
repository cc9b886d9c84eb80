use Rattle.std.proofs.Common.{◌≤◌, arith, length}
use Rattle.ups_ledger.proofs.laws.what_may_be_sent_is_committed.Goals as goal

pub returns : goal.returns
returns g c = λ moved.
    let withheld = c.args.withheld.now in
    let few : length withheld.seated.pass.seen ≤ c.args.committed.now.count = omega (arith, withheld.covers moved, withheld.same, c.audit.ensures.part, c.requires) in
    c.args.committed.now.backed (length withheld.seated.pass.seen) few
