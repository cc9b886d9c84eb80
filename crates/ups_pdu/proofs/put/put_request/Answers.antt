use Rattle.std.proofs.Common.{rules, append_assoc}
use Rattle.ups_pdu.specs.Written.{associate_items}
use Rattle.ups_pdu.proofs.put.put_request.Goals as goal

pub returns : goal.returns
unfolding associate_items
returns g c = search (rules, append_assoc)
