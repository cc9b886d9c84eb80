use Rattle.std.proofs.Common.{◌≡◌, rules}
use Rattle.ups_pdu.specs.Written.{written_pdu}
use Rattle.ups_pdu.proofs.Again.{written_again}
use Rattle.ups_pdu.proofs.writing.write_pdu.Goals as goal

pub returns-clause-again : goal.returns-clause-again
returns-clause-again g c =
    let e : c.close_pdu.new.out.items ≡ written_pdu c.args.pdu.now = search rules in
    rw e (written_again c.args.pdu.now c.requires)
