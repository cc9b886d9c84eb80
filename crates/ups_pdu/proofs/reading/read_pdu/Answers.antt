use Rattle.ups_pdu.proofs.Whole.{front_from_spelled, found_front, only_front}
use Rattle.ups_pdu.proofs.reading.read_pdu.Goals as goal

pub returns-clause-found : goal.returns-clause-found
returns-clause-found g c = found_front c.args.bytes.now c.front_of.result c.front_of.ensures

pub returns-clause-only : goal.returns-clause-only
returns-clause-only g c = λ n pdu le s. only_front c.args.bytes.now c.front_of.result c.front_of.ensures pdu n (front_from_spelled c.args.bytes.now pdu n le s)
