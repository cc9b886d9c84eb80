use Rattle.ups_compact.proofs.Counting.{has_added}
use Rattle.ups_compact.proofs.steps.put_uid.Goals as goal

pub returns-in_ok-insert : goal.returns-in_ok-insert
returns-in_ok-insert g c = λ other. has_added c.args.uids.now c.insert.new.self c.in_ok-from_slice.field-0 c.args.uid.now other c.in_ok-insert.ensures.keys c.in_ok-from_slice.ensures.items
