use Rattle.std.proofs.Common.{w16}
use Rattle.std.proofs.lemmas.Int.{to_z-of_z}
use Rattle.ups_requests.proofs.Determined.{tells_line}
use Rattle.ups_requests.proofs.telling.line_of.Goals as goal

pub returns-clause-tells : goal.returns-clause-tells
returns-clause-tells g c = tells_line _ c.args.offset _ c.in_ok-line.line.items c.args.stored.now (to_z-of_z w16 c.args.offset c.ranges.offset) c.as_slice-2.ensures.value c.in_ok-check_told.ensures
