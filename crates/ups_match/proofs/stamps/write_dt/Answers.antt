use Rattle.std.proofs.Common.{w16}
use Rattle.std.proofs.lemmas.Int.{to_z-of_z}
use Rattle.ups_match.proofs.Joining.{stamp_parts}
use Rattle.ups_match.proofs.stamps.write_dt.Goals as goal

pub returns : goal.returns
returns c =
    let same = to_z-of_z w16 c.args.offset c.ranges.offset in
    let local = rw same at c.local_second-local.ensures.value in
    let zone = rw same at c.offset_stamp.ensures in
    stamp_parts c.args.moment c.args.offset c.local_second-local.result c.date_stamp.result c.time_stamp.result c.offset_stamp.result c.date_stamp.ensures c.time_stamp.ensures zone local
