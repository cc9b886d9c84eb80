use Rattle.std.proofs.Common.{w16}
use Rattle.std.proofs.lemmas.Int.{to_z-of_z}
use Rattle.ups_dataset.specs.declared.dictionary.TheConstants.{SCHEDULED_PROCEDURE_STEP_START_DATE_TIME}
use Rattle.ups_match.proofs.KeyWalks.{value_at_is}
use Rattle.ups_match.proofs.first.start_range.Goals as goal

pub returns-in_default : goal.returns-in_default
returns-in_default g c = rw (value_at_is SCHEDULED_PROCEDURE_STEP_START_DATE_TIME c.args.keys.now, c.in_default.ensures)

pub returns-in-Bytes : goal.returns-in-Bytes
returns-in-Bytes g c =
    rw (value_at_is SCHEDULED_PROCEDURE_STEP_START_DATE_TIME c.args.keys.now, c.in-Some.ensures, c.in-Bytes.is)
    (rw (to_z-of_z w16 c.args.offset c.ranges.offset, to_z-of_z w16 c.args.configured c.ranges.configured, c.as_slice.ensures) at c.range_of.ensures)

pub returns-in-Items : goal.returns-in-Items
returns-in-Items g c = rw (value_at_is SCHEDULED_PROCEDURE_STEP_START_DATE_TIME c.args.keys.now, c.in-Some.ensures, c.in-Items.is)
