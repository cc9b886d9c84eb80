use Rattle.ups_reports.proofs.Sizes.{payload_length}
use Rattle.ups_reports.proofs.laws.a_payload_is_little_more_than_what_was_sent.Goals as goal

pub returns : goal.returns
returns g c = payload_length
