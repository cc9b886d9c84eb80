use Rattle.std.proofs.Common.{rules}
use Rattle.ups_dimse.proofs.tag_list.Tags.from_vec.Goals as goal

pub returns : goal.returns
returns g c = search rules
