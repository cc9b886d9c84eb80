use Rattle.ups_assoc.proofs.TitleOf.{title_is}
use Rattle.ups_assoc.proofs.negotiating.title_of.Goals as goal

pub returns : goal.returns
returns c = title_is c.args.bytes.now c.of.result c.of.ensures
