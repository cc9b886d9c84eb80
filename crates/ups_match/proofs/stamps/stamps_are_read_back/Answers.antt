use Rattle.ups_match.proofs.ReadingBack.{read_back}
use Rattle.ups_match.proofs.stamps.stamps_are_read_back.Goals as goal

pub returns : goal.returns
returns c = read_back
