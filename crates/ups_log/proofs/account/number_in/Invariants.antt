use Rattle.std.proofs.Common.{length}
use Rattle.ups_log.proofs.account.number_in.Given as goal

abbrev pub decreases-loop-rest : goal.decreases-loop-rest
decreases-loop-rest l = length l.rest
