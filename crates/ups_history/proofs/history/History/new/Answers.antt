use Rattle.std.proofs.Common.{ap}
use Rattle.ups_history.specs.Kept.{joined}
use Rattle.ups_history.proofs.Keeping.{kept_new}
use Rattle.ups_history.proofs.history.History.new.Goals as goal

pub invariant_of-result : goal.invariant_of-result
invariant_of-result g c = kept_new (joined c.new.result.items) c.new-2.result.items c.new-3.result.items c.new-4.result.entries (ap joined c.new.ensures) c.new-2.ensures.items c.new-3.ensures.items c.new-4.ensures.empty
