use Rattle.std.proofs.Common.{◌≡◌, drop}
use Rattle.ups_assoc.specs.Contexts.{first_syntax}
use Rattle.ups_assoc.proofs.negotiating.first_syntax.Given as goal

abbrev pub invariant-loop-uid : goal.invariant-loop-uid
invariant-loop-uid l = first_syntax l.uids ≡ first_syntax (drop l.uid-index l.uids)
