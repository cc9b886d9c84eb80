use Rattle.std.proofs.Common.{◌≡◌, drop}
use Rattle.ups_life.specs.History.{has_all}
use Rattle.ups_life.proofs.showing.has_all.Given as goal

abbrev pub invariant-loop-tag : goal.invariant-loop-tag
invariant-loop-tag g l = has_all l.set l.tags ≡ has_all l.set (drop l.tag-index l.tags)
