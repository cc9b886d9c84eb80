use Rattle.ups_match.proofs.ShortPatterns.{Keeps}
use Rattle.ups_match.proofs.patterns.shortened.Given as goal

abbrev pub invariant-loop-byte : goal.invariant-loop-byte
invariant-loop-byte g l = Keeps l.pattern l.short.items l.byte-index l.behind_star
