use Rattle.std.proofs.Common.{sym}
use Rattle.ups_match.proofs.ShortPatterns.{keeps_star, keeps_all}
use Rattle.ups_match.proofs.patterns.shortened.Goals as goal

pub loop-byte-preserved-then-behind_star : goal.loop-byte-preserved-then-behind_star
loop-byte-preserved-then-behind_star g c =
    keeps_star c.args.pattern.now c.loop-byte.short.items c.loop-byte.byte-index c.loop-byte.behind_star c.loop-byte.invariant c.loop-byte-test.true (sym c.if-byte-eq42.true) c.if-behind_star.true

pub returns : goal.returns
returns g c = keeps_all c.args.pattern.now c.loop-byte.short.items c.loop-byte.byte-index c.loop-byte.behind_star c.loop-byte.invariant c.loop-byte-test.false
