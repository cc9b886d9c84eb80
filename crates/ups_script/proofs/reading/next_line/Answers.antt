use Rattle.std.proofs.Common.{subst, rules}
use Rattle.ups_script.specs.Lines.{Lengthens}
use Rattle.ups_script.proofs.Taking.{line_whole}
use Rattle.ups_script.proofs.reading.next_line.Goals as goal

pub returns-then-branch-clause-line : goal.returns-then-branch-clause-line
returns-then-branch-clause-line g c = line_whole _ _ _ c.loop.line.items c.lengthen.new.line.items c.loop.invariant.0 c.loop.invariant.1
    (subst (Lengthens (g.R.Read.remaining c.loop.reader) (g.R.Read.remaining c.lengthen.new.reader) c.loop.line.items c.lengthen.new.line.items) (search rules) c.in_ok-lengthen.ensures.whole)
