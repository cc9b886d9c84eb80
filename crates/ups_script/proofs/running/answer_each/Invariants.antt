use Rattle.std.proofs.Common.{◌≡◌}
use Rattle.ups_script.proofs.Lasting.{Sofar}
use Rattle.ups_script.proofs.running.answer_each.Given as goal

abbrev pub invariant-loop-count : goal.invariant-loop-count
invariant-loop-count g l = Sofar l.initial.manager.settings l.count (g.R.Read.remaining l.initial.reader) (g.R.Read.remaining l.reader) (g.W.Write.contents l.initial.writer) (g.W.Write.contents l.writer) l.initial.manager.history l.manager.history
    × (l.manager.settings ≡ l.initial.manager.settings)
