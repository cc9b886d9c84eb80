use Rattle.std.proofs.Common.{ℕ, sym, subst}
use Rattle.ups_lasting.specs.Stages.{Covers}
use Rattle.ups_lasting.proofs.compaction.Compaction.tend.Goals as goal

pub returns-clause-covers : goal.returns-clause-covers
returns-clause-covers g c = λ k. subst (λ (n : ℕ). Covers n c.turn.new.self.stage (g.D.DraftLedger.kept c.turn.new.ledger)) (sym c.turn.ensures.begun) (c.turn.ensures.turns.covers k)
