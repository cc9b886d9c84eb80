use Rattle.std.proofs.Common.{ap, arith}
use Rattle.ups_history.specs.View.{HistoryView}
use Rattle.ups_history.proofs.Keeping.{kept_pushed}
use Rattle.ups_history.proofs.history.History.push_reserved.Goals as goal

pub invariant_of-self : goal.invariant_of-self
invariant_of-self g c =
    let room = ap (λ (v : HistoryView g.row.A.Denot). v.spare) c.self.view_is in
    kept_pushed c.self.invariant c.push_reserved.new.self.items (omega (arith, room, c.requires.room, c.push_reserved.ensures.len, c.push_reserved.new.self.ok.0))
