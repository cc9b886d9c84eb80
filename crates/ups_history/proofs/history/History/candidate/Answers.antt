use Rattle.std.proofs.Common.{◌∙◌}
use Rattle.ups_history.proofs.Keeping.{last_held}
use Rattle.ups_history.proofs.history.History.candidate.Goals as goal

pub returns : goal.returns
returns g c =
    let h = c.self.inside in
    record { in_memory = rw (← c.self.view_is) (last_held h.first h.aside_from h.aside.items h.older.entries c.len.result c.last_place.result (c.len.ensures ∙ h.aside.ok.0) c.last_place.ensures) }
