use Rattle.std.proofs.Common.{◌∙◌}
use Rattle.ups_history.specs.Kept.{joined}
use Rattle.ups_history.proofs.Places.{recent_from}
use Rattle.ups_history.proofs.history.History.since.Goals as goal

pub returns : goal.returns
returns g c =
    let h = c.self.inside in
    rw (← c.self.view_is)
    (recent_from (joined h.gone.items) h.recent.items c.as_slice.result.now c.split_at.result.1.now h.first c.args.place c.len.result c.min-before.result c.self.invariant.counted c.if-place-self.false c.as_slice.ensures.value (c.len.ensures ∙ h.recent.ok.0) c.min-before.ensures
    c.split_at.ensures.back)
