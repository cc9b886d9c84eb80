use Rattle.std.proofs.Common.{ap, sym, ◌∙◌, inr}
use Rattle.ups_history.specs.View.{HistoryView, is_in_memory}
use Rattle.ups_history.proofs.Places.{holds}
use Rattle.ups_history.proofs.history.History.kept_at.Goals as goal

pub returns-in-Some : goal.returns-in-Some
returns-in-Some g c =
    let h = c.self.inside in
    record {
      in_memory = sym (ap (λ (v : HistoryView g.row.A.Denot). is_in_memory v c.in-Some.place.now) c.self.view_is)
          ∙ holds h.first h.aside_from h.aside.items h.older.entries c.in-Some.place.now (inr (inr (c.in-Some.field-0-1.now, c.in-Some.ensures.value)));
    }
