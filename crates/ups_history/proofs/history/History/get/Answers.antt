use Rattle.std.proofs.Common.{ap, ◌∙◌, ◌-◌, ◌<◌, length, arith, inl, inr}
use Rattle.std.specs.Prelude.{slice_get}
use Rattle.ups_history.specs.Kept.{joined}
use Rattle.ups_history.specs.View.{HistoryView, is_in_memory}
use Rattle.ups_history.proofs.Keeping.{aside_at, older_at}
use Rattle.ups_history.proofs.Places.{got, held, recent_at}
use Rattle.ups_history.proofs.history.History.get.Goals.{else-at-self-2-via-then-at-self-2+else-at-self-3, else-at-self-2-via-else-at-self-2}
use Rattle.ups_history.proofs.history.History.get.Goals as goal

pub returns-then-at-self : goal.returns-then-at-self
returns-then-at-self g c =
    let h = c.self.inside in
    let it = got h.recent.items c.deref.result.now (c.args.place - h.first) c.get.result c.deref.ensures.value c.get.ensures.lookup in
    let there = recent_at (joined h.gone.items) h.recent.items h.first c.args.place c.self.invariant.counted c.if-at-self.true in
    record { entry = it ∙ there ∙ ap (λ (v : HistoryView g.row.A.Denot). slice_get v.entries c.args.place) c.self.view_is }

pub returns-then-at-self-3 : goal.returns-then-at-self-3
returns-then-at-self-3 g c =
    let h = c.self.inside in
    let within : c.args.place - h.aside_from < length h.aside.items = omega (arith, c.if-at-self-3.true, c.len.ensures, h.aside.ok.0) in
    let it = got h.aside.items c.deref-then-at-self-3.result.now (c.args.place - h.aside_from) c.get-then-at-self-3.result c.deref-then-at-self-3.ensures.value c.get-then-at-self-3.ensures.lookup in
    let there = aside_at c.self.invariant c.args.place c.if-at-self-2.true within in
    record { entry = it ∙ there ∙ ap (λ (v : HistoryView g.row.A.Denot). slice_get v.entries c.args.place) c.self.view_is }

pub returns : goal.returns
returns g c =
    let h = c.self.inside in
    let here = held h.first h.aside_from h.aside.items h.older.entries c.args.place (ap (λ (v : HistoryView g.row.A.Denot). is_in_memory v c.args.place) c.self.view_is ∙ c.requires.in_memory) in
    record {
      entry = c.get-2.ensures.value ∙ (elim here [
        | inl a ↦ absurd (omega (arith, a, c.if-at-self.false))
        | inr a ↦ elim a [
          | inl b ↦ elim c.else-at-self-2.branch [
            | else-at-self-2-via-then-at-self-2+else-at-self-3 w ↦ absurd (omega (arith, b, w.if-at-self-2.true, w.if-at-self-3.false, w.len.ensures, h.aside.ok.0))
            | else-at-self-2-via-else-at-self-2 w ↦ absurd (omega (arith, b, w.if-at-self-2.false))
          ]
          | inr b ↦ older_at c.self.invariant c.args.place b.0 b.1
        ]
      ]) ∙ ap (λ (v : HistoryView g.row.A.Denot). slice_get v.entries c.args.place) c.self.view_is;
    }
