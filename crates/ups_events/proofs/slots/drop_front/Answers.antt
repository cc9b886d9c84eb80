use Rattle.std.proofs.Common.{rules, arith, ◌≡◌, ◌∷◌, cond, length, Bool, sym, ap, ◌∙◌, subst, drop}
use Rattle.ups_events.specs.Kept.{lives, dropped, KeepsQueue}
use Rattle.ups_events.proofs.SlotLists.{pop_keeps, count_first}
use Rattle.ups_events.proofs.slots.drop_front.Goals as goal

pub loop-slot-preserved : goal.loop-slot-preserved
loop-slot-preserved g c =
    let s = c.in-Some.slot in
    let rest = c.in-Some.ensures.1.0 in
    let items = c.in-Some.ensures.1.1 in
    let left : c.pop_front.new.self.items ≡ rest = c.pop_front.ensures.rest ∙ ap (drop 1) items in
    let inv = c.loop-slot.invariant in (
      ap (dropped c.args.upto) left ∙ sym (ap (dropped c.args.upto) items ∙ ap (λ (b : Bool). cond b (dropped c.args.upto rest) (s ∷ rest)) c.in-Some.ensures.0) ∙ inv.0,
      λ made acked k. subst (KeepsQueue made acked c.forget.new.index.entries) (sym left)
          (pop_keeps made acked c.loop-slot.index.entries c.forget.new.index.entries s c.forget.ensures.index rest (subst (KeepsQueue made acked c.loop-slot.index.entries) items (inv.1 made acked k))),
      (
          let lefts = ap (λ ss. length (lives ss)) left in
          let had = ap (λ ss. length (lives ss)) items in
          let first = count_first s rest in
          let more = c.one_more_if_live-count.ensures in
          let before = inv.2 in
          omega (arith, lefts, had, first, more, before)
          ),
      search rules,
      search rules,
      search rules,
    )
