use Rattle.std.proofs.Common.{◌≡◌, ℕ, Bool, false, List, slice_index_or, ap, ◌∙◌, arith}
use Rattle.std.specs.Slots.{slots_filled}
use Rattle.ups_turn.proofs.Closes.{not_there, emptied, closed_settings, closed_legal, closed_callers, closed_passes, closed_numbers}
use Rattle.ups_turn.proofs.desk.Desk.close.Goals as goal

pub take-slot-requires : goal.take-slot-requires
take-slot-requires g c =
    let closed = c.close_with-closed.ensures in
    let one = closed.counts.1 ∙ c.self.invariant.1 in
    (omega (arith, one), closed.values.1 0 (omega arith) (omega (arith, one)))

pub free-requires : goal.free-requires
free-requires g c = λ k low.
    let one = c.close_with-closed.ensures.counts.1 ∙ c.self.invariant.1 in
    let others = c.take-slot.ensures.others in
    let first : k ≡ 0 = omega (arith, low, others.2, one) in
    ap (λ (n : ℕ). slice_index_or (slots_filled c.take-slot.new.self.slots) n false) first ∙ ap (λ (filled : List Bool). slice_index_or filled 0 false) others.1 ∙ emptied (slots_filled c.close_with-closed.result.slots)

pub returns-clause-all : goal.returns-clause-all
returns-clause-all g c = rw (← c.self.view_is) (let n = c.args.passes.ok.0 in let l = c.len.ensures in let same = c.if-len-self.false in let seats = c.self.invariant.2 in omega arith)

pub unreachable-requires : goal.unreachable-requires
unreachable-requires g c =
    let t = c.self.inside.table.shared in
    let p = c.gather-place in
    not_there t.key p.result.id p.result.me.0 c.args.passes.items _ _ c.take-slot.result c.close_with-closed.ensures.values.2 p.ensures.rests.1 p.ensures.all (let n = c.args.passes.ok.0 in let l = c.len.ensures in let same = c.if-len-self.false in let seats = c.self.invariant.2 in omega arith) c.take-slot.ensures.value c.in_default.is

pub returns-clause-settings : goal.returns-clause-settings
returns-clause-settings g c =
    let t = c.self.inside.table.shared in
    let p = c.gather-place in
    rw (c.into_shared.ensures, ← c.self.view_is) (closed_settings t.key p.result.id p.result.me.0 c.args.passes.items _ _ c.take-slot.result c.close_with-closed.ensures.values.2 p.ensures.rests.1 p.ensures.all (let n = c.args.passes.ok.0 in let l = c.len.ensures in let same = c.if-len-self.false in let seats = c.self.invariant.2 in omega arith) c.take-slot.ensures.value c.in-Some.manager c.in-Some.is)

pub returns-clause-legal : goal.returns-clause-legal
returns-clause-legal g c =
    let t = c.self.inside.table.shared in
    let p = c.gather-place in
    rw c.into_shared.ensures (closed_legal t.key p.result.id p.result.me.0 c.args.passes.items _ _ c.take-slot.result c.close_with-closed.ensures.values.2 p.ensures.rests.1 p.ensures.all (let n = c.args.passes.ok.0 in let l = c.len.ensures in let same = c.if-len-self.false in let seats = c.self.invariant.2 in omega arith) c.take-slot.ensures.value c.in-Some.manager c.in-Some.is)

pub returns-clause-callers : goal.returns-clause-callers
returns-clause-callers g c =
    let t = c.self.inside.table.shared in
    let p = c.gather-place in
    rw (c.into_shared.ensures, ← c.self.view_is) (closed_callers t.key p.result.id p.result.me.0 c.args.passes.items _ _ c.take-slot.result c.close_with-closed.ensures.values.2 p.ensures.rests.1 p.ensures.all (let n = c.args.passes.ok.0 in let l = c.len.ensures in let same = c.if-len-self.false in let seats = c.self.invariant.2 in omega arith) c.take-slot.ensures.value c.in-Some.manager c.in-Some.is)

pub returns-clause-passes : goal.returns-clause-passes
returns-clause-passes g c =
    let t = c.self.inside.table.shared in
    let p = c.gather-place in
    rw c.into_shared.ensures (closed_passes t.key p.result.id p.result.me.0 c.args.passes.items _ _ c.take-slot.result c.close_with-closed.ensures.values.2 p.ensures.rests.1 p.ensures.all (let n = c.args.passes.ok.0 in let l = c.len.ensures in let same = c.if-len-self.false in let seats = c.self.invariant.2 in omega arith) c.take-slot.ensures.value c.in-Some.manager c.in-Some.is)

pub returns-clause-numbers : goal.returns-clause-numbers
returns-clause-numbers g c =
    let t = c.self.inside.table.shared in
    let p = c.gather-place in
    rw (← c.self.view_is) (closed_numbers t.key p.result.id p.result.me.0 c.args.passes.items _ _ c.take-slot.result c.close_with-closed.ensures.values.2 p.ensures.rests.1 p.ensures.all (let n = c.args.passes.ok.0 in let l = c.len.ensures in let same = c.if-len-self.false in let seats = c.self.invariant.2 in omega arith) c.take-slot.ensures.value)
