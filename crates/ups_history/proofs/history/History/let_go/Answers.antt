use Rattle.std.proofs.Common.{ap, sym, ◌∙◌, ◌-◌, ◌+◌, ◌≡◌, length, arith}
use Rattle.std.specs.Prelude.{vec_len}
use Rattle.ups_history.specs.View.{HistoryView, is_in_memory}
use Rattle.ups_history.proofs.Keeping.{held_popped, held_taken, kept_popped, kept_taken, last_is}
use Rattle.ups_history.proofs.Places.{held, holds}
use Rattle.ups_history.proofs.history.History.let_go.Goals as goal

pub invariant_of-self : goal.invariant_of-self
invariant_of-self g c =
    let h = c.self.inside in
    let n = vec_len h.aside - 1 in
    let last = last_is h.aside_from c.len.result c.args.place c.last_place.result c.last_place.ensures (sym c.eq.ensures ∙ c.if-eq.true) in
    let all : n + 1 ≡ length h.aside.items = omega (arith, last.0, c.len.ensures, h.aside.ok.0) in
    kept_popped c.self.invariant c.args.place c.pop.new.self.items n c.pop.ensures.rest all (omega (arith, last.1, c.len.ensures, h.aside.ok.0)) h.older.entries c.self.invariant.older_is

pub invariant_of-self-else-eq : goal.invariant_of-self-else-eq
invariant_of-self-else-eq g c = kept_taken c.self.invariant c.args.place c.swap_remove.new.self.entries c.swap_remove.ensures.updates.0

pub returns-then-eq-clause-in_memory : goal.returns-then-eq-clause-in_memory
returns-then-eq-clause-in_memory g c p was apart =
    let h = c.self.inside in
    let n = vec_len h.aside - 1 in
    let last = last_is h.aside_from c.len.result c.args.place c.last_place.result c.last_place.ensures (sym c.eq.ensures ∙ c.if-eq.true) in
    let all : n + 1 ≡ length h.aside.items = omega (arith, last.0, c.len.ensures, h.aside.ok.0) in
    let here = held h.first h.aside_from h.aside.items h.older.entries p (ap (λ (v : HistoryView g.row.A.Denot). is_in_memory v p) c.self.view_is ∙ was) in
    holds h.first h.aside_from c.pop.new.self.items h.older.entries p (held_popped c.self.invariant c.args.place c.pop.new.self.items n c.pop.ensures.rest all (omega (arith, last.1, c.len.ensures, h.aside.ok.0)) p apart here)

pub returns-else-eq-clause-in_memory : goal.returns-else-eq-clause-in_memory
returns-else-eq-clause-in_memory g c p was apart =
    let h = c.self.inside in
    let here = held h.first h.aside_from h.aside.items h.older.entries p (ap (λ (v : HistoryView g.row.A.Denot). is_in_memory v p) c.self.view_is ∙ was) in
    holds h.first h.aside_from h.aside.items c.swap_remove.new.self.entries p (held_taken c.self.invariant c.args.place c.swap_remove.new.self.entries c.swap_remove.ensures.updates.0 p apart here)
