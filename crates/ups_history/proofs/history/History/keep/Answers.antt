use Rattle.std.proofs.Common.{ap, ◌∙◌, ◌-◌, ◌+◌, ◌≡◌, ◌<◌, Some, length, arith}
use Rattle.std.specs.Prelude.{vec_len}
use Rattle.ups_history.specs.View.{HistoryView, is_in_memory}
use Rattle.ups_history.proofs.Keeping.{held_put, kept_popped, older_put, popped_at, put_among}
use Rattle.ups_history.proofs.Places.{held, holds, popped}
use Rattle.ups_history.proofs.history.History.keep.Goals as goal

pub invariant_of-self-2 : goal.invariant_of-self-2
invariant_of-self-2 g c =
    let h = c.self.inside in
    let place = c.in-Some.place in
    let entry = c.in-Some-pop.entry in
    let n = vec_len h.aside - 1 in
    let put = put_among place (Some entry) c.reserve.new.self.entries h.older.entries c.insert.new.self.entries c.reserve.ensures.entries c.in-Ok.ensures.updates.0 in
    let some : 0 < vec_len h.aside = omega (arith, c.in-Some-pop.ensures.cases) in
    let all : n + 1 ≡ length h.aside.items = omega (arith, some, h.aside.ok.0) in
    let within : n < length h.aside.items = omega (arith, all) in
    let last : place + 1 ≡ h.aside_from + length h.aside.items = omega (arith, c.in-Some.ensures, c.len.ensures, h.aside.ok.0) in
    let at = popped h.aside.items n entry c.pop.result within (c.pop.ensures.value entry some) c.in-Some-pop.is in
    let is = popped_at c.self.invariant place c.pop.new.self.items n c.pop.ensures.rest all last entry at in
    kept_popped c.self.invariant place c.pop.new.self.items n c.pop.ensures.rest all last c.insert.new.self.entries (older_put c.self.invariant place entry c.insert.new.self.entries put is)

pub returns-clause-in_memory : goal.returns-clause-in_memory
returns-clause-in_memory g c p was =
    let h = c.self.inside in
    let place = c.in-Some.place in
    let entry = c.in-Some-pop.entry in
    let n = vec_len h.aside - 1 in
    let put = put_among place (Some entry) c.reserve.new.self.entries h.older.entries c.insert.new.self.entries c.reserve.ensures.entries c.in-Ok.ensures.updates.0 in
    let some : 0 < vec_len h.aside = omega (arith, c.in-Some-pop.ensures.cases) in
    let all : n + 1 ≡ length h.aside.items = omega (arith, some, h.aside.ok.0) in
    let last : place + 1 ≡ h.aside_from + length h.aside.items = omega (arith, c.in-Some.ensures, c.len.ensures, h.aside.ok.0) in
    let here = held h.first h.aside_from h.aside.items h.older.entries p (ap (λ (v : HistoryView g.row.A.Denot). is_in_memory v p) c.self.view_is ∙ was) in
    holds h.first h.aside_from c.pop.new.self.items c.insert.new.self.entries p (held_put c.self.invariant place c.pop.new.self.items n c.pop.ensures.rest all last entry c.insert.new.self.entries put p here)
