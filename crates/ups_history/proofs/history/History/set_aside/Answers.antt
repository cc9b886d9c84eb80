use Rattle.std.proofs.Common.{ap, sym, ◌∙◌, ◌≤◌, ◌+◌, ◌^◌, ◌≡◌, ◌++◌, take, drop, length, arith}
use Rattle.std.specs.Prelude.{vec_len}
use Rattle.std.specs.declared.vec.Vec.{Vec}
use Rattle.std.proofs.lemmas.Bool.{eqb-true}
use Rattle.ups_life.specs.declared.entry.Entry.{Entry}
use Rattle.ups_history.specs.Kept.{joined}
use Rattle.ups_history.specs.View.{HistoryView, is_in_memory}
use Rattle.ups_history.proofs.Keeping.{held_aside, kept_set_aside, same_entries}
use Rattle.ups_history.proofs.Places.{held, holds, joined_more}
use Rattle.ups_history.proofs.history.History.set_aside.Given as Given
use Rattle.ups_history.proofs.history.History.set_aside.Goals as goal

-- what is set aside, and what is left
front : (g : Given.Over) (c : goal.After-drop-aside g) → c.replace-before.result.items ≡ take c.min-count.result c.self.inside.recent.items
front g c = ap (λ (v : Vec (Entry g.row.A.Denot) g.row.A.Denot). v.items) c.replace-before.ensures.value ∙ c.in-Ok.ensures.items

back : (g : Given.Over) (c : goal.After-drop-aside g) → c.replace-before.new.dest.items ≡ drop c.min-count.result c.self.inside.recent.items
back g c = ap (λ (v : Vec (Entry g.row.A.Denot) g.row.A.Denot). v.items) c.replace-before.ensures.after ∙ c.in-Ok.ensures.tail

more : (g : Given.Over) (c : goal.After-drop-aside g) → joined c.and-more.result.items ≡ joined c.self.inside.gone.items ++ c.replace-before.result.items
more g c = ap joined c.and-more.ensures ∙ joined_more c.self.inside.gone.items c.replace-before.result

within : (g : Given.Over) (c : goal.After-drop-aside g) → c.min-count.result ≤ length c.self.inside.recent.items
within g c = omega (arith, c.min-count.ensures, c.min.ensures, c.len.ensures, c.self.inside.recent.ok.0)

pub invariant_of-self-2 : goal.invariant_of-self-2
invariant_of-self-2 g c =
    let few : c.self.inside.first + c.min-count.result ≤ 2 ^ 62 = omega (arith, c.min-count.ensures, c.self.invariant.few) in
    kept_set_aside c.self.invariant (joined c.and-more.result.items) c.replace-before.new.dest.items c.replace-before.result.items c.min-count.result (front g c) (back g c) (more g c) (within g c) few

pub returns-clause-entries : goal.returns-clause-entries
returns-clause-entries g c =
    same_entries c.self.invariant (joined c.and-more.result.items) c.replace-before.new.dest.items c.replace-before.result.items c.min-count.result (front g c) (back g c) (more g c) (within g c)
    ∙ ap (λ (v : HistoryView g.row.A.Denot). v.entries) c.self.view_is

pub returns-clause-in_memory : goal.returns-clause-in_memory
returns-clause-in_memory g c p was =
    let h = c.self.inside in
    let here = held h.first h.aside_from h.aside.items h.older.entries p (ap (λ (v : HistoryView g.row.A.Denot). is_in_memory v p) c.self.view_is ∙ was) in
    let none = eqb-true (vec_len h.aside) 0 (sym c.is_empty.ensures ∙ c.if-not-is_empty.false) in
    let empty : length h.aside.items ≡ 0 = omega (arith, none, h.aside.ok.0) in
    holds (h.first + c.min-count.result) h.first c.replace-before.result.items h.older.entries p
    (held_aside c.self.invariant (joined c.and-more.result.items) c.replace-before.new.dest.items c.replace-before.result.items c.min-count.result (front g c) (back g c) (more g c) (within g c) empty p here)
