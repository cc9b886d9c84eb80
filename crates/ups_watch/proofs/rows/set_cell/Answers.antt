use Rattle.std.proofs.Common.{◌≡◌, sym, ap, ◌∙◌, length, subst, refl}
use Rattle.std.specs.Prelude.{IfSome}
use Rattle.std.specs.Option.{option_copied_mut, IsSome}
use Rattle.std.proofs.lemmas.List.{length-set}
use Rattle.ups_watch.proofs.Cells.{known_after, width_after}
use Rattle.ups_watch.proofs.rows.set_cell.Goals as goal

pub returns-in-Some-clause-known : goal.returns-in-Some-clause-known
returns-in-Some-clause-known g c =
    let h = c.get_mut.follows.holds c.set.new.self in
    let some = sym c.get_mut.ensures.value ∙ ap option_copied_mut c.in-Some.is in
    known_after c.args.rows.now.entries (c.get_mut.follows.lender c.set.new.self).entries c.args.step c.set.new.self (h.3 (subst IsSome (sym some) refl)).0 c.requires.known

pub returns-in-Some-clause-width : goal.returns-in-Some-clause-width
returns-in-Some-clause-width g c =
    let h = c.get_mut.follows.holds c.set.new.self in
    let some = sym c.get_mut.ensures.value ∙ ap option_copied_mut c.in-Some.is in
    width_after c.args.rows.now.entries (c.get_mut.follows.lender c.set.new.self).entries c.args.step c.set.new.self (h.3 (subst IsSome (sym some) refl)).0 c.args.width
    (ap length c.set.ensures ∙ length-set c.in-Some.row.now c.args.peer c.args.subscription ∙ subst (λ o. IfSome o (λ row. length row ≡ c.args.width)) some (c.requires.width c.args.step)) c.requires.width
