use Rattle.std.proofs.Common.{List, ◌||◌, sym, subst, ap, ◌∙◌}
use Rattle.ups_compact.specs.declared.shifts.Shift.{Shift}
use Rattle.ups_compact.specs.Shifts.{has_shift, AreSums}
use Rattle.ups_compact.proofs.Summing.{no_sums, sums_are}
use Rattle.ups_compact.proofs.shifts.Shifts.and.Goals as goal

pub returns : goal.returns
returns g c =
    let first = c.args.self.now in
    let second = c.args.more.now in
    sums_are first second c.add_sums-2.new.sums
    (c.in_ok-add_sums-2.ensures.sums (c.in_ok-add_sums.ensures.sums (subst (λ (xs : List Shift). AreSums first second xs) (sym c.none-both.ensures.none) (no_sums first second))))
    (λ w.
    c.in_ok-add_sums-2.ensures.has w
    ∙ (ap (λ b. b || has_shift c.as_slice-2.result.now w) (c.in_ok-add_sums.ensures.has w ∙ ap (λ (xs : List Shift). has_shift xs w || has_shift c.as_slice.result.now w) c.none-both.ensures.none)
    ∙ (ap (λ (xs : List Shift). has_shift xs w || has_shift c.as_slice-2.result.now w) (c.as_slice.ensures.value ∙ c.self.view_is)
    ∙ ap (λ (xs : List Shift). has_shift first w || has_shift xs w) (c.as_slice-2.ensures.value ∙ c.more.view_is))))
