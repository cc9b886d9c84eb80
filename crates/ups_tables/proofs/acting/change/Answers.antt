use Rattle.std.proofs.Common.{ℕ, List, Option, None, cond, get_or, length, refl, sym, ap, ◌∙◌}
use Rattle.std.specs.Prelude.{is_some}
use Rattle.std.specs.Option.{option_or}
use Rattle.std.specs.Str.{bytes_eq}
use Rattle.ups_life.specs.declared.row.Row.{Row}
use Rattle.ups_keep.specs.Waits.{waits}
use Rattle.ups_steps.specs.declared.held.HeldRow.{HeldRow}
use Rattle.ups_tables.specs.Held.{held_at, final_of}
use Rattle.ups_tables.specs.Fit.{how}
use Rattle.ups_tables.proofs.Fitness.{fits_settled, waits_so, put_holds, put_final, put_final_here}
use Rattle.ups_tables.proofs.acting.change.Goals as goal

pub returns-clause-fits : goal.returns-clause-fits
returns-clause-fits g c =
    let hs : List (List ℕ × HeldRow g.row.A.Denot) = c.args.tables.now.steps.entries in
    fits_settled c.args.tables.now _ c.args.step c.requires.fits (c.tell_each-2.ensures.peers ∙ c.tell_each.ensures.peers ∙ c.requires.fits.queues ∙ sym (ap length c.subscribe_each.ensures.covers)) c.learn.ensures
    (λ p u e. c.subscribe_each.ensures.watching p u ∙ ap (λ b. cond b (option_or (get_or c.args.newly.now p None) (how c.args.tables.now p u)) (how c.args.tables.now p u)) e)
    c.subscribe_each.ensures.known
    (λ u. ap (λ (xs : List (List ℕ × HeldRow g.row.A.Denot)). is_some (held_at u xs)) c.put.ensures.entries ∙ put_holds c.args.step u c.args.held hs c.requires.here)
    (λ u e. ap (λ (xs : List (List ℕ × HeldRow g.row.A.Denot)). final_of (held_at u xs)) c.put.ensures.entries ∙ put_final c.args.step u c.args.held hs e)
    c.settle.ensures.once
    (λ u. c.settle.ensures.waits u
    ∙ ap (λ (o : Option ℕ). cond (bytes_eq c.args.step u) o (waits u c.args.tables.now.due.steps))
    (waits_so _ None _ _ _ _ c.waiting_in-after.ensures refl
    (ap (λ (r : Row g.row.A.Denot). r.final_at) c.get.ensures ∙ sym (ap (λ (xs : List (List ℕ × HeldRow g.row.A.Denot)). final_of (held_at c.args.step xs)) c.put.ensures.entries ∙ put_final_here c.args.step c.args.held hs))))
