use Rattle.std.proofs.Common.{ℕ, Option, None, cond, eqb, length, refl, sym, ap, ◌∙◌}
use Rattle.std.specs.Str.{bytes_eq}
use Rattle.ups_keep.specs.Waits.{waits}
use Rattle.ups_tables.specs.Fit.{how}
use Rattle.ups_tables.proofs.Fitness.{fits_settled, not_at, waits_so}
use Rattle.ups_tables.proofs.acting.end_single.Goals as goal

pub returns-clause-fits : goal.returns-clause-fits
returns-clause-fits g c =
    fits_settled c.args.tables.now _ c.args.step c.requires.fits (c.requires.fits.queues ∙ sym (ap length c.unsubscribe.ensures.covers)) c.learn.ensures
    (λ p u e. c.unsubscribe.ensures.watching p u ∙ not_at (eqb c.args.peer p) (bytes_eq c.args.step u) None (how c.args.tables.now p u) e)
    c.unsubscribe.ensures.known (λ u. refl) (λ u e. refl) c.settle.ensures.once
    (λ u. c.settle.ensures.waits u
    ∙ ap (λ (o : Option ℕ). cond (bytes_eq c.args.step u) o (waits u c.args.tables.now.due.steps)) (waits_so _ None _ _ _ _ c.waiting_in-after.ensures refl c.final_at-since.ensures))
