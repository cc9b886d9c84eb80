use Rattle.std.proofs.Common.{length, sym, ap, ◌∙◌, refl}
use Rattle.ups_tables.proofs.Fitness.{fits_swept}
use Rattle.ups_tables.proofs.acting.sweep.Goals as goal

pub returns-clause-effect : goal.returns-clause-effect
returns-clause-effect g c = record {
  steps = c.remove.ensures.entries;
  used = λ u. refl;
  covers = c.forget.ensures.covers;
  hows = c.forget.ensures.watching;
  queues = λ p. refl;
}

pub returns-clause-fits : goal.returns-clause-fits
returns-clause-fits g c =
    fits_swept c.args.tables.now _ c.requires.fits c.args.due.now c.args.moment c.requires.due c.remove.ensures.entries
    c.forget.ensures.watching c.forget.ensures.known (c.requires.fits.queues ∙ sym (ap length c.forget.ensures.covers)) c.learn.ensures c.sweep.ensures.steps
