use Rattle.std.proofs.Common.{refl}
use Rattle.ups_tables.proofs.Fitness.{fits_same}
use Rattle.ups_tables.proofs.acting.reserve_uid.Goals as goal

pub returns-clause-effect : goal.returns-clause-effect
returns-clause-effect g c = record {
  steps = refl;
  used = c.use_uid.ensures;
  covers = refl;
  hows = λ p u. refl;
  queues = λ p. refl;
}

pub returns-clause-fits : goal.returns-clause-fits
returns-clause-fits g c = fits_same c.args.tables.now _ c.requires.fits refl refl refl c.requires.fits.width (λ p u. refl) (λ u. refl) refl
