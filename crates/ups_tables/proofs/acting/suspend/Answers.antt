use Rattle.std.proofs.Common.{None, length, ap, ◌∙◌, refl}
use Rattle.std.proofs.lemmas.List.{length-set}
use Rattle.ups_tables.proofs.Fitness.{fits_same}
use Rattle.ups_tables.proofs.acting.suspend.Goals as goal

pub returns-clause-effect : goal.returns-clause-effect
returns-clause-effect g c = record {
  steps = refl;
  used = λ u. refl;
  covers = c.suspend.ensures.covers;
  hows = c.suspend.ensures.watching;
  queues = λ p. refl;
}

pub returns-clause-fits : goal.returns-clause-fits
returns-clause-fits g c =
    fits_same c.args.tables.now _ c.requires.fits refl (ap length c.suspend.ensures.covers ∙ length-set c.args.tables.now.watchers.covers c.args.peer None) refl c.learn.ensures c.suspend.ensures.watching c.suspend.ensures.known refl
