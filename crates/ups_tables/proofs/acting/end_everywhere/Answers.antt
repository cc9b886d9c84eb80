use Rattle.std.proofs.Common.{◌&&◌, true, None, cond, eqb, length, sym, ap, ◌∙◌, refl}
use Rattle.std.proofs.lemmas.List.{length-set}
use Rattle.ups_tables.proofs.Fitness.{fits_many, kept_then, kept_before, freed_apart, nobody, same_none}
use Rattle.ups_tables.proofs.acting.end_everywhere.Goals as goal

pub settle_many-requires-clause-apart : goal.settle_many-requires-clause-apart
settle_many-requires-clause-apart g c = freed_apart c.args.tables.now c.requires.fits c.args.peer None (λ u. true) c.args.freed.now c.requires.freed

pub settle_many-requires-clause-unlocked : goal.settle_many-requires-clause-unlocked
settle_many-requires-clause-unlocked g c = λ free. kept_before c.args.tables.now (record c.args.tables.now { watchers = c.unsubscribe.new.self }) c.requires.fits c.args.peer None (λ u. true) free
    (kept_then c.args.tables.now (record c.args.tables.now { watchers = c.unsubscribe.new.self }) c.requires.fits c.args.peer None (λ u. true) c.requires.peer c.unsubscribe.ensures.watching
    (λ u out p. c.unsubscribe.ensures.watching p u ∙ ap (cond (eqb c.args.peer p && true) None) (nobody c.args.tables.now c.requires.fits u out p) ∙ same_none (eqb c.args.peer p && true) None))

pub returns-clause-effect : goal.returns-clause-effect
returns-clause-effect g c = record {
  steps = refl;
  used = λ u. refl;
  covers = c.unsubscribe.ensures.covers;
  hows = c.unsubscribe.ensures.watching;
  queues = λ p. refl;
}

pub returns-clause-fits : goal.returns-clause-fits
returns-clause-fits g c =
    fits_many c.args.tables.now _ c.requires.fits c.args.peer None (λ u. true) c.args.freed.now c.requires.freed c.requires.peer refl
    (c.requires.fits.queues ∙ sym (ap length c.unsubscribe.ensures.covers ∙ length-set c.args.tables.now.watchers.covers c.args.peer None)) c.learn.ensures c.unsubscribe.ensures.watching
    (λ u out p. c.unsubscribe.ensures.watching p u ∙ ap (cond (eqb c.args.peer p && true) None) (nobody c.args.tables.now c.requires.fits u out p) ∙ same_none (eqb c.args.peer p && true) None)
    c.unsubscribe.ensures.known c.settle_many.ensures.once c.settle_many.ensures.waits
