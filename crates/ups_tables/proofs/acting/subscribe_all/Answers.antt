use Rattle.std.proofs.Common.{Some, length, refl, sym, ap, ◌∙◌}
use Rattle.std.proofs.lemmas.List.{length-set}
use Rattle.ups_life.specs.Watching.{is_among}
use Rattle.ups_tables.proofs.Fitness.{fits_many, kept_then, kept_before, stays_none}
use Rattle.ups_tables.proofs.acting.subscribe_all.Goals as goal

pub settle_many-requires-clause-unlocked : goal.settle_many-requires-clause-unlocked
settle_many-requires-clause-unlocked g c = λ free. kept_before c.args.tables.now (record c.args.tables.now { watchers = c.global.new.self }) c.requires.fits c.args.peer (Some c.args.cover.subscription) (λ u. is_among u c.args.chosen.now) free
    (kept_then c.args.tables.now (record c.args.tables.now { watchers = c.global.new.self }) c.requires.fits c.args.peer (Some c.args.cover.subscription) (λ u. is_among u c.args.chosen.now) c.requires.peer c.global.ensures.watching
    (λ u out p. c.global.ensures.watching p u ∙ stays_none c.args.tables.now c.requires.fits u out (λ v. is_among v c.args.chosen.now) c.requires.here c.args.peer p (Some c.args.cover.subscription)))

pub returns-clause-fits : goal.returns-clause-fits
returns-clause-fits g c =
    fits_many c.args.tables.now _ c.requires.fits c.args.peer (Some c.args.cover.subscription) (λ u. is_among u c.args.chosen.now) c.args.freed.now c.requires.freed c.requires.peer refl
    (c.tell.ensures.peers ∙ c.requires.fits.queues ∙ sym (ap length c.global.ensures.covers ∙ length-set c.args.tables.now.watchers.covers c.args.peer (Some c.args.cover))) c.learn.ensures c.global.ensures.watching
    (λ u out p. c.global.ensures.watching p u ∙ stays_none c.args.tables.now c.requires.fits u out (λ v. is_among v c.args.chosen.now) c.requires.here c.args.peer p (Some c.args.cover.subscription))
    c.global.ensures.known c.settle_many.ensures.once c.settle_many.ensures.waits
