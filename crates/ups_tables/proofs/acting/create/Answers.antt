use Rattle.std.proofs.Common.{◌||◌, Option, None, cond, get_or, length, refl, sym, ap, ◌∙◌, arith}
use Rattle.std.specs.Prelude.{is_some}
use Rattle.ups_life.specs.declared.watching.Subscription.{Subscription}
use Rattle.std.specs.Str.{bytes_eq}
use Rattle.ups_life.specs.declared.row.Row.{Row}
use Rattle.ups_life.proofs.Texts.{text_is_itself}
use Rattle.ups_events.specs.Telling.{line_at, told}
use Rattle.ups_watch.specs.Table.{covering, knows, watching}
use Rattle.ups_tables.proofs.Fitness.{fits_created, covered_by_one}
use Rattle.ups_tables.proofs.acting.create.Goals as goal

pub tell_each-requires-clause-peers : goal.tell_each-requires-clause-peers
tell_each-requires-clause-peers g c =
    let w = c.of_step.ensures.width (c.created.ensures.known c.args.step ∙ ap (λ b. b || knows c.args.tables.now.watchers c.args.step) (text_is_itself c.args.step)) in
    let e = ap length c.created.ensures.covers in
    omega (arith, w, e, c.requires.fits.queues)

pub tell_each-requires-clause-room : goal.tell_each-requires-clause-room
tell_each-requires-clause-room g c = λ p h.
    c.requires.room_events p (covered_by_one (get_or c.args.tables.now.watchers.covers p None) c.get.result.now.attributes (sym (ap is_some (c.of_step.ensures.watching p ∙ c.created.ensures.watching p c.args.step
    ∙ ap (λ b. cond b (covering c.args.tables.now.watchers p c.get.result.now.attributes) (watching c.args.tables.now.watchers p c.args.step)) (text_is_itself c.args.step))) ∙ h))

pub returns-clause-effect : goal.returns-clause-effect
returns-clause-effect g c = record {
  steps = c.push.ensures.entries;
  used = c.use_uid.ensures;
  covers = c.created.ensures.covers;
  hows = λ p u. c.created.ensures.watching p u ∙ ap (λ (r : Row g.row.A.Denot). cond (bytes_eq c.args.step u) (covering c.args.tables.now.watchers p r.attributes) (watching c.args.tables.now.watchers p u)) c.get.ensures;
  queues = λ p. c.tell_each.ensures.lines p
      ∙ ap (λ (o : Option Subscription). cond (is_some o) (told c.args.entry c.args.news.now (line_at c.args.tables.now.queues p)) (line_at c.args.tables.now.queues p)) (c.of_step.ensures.watching p);
}

pub returns-clause-fits : goal.returns-clause-fits
returns-clause-fits g c =
    fits_created c.args.tables.now _ c.args.step c.args.held c.requires.fits c.requires.fresh c.requires.unfinished c.push.ensures.entries
    (λ p u e. c.created.ensures.watching p u ∙ ap (λ b. cond b (covering c.args.tables.now.watchers p c.get.result.now.attributes) (watching c.args.tables.now.watchers p u)) e)
    c.created.ensures.known (c.tell_each.ensures.peers ∙ c.requires.fits.queues ∙ sym (ap length c.created.ensures.covers)) c.learn.ensures refl
