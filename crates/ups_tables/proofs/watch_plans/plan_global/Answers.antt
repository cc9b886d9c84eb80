use Rattle.std.proofs.Common.{◌≡◌, ◌<◌, List, sym, ap, subst, ◌∙◌}
use Rattle.ups_life.specs.declared.peer.Peer.{Peer}
use Rattle.ups_life.specs.Steps.{past}
use Rattle.ups_life.specs.Watching.{granted}
use Rattle.ups_tables.specs.Live.{cover_to}
use Rattle.ups_tables.proofs.Asking.{chosen_by, reports_by}
use Rattle.ups_tables.specs.Keyed.{as_steps}
use Rattle.ups_tables.proofs.Keyed.{steps_kept}
use Rattle.ups_tables.proofs.Titled.{place_within}
use Rattle.ups_tables.proofs.Planned.{chosen_here, chosen_once, freed_of, makes_cover}
use Rattle.ups_tables.proofs.watch_plans.plan_global.Goals as goal

pub unreachable-requires : goal.unreachable-requires
unreachable-requires g c =
    makes_cover c.args.configuration.now (past c.args.history.now.entries) c.args.entry.now c.requires.accepted c.args.target.now c.args.receiver c.args.lock c.granted-subscription.result c.requires.request c.requires.global
    (sym c.in_ok-cover.ensures ∙ c.in_default.is)

pub freed_steps-requires-clause-fits : goal.freed_steps-requires-clause-fits
freed_steps-requires-clause-fits g c = c.requires.stands.fits

pub freed_steps-requires-clause-peer : goal.freed_steps-requires-clause-peer
freed_steps-requires-clause-peer g c = subst (λ n. c.args.peer < n) (sym c.requires.stands.peers) (place_within c.args.configuration.now.peers c.args.receiver c.args.peer c.requires.place)

pub freed_steps-requires-clause-here : goal.freed_steps-requires-clause-here
freed_steps-requires-clause-here g c =
    chosen_here c.args.configuration.now c.args.history.now.entries c.args.tables.now c.requires.stands c.args.target.now c.in_ok-chosen.chosen.items c.as_slice.result.now
    (c.in_ok-chosen.ensures.steps ∙ chosen_by c.args.configuration.now (past c.args.history.now.entries) c.args.target.now (as_steps c.args.tables.now.steps.entries) (steps_kept c.args.configuration.now c.args.history.now.entries c.args.tables.now c.requires.stands)) c.as_slice.ensures.value

pub freed_steps-requires-clause-once : goal.freed_steps-requires-clause-once
freed_steps-requires-clause-once g c =
    chosen_once c.args.configuration.now c.args.history.now.entries c.args.tables.now c.requires.stands c.args.target.now c.in_ok-chosen.chosen.items c.as_slice.result.now
    (c.in_ok-chosen.ensures.steps ∙ chosen_by c.args.configuration.now (past c.args.history.now.entries) c.args.target.now (as_steps c.args.tables.now.steps.entries) (steps_kept c.args.configuration.now c.args.history.now.entries c.args.tables.now c.requires.stands)) c.as_slice.ensures.value

pub returns : goal.returns
returns g c =
    let s = c.args.configuration.now in
    let es = past c.args.history.now.entries in
    let how_is : c.granted-subscription.result ≡ granted s.peers c.args.receiver c.args.lock = c.granted-subscription.ensures ∙ ap (λ (ps : List Peer). granted ps c.args.receiver c.args.lock) c.peers.ensures in
    record {
      receiver = c.args.receiver;
      place = c.requires.place;
      target = c.args.target.now;
      lock = c.args.lock;
      request = c.requires.request;
      cover_is = sym c.in-Some.is ∙ c.in_ok-cover.ensures ∙ ap (cover_to c.args.target.now) how_is;
      steps_are = c.in_ok-chosen.ensures.steps ∙ chosen_by s es c.args.target.now (as_steps c.args.tables.now.steps.entries) (steps_kept s c.args.history.now.entries c.args.tables.now c.requires.stands);
      freed_are = freed_of c.args.tables.now c.args.peer c.in-Some.cover.subscription c.in_ok-chosen.chosen.items c.as_slice.result.now c.in_ok-freed.freed.items c.as_slice.ensures.value c.in_ok-freed.ensures;
      news = c.in_ok-chosen.ensures.news ∙ reports_by s es c.args.target.now (as_steps c.args.tables.now.steps.entries) (steps_kept s c.args.history.now.entries c.args.tables.now c.requires.stands);
    }
