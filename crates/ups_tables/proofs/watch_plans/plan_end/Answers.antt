use Rattle.std.proofs.Common.{rules, ◌≡◌, None, Some, List, ◌<◌, sym, ap, subst, ◌∙◌}
use Rattle.ups_life.specs.declared.peer.Peer.{Peer}
use Rattle.ups_life.specs.declared.request.Request.TheVariants.{Unsubscribe}
use Rattle.ups_life.specs.declared.watching.Place.TheVariants.{At}
use Rattle.ups_life.specs.Steps.{past}
use Rattle.ups_life.specs.History.{receiver_of}
use Rattle.ups_tables.specs.Places.{place_of_title}
use Rattle.ups_tables.proofs.Titled.{place_within}
use Rattle.ups_tables.proofs.Planned.{has_place, ends_somewhere}
use Rattle.ups_tables.proofs.watch_plans.plan_end.Goals as goal

pub freed_everywhere-requires-clause-fits : goal.freed_everywhere-requires-clause-fits
freed_everywhere-requires-clause-fits g c = c.requires.stands.fits

pub freed_everywhere-requires-clause-peer : goal.freed_everywhere-requires-clause-peer
freed_everywhere-requires-clause-peer g c =
    subst (λ n. c.in-Some.peer < n) (sym c.requires.stands.peers)
    (place_within c.args.configuration.now.peers c.args.receiver c.in-Some.peer (ap (λ (ps : List Peer). place_of_title ps c.args.receiver) (sym c.peers.ensures) ∙ sym c.place_of.ensures ∙ c.in-Some.is))

pub returns-in-At-Some : goal.returns-in-At-Some
returns-in-At-Some g c =
    let on : c.in-At-Some.field-0 ≡ Some c.in-At-Some.step = search rules in
    record {
      receiver = c.args.receiver;
      place = ap (λ (ps : List Peer). place_of_title ps c.args.receiver) (sym c.peers.ensures) ∙ sym c.place_of.ensures ∙ c.in-Some.is;
      request = c.requires.request ∙ ap (λ p. Unsubscribe p c.args.receiver) c.in-At-Some.is ∙ ap (λ o. Unsubscribe (At o) c.args.receiver) on;
    }

pub returns-in_ok-freed-in-Everywhere : goal.returns-in_ok-freed-in-Everywhere
returns-in_ok-freed-in-Everywhere g c = record {
  receiver = c.args.receiver;
  place = ap (λ (ps : List Peer). place_of_title ps c.args.receiver) (sym c.peers.ensures) ∙ sym c.place_of.ensures ∙ c.in-Some.is;
  request = c.requires.request ∙ ap (λ p. Unsubscribe p c.args.receiver) c.in-Everywhere.is;
  freed_are = c.in_ok-freed-in-Everywhere.ensures;
}

pub unreachable-requires : goal.unreachable-requires
unreachable-requires g c = has_place c.args.configuration.now (past c.args.history.now.entries) c.args.entry.now c.requires.accepted c.args.receiver c.peers.result.now c.place_of.result (ap receiver_of c.requires.request) c.peers.ensures c.place_of.ensures c.in_default.is

pub unreachable-requires-in-At-None : goal.unreachable-requires-in-At-None
unreachable-requires-in-At-None g c =
    let on : c.in-At-None.field-0 ≡ None = search rules in
    ends_somewhere c.args.configuration.now (past c.args.history.now.entries) c.args.entry.now c.requires.accepted c.args.receiver (c.requires.request ∙ ap (λ p. Unsubscribe p c.args.receiver) c.in-At-None.is ∙ ap (λ o. Unsubscribe (At o) c.args.receiver) on)
