use Rattle.std.proofs.Common.{[], List, ℕ, Bor, rules, arith, length-append, ◌∙◌, ap, length}
use Rattle.std.proofs.lemmas.List.{length-map}
use Rattle.ups_life.specs.declared.peer.Peer.{Peer}
use Rattle.ups_settings.specs.Refusal.{is_twice}
use Rattle.ups_args.proofs.Naming.{twice_on}
use Rattle.ups_args.specs.Arguments.{NamesPeer}
use Rattle.ups_args.proofs.Parts.{one_further, all_named, stops_here}
use Rattle.ups_args.proofs.peers.peers_of.Goals as goal

pub loop-word-preserved : goal.loop-word-preserved
loop-word-preserved g c = record {
  few = omega (arith, ap length c.in_ok-push.ensures.items, length-append {A = Peer}, c.loop-word.invariant.few);
  once = ap is_twice c.in_ok-push.ensures.items ∙ twice_on c.loop-word.peers.items c.in-Some.field-0.peer c.loop-word.invariant.once (search rules);
  named = one_further NamesPeer c.args.words.now c.loop-word.word-index _ c.loop-word.peers.items _ c.in-Some.field-0.peer (search rules) c.loop-word.invariant.named c.in-Some.ensures.names c.in_ok-push.ensures.items;
}

pub returns-clause-named : goal.returns-clause-named
returns-clause-named g c = all_named NamesPeer c.args.words.now c.loop-word.word-index c.loop-word.peers.items (search rules) c.loop-word.invariant.named

pub returns-in_default-clause-fault : goal.returns-in_default-clause-fault
returns-in_default-clause-fault g c = (
  omega (arith, length-map c.args.words.now (λ (w : Bor (List ℕ)). w.now)),
  c.loop-word.peers.items,
  stops_here c.args.words.now c.loop-word.word-index _ c.loop-word.peers.items (search rules) c.loop-word.invariant.named c.loop-word.invariant.once,
  c.in_default.ensures,
)

pub returns-then-is_named-clause-fault : goal.returns-then-is_named-clause-fault
returns-then-is_named-clause-fault g c = (
  omega (arith, length-map c.args.words.now (λ (w : Bor (List ℕ)). w.now)),
  c.loop-word.peers.items,
  _,
  c.in-Some.field-0.peer,
  stops_here c.args.words.now c.loop-word.word-index record { ref_ptr = (0, 0); now = [] } c.loop-word.peers.items (search rules) c.loop-word.invariant.named c.loop-word.invariant.once,
  c.in-Some.ensures.names,
  search rules,
)
