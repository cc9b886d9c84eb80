use Rattle.std.proofs.Common.{◌≡◌, ◌≤◌, false, length, map, take, Bor, ℕ, List}
use Rattle.ups_settings.specs.Refusal.{is_twice}
use Rattle.ups_args.specs.Arguments.{NamePeers}
use Rattle.ups_args.proofs.peers.peers_of.Given as goal

abbrev pub invariant-loop-word : goal.invariant-loop-word
invariant-loop-word g l = record {
  few : length l.peers.items ≤ l.word-index;
  once : is_twice l.peers.items ≡ false;
  named : NamePeers (take l.word-index (map (λ (w : Bor (List ℕ)). w.now) l.words)) l.peers.items;
}
