use Rattle.std.proofs.Common.{map, take, Bor, ℕ, List}
use Rattle.ups_args.specs.Arguments.{NameWatchers}
use Rattle.ups_args.proofs.peers.watchers_of.Given as goal

abbrev pub invariant-loop-word : goal.invariant-loop-word
invariant-loop-word l = NameWatchers (take l.word-index (map (λ (w : Bor (List ℕ)). w.now) l.words)) l.watchers.items
