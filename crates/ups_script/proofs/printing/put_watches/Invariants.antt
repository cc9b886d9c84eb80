use Rattle.std.proofs.Common.{◌∷◌, take}
use Rattle.std.specs.Io.KnownBytes.{Appends}
use Rattle.std.specs.List.{flat_map}
use Rattle.ups_script.specs.Printing.{watched_word}
use Rattle.ups_script.proofs.printing.put_watches.Given as goal

abbrev pub invariant-loop-watched : goal.invariant-loop-watched
invariant-loop-watched g l = Appends (g.W.Write.contents l.initial.writer) (g.W.Write.contents l.writer) (flat_map (λ s. 32 ∷ watched_word s) (take l.watched-index l.watches))
