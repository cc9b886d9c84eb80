use Rattle.std.proofs.Common.{◌∷◌, take}
use Rattle.std.specs.Io.KnownBytes.{Appends}
use Rattle.std.specs.List.{flat_map}
use Rattle.ups_script.specs.Printing.{bracketed}
use Rattle.ups_script.proofs.printing.put_sets.Given as goal

abbrev pub invariant-loop-set : goal.invariant-loop-set
invariant-loop-set g l = Appends (g.W.Write.contents l.initial.writer) (g.W.Write.contents l.writer) (flat_map (λ s. 32 ∷ bracketed s) (take l.set-index l.sets))
