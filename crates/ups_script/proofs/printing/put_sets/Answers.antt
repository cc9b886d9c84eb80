use Rattle.std.proofs.Common.{List, ◌∷◌, subst, rules}
use Rattle.std.specs.Io.KnownBytes.{Appends}
use Rattle.std.specs.List.{flat_map}
use Rattle.std.proofs.lemmas.List.{take_all}
use Rattle.ups_script.specs.Printing.{bracketed}
use Rattle.ups_lines.proofs.Printed.{spaced_map}
use Rattle.ups_script.proofs.printing.put_sets.Goals as goal

pub returns : goal.returns
returns g c =
    subst (Appends (g.W.Write.contents c.args.writer.now) (g.W.Write.contents c.loop-set.writer)) (spaced_map bracketed c.args.sets.now)
    (subst (λ (l : List _). Appends (g.W.Write.contents c.args.writer.now) (g.W.Write.contents c.loop-set.writer) (flat_map (λ s. 32 ∷ bracketed s) l))
    (take_all c.loop-set.set-index c.args.sets.now (search rules)) c.loop-set.invariant)
