use Rattle.std.proofs.Common.{List, ◌∷◌, subst, rules}
use Rattle.std.specs.Io.KnownBytes.{Appends}
use Rattle.std.specs.List.{flat_map}
use Rattle.std.proofs.lemmas.List.{take_all}
use Rattle.ups_lines.specs.Printing.{printed}
use Rattle.ups_lines.proofs.Printed.{spaced_map}
use Rattle.ups_script.proofs.printing.put_steps.Goals as goal

pub returns : goal.returns
returns g c =
    subst (Appends (g.W.Write.contents c.args.writer.now) (g.W.Write.contents c.loop-step.writer)) (spaced_map printed c.args.steps.now)
    (subst (λ (l : List _). Appends (g.W.Write.contents c.args.writer.now) (g.W.Write.contents c.loop-step.writer) (flat_map (λ s. 32 ∷ printed s) l))
    (take_all c.loop-step.step-index c.args.steps.now (search rules)) c.loop-step.invariant)
