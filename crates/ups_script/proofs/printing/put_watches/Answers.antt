use Rattle.std.proofs.Common.{List, ◌∷◌, subst, rules}
use Rattle.std.specs.Io.KnownBytes.{Appends}
use Rattle.std.specs.List.{flat_map}
use Rattle.std.proofs.lemmas.List.{take_all}
use Rattle.ups_script.specs.Printing.{watched_word}
use Rattle.ups_lines.proofs.Printed.{spaced_map}
use Rattle.ups_script.proofs.printing.put_watches.Goals as goal

pub returns : goal.returns
returns g c =
    subst (Appends (g.W.Write.contents c.args.writer.now) (g.W.Write.contents c.loop-watched.writer)) (spaced_map watched_word c.args.watches.now)
    (subst (λ (l : List _). Appends (g.W.Write.contents c.args.writer.now) (g.W.Write.contents c.loop-watched.writer) (flat_map (λ s. 32 ∷ watched_word s) l))
    (take_all c.loop-watched.watched-index c.args.watches.now (search rules)) c.loop-watched.invariant)
