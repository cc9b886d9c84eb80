use Rattle.std.proofs.Common.{List, ◌∷◌, subst, rules}
use Rattle.std.specs.Io.KnownBytes.{Appends}
use Rattle.std.specs.List.{flat_map}
use Rattle.std.proofs.lemmas.List.{take_all}
use Rattle.ups_script.specs.Printing.{report_word}
use Rattle.ups_lines.proofs.Printed.{spaced_map}
use Rattle.ups_script.proofs.printing.put_reports.Goals as goal

pub returns : goal.returns
returns g c =
    subst (Appends (g.W.Write.contents c.args.writer.now) (g.W.Write.contents c.loop-report.writer)) (spaced_map report_word c.args.reports.now)
    (subst (λ (l : List _). Appends (g.W.Write.contents c.args.writer.now) (g.W.Write.contents c.loop-report.writer) (flat_map (λ s. 32 ∷ report_word s) l))
    (take_all c.loop-report.report-index c.args.reports.now (search rules)) c.loop-report.invariant)
