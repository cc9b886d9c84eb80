use Rattle.std.proofs.Common.{◌∷◌, take}
use Rattle.std.specs.Io.KnownBytes.{Appends}
use Rattle.std.specs.List.{flat_map}
use Rattle.ups_script.specs.Printing.{report_word}
use Rattle.ups_script.proofs.printing.put_reports.Given as goal

abbrev pub invariant-loop-report : goal.invariant-loop-report
invariant-loop-report g l = Appends (g.W.Write.contents l.initial.writer) (g.W.Write.contents l.writer) (flat_map (λ s. 32 ∷ report_word s) (take l.report-index l.reports))
