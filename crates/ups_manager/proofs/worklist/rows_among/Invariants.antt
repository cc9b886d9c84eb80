use Rattle.std.proofs.Common.{◌≡◌, take}
use Rattle.std.specs.List.{filter_map}
use Rattle.ups_tables.specs.Keyed.{as_steps}
use Rattle.ups_manager.specs.Finding.{attributes_at}
use Rattle.ups_manager.proofs.worklist.rows_among.Given as goal

abbrev pub invariant-loop-candidate : goal.invariant-loop-candidate
invariant-loop-candidate g l = l.rows ≡ filter_map (attributes_at (as_steps l.tables.steps.entries)) (take l.candidate-index l.candidates)
