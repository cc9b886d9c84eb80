use Rattle.std.proofs.Common.{◌≡◌, map, filter, take}
use Rattle.ups_dataset.specs.Data.{answer}
use Rattle.ups_match.specs.Matching.{is_match}
use Rattle.ups_life.specs.Steps.{past, row}
use Rattle.ups_plain.proofs.rows.plain_find.Given as goal

abbrev pub invariant-loop-step : goal.invariant-loop-step
invariant-loop-step g l = l.sets ≡ map (λ r. answer r l.keys.attributes) (filter (is_match l.keys) (map (row l.configuration (past l.entries)) (take l.step-index l.step-items)))
