use Rattle.std.proofs.Common.{◌≡◌, drop}
use Rattle.ups_dataset.specs.Data.{elements_of}
use Rattle.ups_match.specs.Class.{FirstKey, first_of}
use Rattle.ups_match.proofs.first.first_of.Given as goal

abbrev pub invariant-loop-indexed : goal.invariant-loop-indexed
invariant-loop-indexed g l = (later : FirstKey) → first_of l.table (elements_of l.keys) later ≡ first_of (drop l.indexed-index l.table) (elements_of l.keys) later
