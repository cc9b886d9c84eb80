use Rattle.std.proofs.Common.{ℕ, List, ◌≢◌, map, take, Contains}
use Rattle.ups_dataset.specs.declared.tag.Tag.{Tag}
use Rattle.ups_index.specs.Kept.{text_view}
use Rattle.ups_index.specs.Numbers.{text_number}
use Rattle.ups_index.proofs.exchanging.has_number.Given as goal

abbrev pub invariant-loop-stored : goal.invariant-loop-stored
invariant-loop-stored g l = (stored : Tag × List ℕ) → Contains (map text_view (take l.stored-index l.texts)) stored → text_number stored.0 stored.1 ≢ l.number
