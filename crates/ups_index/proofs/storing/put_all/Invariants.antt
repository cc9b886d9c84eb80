use Rattle.std.proofs.Common.{◌≡◌, ◌++◌, flat_map, map, take}
use Rattle.ups_dataset.specs.Data.{elements_of}
use Rattle.ups_index.specs.Kept.{text_view}
use Rattle.ups_index.specs.Stored.{texts_under}
use Rattle.ups_index.proofs.storing.put_all.Given as goal

abbrev pub invariant-loop-indexed : goal.invariant-loop-indexed
invariant-loop-indexed g l = map text_view l.texts.items ≡ map text_view l.fn.texts.items ++ flat_map (texts_under (elements_of l.row)) (take l.indexed-index l.table)
