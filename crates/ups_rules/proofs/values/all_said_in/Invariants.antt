use Rattle.std.proofs.Common.{◌≡◌, drop}
use Rattle.std.specs.List.{list_all}
use Rattle.ups_dataset.specs.Data.{elements_of}
use Rattle.ups_life.specs.Values.{is_said_in}
use Rattle.ups_rules.proofs.values.all_said_in.Given as goal

abbrev pub invariant-loop-tag : goal.invariant-loop-tag
invariant-loop-tag g l = list_all (is_said_in (elements_of l.item)) l.tags ≡ list_all (is_said_in (elements_of l.item)) (drop l.tag-index l.tags)
