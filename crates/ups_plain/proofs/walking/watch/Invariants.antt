use Rattle.std.proofs.Common.{◌≡◌, ◌≤◌, take}
use Rattle.std.specs.Option.{option_copied}
use Rattle.ups_life.specs.Steps.{past, row_of}
use Rattle.ups_life.specs.Watching.{watch}
use Rattle.ups_life.specs.Filters.{filter_now}
use Rattle.ups_plain.proofs.walking.watch.Given as goal

abbrev pub invariant-loop-place : goal.invariant-loop-place
invariant-loop-place g l = record {
  found : l.found ≡ watch l.configuration (past (take l.place l.entries)) l.ae l.step;
  filter : option_copied l.filter ≡ filter_now (past (take l.place l.entries)) l.ae;
  row : l.walk.row ≡ row_of l.configuration (past (take l.walk.count l.entries)) l.step;
  earlier : l.walk.count ≤ l.place;
}
