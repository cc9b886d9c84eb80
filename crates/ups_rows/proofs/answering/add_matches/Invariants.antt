use Rattle.std.proofs.Common.{◌≡◌, ◌+◌, ◌++◌, take}
use Rattle.ups_rows.specs.Answering.{answers_among, attributes_of_rows}
use Rattle.ups_rows.proofs.answering.add_matches.Given as goal

abbrev pub invariant-loop-shared : goal.invariant-loop-shared
invariant-loop-shared g l = record {
  found : l.found ≡ l.fn.found ++ answers_among (g.M.Matcher.says l.keys) l.keys.attributes (attributes_of_rows (take l.shared-index l.rows));
  count : g.M.Matcher.asked l.matcher ≡ g.M.Matcher.asked l.fn.matcher + l.shared-index;
}
