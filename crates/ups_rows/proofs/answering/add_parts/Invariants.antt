use Rattle.std.proofs.Common.{◌≡◌, ◌+◌, ◌++◌, length, take}
use Rattle.ups_rows.specs.Answering.{answers_among, rows_of_parts}
use Rattle.ups_rows.proofs.answering.add_parts.Given as goal

abbrev pub invariant-loop-part : goal.invariant-loop-part
invariant-loop-part g l = record {
  found : l.found ≡ l.fn.found ++ answers_among (g.M.Matcher.says l.keys) l.keys.attributes (rows_of_parts (take l.part-index l.parts));
  count : g.M.Matcher.asked l.matcher ≡ g.M.Matcher.asked l.fn.matcher + length (rows_of_parts (take l.part-index l.parts));
  more : l.more + length (rows_of_parts (take l.part-index l.parts)) ≡ l.left;
}
