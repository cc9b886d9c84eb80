use Rattle.std.proofs.Common.{◌≡◌, ◌+◌, take}
use Rattle.std.specs.List.{count_by}
use Rattle.ups_match.specs.Runs.{is_no_star}
use Rattle.ups_match.proofs.likeness.is_longer.Given as goal

abbrev pub invariant-loop-byte : goal.invariant-loop-byte
invariant-loop-byte l = count_by is_no_star (take l.byte-index l.pattern) + l.left ≡ l.len
