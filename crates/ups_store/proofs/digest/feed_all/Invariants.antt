use Rattle.std.proofs.Common.{◌≡◌, map, take}
use Rattle.std.specs.List.{fold}
use Rattle.std.specs.Hash.DefaultHasher as sip
use Rattle.sqlite_value.specs.Value.{owned}
use Rattle.ups_store.specs.Digest.{cells_input}
use Rattle.ups_store.proofs.digest.feed_all.Given as goal

abbrev pub invariant-loop-at : goal.invariant-loop-at
invariant-loop-at l = l.state ≡ fold sip.write l.initial.state (cells_input (map owned (take l.at l.cells)))
