use Rattle.std.proofs.Common.{◌≡◌, true, take}
use Rattle.std.specs.List.{list_all}
use Rattle.ups_terms.specs.Permits.{is_still}
use Rattle.ups_terms.proofs.comparing.difference.Given as goal

-- the peers so far are still peers, with their rights
abbrev pub invariant-loop-was : goal.invariant-loop-was
invariant-loop-was g l = list_all (is_still l.peers) (take l.was-index l.was-items) ≡ true
