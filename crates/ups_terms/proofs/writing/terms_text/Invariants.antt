use Rattle.std.proofs.Common.{◌≡◌, ◌++◌, string_bytes, take}
use Rattle.std.specs.List.{flat_map}
use Rattle.ups_terms.specs.Text.{peer_line}
use Rattle.ups_terms.proofs.writing.terms_text.Given as goal

-- the text has the lines of the peers so far
abbrev pub invariant-loop-peer : goal.invariant-loop-peer
invariant-loop-peer g l = string_bytes l.text ≡ string_bytes l.initial.text ++ flat_map peer_line (take l.peer-index l.peers)
