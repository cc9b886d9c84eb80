use Rattle.std.proofs.Common.{◌≡◌, ◌++◌, string_bytes, take}
use Rattle.ups_terms.proofs.writing.push_title.Given as goal

-- the text has the bytes so far
abbrev pub invariant-loop-byte : goal.invariant-loop-byte
invariant-loop-byte g l = (string_bytes l.text ≡ string_bytes l.fn.text ++ take l.byte-index l.byte-items) × (l.byte-items ≡ l.fn.ae)
