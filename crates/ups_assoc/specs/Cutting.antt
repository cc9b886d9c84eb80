-- A message cut into PDUs (PS3.8 section 9.3.5, annexes D.1 and E; PS3.7 section 6.3.1).
use Rattle.std.specs.Prelude.{ℕ, zero, suc, ◌-◌, ◌*◌, ◌/◌, Bool, true, false, nat_le, List, [], ◌∷◌, ◌++◌, length, take, drop, Option, None, Some, if◌then◌else◌}
use Rattle.ups_pdu.specs.declared.pdu.Pdu.{Pdu}
use Rattle.ups_pdu.specs.declared.pdu.Pdu.TheVariants.{Data}
use Rattle.ups_pdu.specs.declared.pdv.Pdv.{Pdv}
use Rattle.ups_assoc.specs.Negotiation.{counted}

-- The most bytes of a message in one PDU: the largest even number that the maximum length leaves besides the length
-- of the fragment (4 bytes), its context id and its message control header.
abbrev pub room : ℕ → ℕ
room max = (counted max - 6) / 2 * 2

-- one fragment in a PDU of its own
abbrev pub fragment : {A : Type 0} → ℕ → Bool → Bool → List ℕ → Pdu A
fragment context command last bytes = Data (record { context = context; command = command; last = last; bytes = bytes } ∷ [])

-- the fragments of a command or of a data set: all but the last have this size; at most `most` come before the last
abbrev pub fragments : {A : Type 0} → ℕ → ℕ → ℕ → Bool → List ℕ → List (Pdu A)
fragments zero size context command bytes = fragment context command true bytes ∷ []
fragments (suc most) size context command bytes =
    if nat_le (length bytes) size then fragment context command true bytes ∷ []
    else fragment context command false (take size bytes) ∷ fragments most size context command (drop size bytes)

unfoldable pub run : {A : Type 0} → ℕ → ℕ → Bool → List ℕ → List (Pdu A)
run size context command bytes = fragments (length bytes) size context command bytes

abbrev pub body_run : {A : Type 0} → ℕ → ℕ → Option (List ℕ) → List (Pdu A)
body_run size context None = []
body_run size context (Some body) = run size context false body

-- the PDUs of a message, for a peer that announces this maximum length: its command, then its data set
abbrev pub pieces : {A : Type 0} → ℕ → List ℕ → Option (List ℕ) → ℕ → List (Pdu A)
pieces context command body max = run (room max) context true command ++ body_run (room max) context body

-- the fragments in a PDU
abbrev pub pdvs_in : {A : Type 0} → Pdu A → List (Pdv A)
pdvs_in (Data pdvs) = pdvs
pdvs_in pdu = []
