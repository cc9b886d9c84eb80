-- The presentation data values of a P-DATA-TF (PS3.8 section 9.3.5, annex E.2).
use Rattle.std.specs.Prelude.{◌≡◌, ℕ, ◌<◌, ◌^◌, List, ◌∷◌, ◌++◌, length, ◌==◌, bit_and}
use Rattle.std.specs.Int.{w32, to_be_bytes}
use Rattle.ups_pdu.specs.declared.pdv.Pdv.{Pdv}
use Rattle.ups_pdu.specs.Each.{Each}

-- some bytes preceded by their length in four bytes; then the rest
pub record IsChunk (bytes chunk rest : List ℕ) : Type 0 where
  pub fits : length chunk < 2 ^ 32
  pub parts : bytes ≡ to_be_bytes w32 (length chunk) ++ (chunk ++ rest)

-- a presentation context id, a message control header, and bytes of the message
pub record Fragment : Type 0 where
  pub context : ℕ
  pub control : ℕ
  pub message : List ℕ

-- a fragment preceded by its length; then the rest (PS3.8 table 9-23)
pub record IsFragment (bytes : List ℕ) (fragment : Fragment) (rest : List ℕ) : Type 0 where
  pub is : IsChunk bytes (fragment.context ∷ fragment.control ∷ fragment.message) rest

-- fragments, each with its length, fill the bytes
abbrev pub FragmentsFill : List ℕ → Type 0
FragmentsFill bytes = (fragments : List Fragment) × Each IsFragment bytes fragments

-- Bit 0 of the message control header marks a fragment of a command, bit 1 the last fragment (PS3.8 annex E.2); the
-- other bits may be anything.
pub record IsPdv {A : Type 0} (fragment : Fragment) (pdv : Pdv A) : Type 0 where
  pub context : pdv.context ≡ fragment.context
  pub command : pdv.command ≡ (bit_and fragment.control 1 == 1)
  pub last : pdv.last ≡ (bit_and fragment.control 2 == 2)
  pub message : pdv.bytes ≡ fragment.message

-- the bytes begin with a PDV; then the rest
pub record SpellsPdv {A : Type 0} (bytes : List ℕ) (pdv : Pdv A) (rest : List ℕ) : Type 0 where
  pub fragment : Fragment
  pub is : IsFragment bytes fragment rest
  pub value : IsPdv fragment pdv
