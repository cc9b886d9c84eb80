-- Application entity titles (PS3.8 section 9.3.2, PS3.5 section 6.2: VR AE).
use Rattle.std.specs.Prelude.{◌≡◌, ℕ, ◌<◌, ◌≤◌, Bool, ◌&&◌, not, List, length, ◌==◌, nat_le, IsTrue}
use Rattle.std.specs.List.{list_all}
use Rattle.ups_pdu.specs.Padding.{is_space, without_leading, without_trailing}

-- whether a byte may occur in a title: a printable byte of the default repertoire, but no backslash
abbrev pub is_title_byte : ℕ → Bool
is_title_byte byte = nat_le 32 byte && nat_le byte 126 && not (byte == 92)

-- a title: 1 to 16 bytes that may occur in one; spaces at its ends are not part of it
pub record IsAe (text : List ℕ) : Type 0 where
  pub some : 0 < length text
  pub short : length text ≤ 16
  pub bytes : IsTrue (list_all is_title_byte text)

-- the bytes are this title, possibly with spaces around it
pub record SpellsAe (bytes title : List ℕ) : Type 0 where
  pub is_ae : IsAe title
  pub parts : title ≡ without_trailing is_space (without_leading is_space bytes)
