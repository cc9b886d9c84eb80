-- Unique identifiers (PS3.5 section 9).
use Rattle.std.specs.Prelude.{◌≡◌, ℕ, ◌<◌, ◌≤◌, Bool, ◌&&◌, ◌||◌, not, List, length, ◌==◌, nat_lt, nat_le, slice_index, IsTrue}
use Rattle.std.specs.List.{list_all, slice_split}
use Rattle.ups_pdu.specs.Padding.{without_padding}

abbrev pub is_digit : ℕ → Bool
is_digit byte = nat_le 48 byte && nat_le byte 57

abbrev pub is_dot : ℕ → Bool
is_dot byte = byte == 46

-- whether the bytes are a component: digits, with no leading zero unless the component is 0 (PS3.5 section 9.1)
abbrev pub is_component : List ℕ → Bool
is_component text = nat_lt 0 (length text) && (length text == 1 || not (slice_index text 0 == 48)) && list_all is_digit text

-- a UID: 1 to 64 bytes, which are components separated by dots
pub record IsUid (text : List ℕ) : Type 0 where
  pub some : 0 < length text
  pub short : length text ≤ 64
  pub components : IsTrue (list_all is_component (slice_split is_dot text))

-- the bytes are this UID, possibly followed by padding
pub record SpellsUid (bytes uid : List ℕ) : Type 0 where
  pub is_uid : IsUid uid
  pub parts : uid ≡ without_padding bytes
