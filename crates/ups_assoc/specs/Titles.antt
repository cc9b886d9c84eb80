-- Application entity titles in an association request (PS3.8 section 9.3.2).
use Rattle.std.specs.Prelude.{ℕ, Bool, false, ◌&&◌, nat_lt, nat_le, List, length, Option, None, Some, if◌then◌else◌}
use Rattle.std.specs.List.{list_all}
use Rattle.ups_pdu.specs.Padding.{is_space, without_leading, without_trailing}
use Rattle.ups_pdu.specs.Title.{is_title_byte}
use Rattle.ups_assoc.specs.Same.{is_same}

-- the bytes without the spaces around them
abbrev pub trimmed : List ℕ → List ℕ
trimmed bytes = without_trailing is_space (without_leading is_space bytes)

-- whether the text is a title: 1 to 16 bytes that may occur in one
abbrev pub is_ae : List ℕ → Bool
is_ae text = nat_lt 0 (length text) && (nat_le (length text) 16 && list_all is_title_byte text)

-- the title in bytes with spaces around it; None if they are blank or malformed
unfoldable pub title : List ℕ → Option (List ℕ)
title bytes = if is_ae (trimmed bytes) then Some (trimmed bytes) else None

abbrev pub is_this : List ℕ → Option (List ℕ) → Bool
is_this ae None = false
is_this ae (Some found) = is_same found ae

-- whether the bytes are this title
abbrev pub is_this_title : List ℕ → List ℕ → Bool
is_this_title ae bytes = is_this ae (title bytes)
