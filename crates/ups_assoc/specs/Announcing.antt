-- Whether a data set follows a command (PS3.7 section 6.3.1 and annex E.1).
use Rattle.std.specs.Prelude.{ℕ, zero, suc, Bool, false, ◌&&◌, not, ◌==◌, List, [], ◌∷◌, if◌then◌else◌}
use Rattle.std.specs.Int.{w32, from_le_bytes}
use Rattle.ups_assoc.specs.Same.{is_same}

-- whether a Command Data Set Type announces a data set: its length is 2, and its value, which comes first, is not
-- 0101H
abbrev pub announces : ℕ → List ℕ → Bool
announces len (low ∷ high ∷ rest) = len == 2 && not (low == 1 && high == 1)
announces len bytes = false

-- the tag of the Command Data Set Type (0000,0800), as its bytes
abbrev pub data_set_type : List ℕ
data_set_type = 0x00 ∷ 0x00 ∷ 0x00 ∷ 0x08 ∷ []

-- Whether a data set is announced after the first `skip` bytes, which are the value of an element that is passed
-- over. Each element is a tag, a length in four bytes, and a value (PS3.5 section 7.1.3); the first (0000,0800)
-- decides.
unfoldable pub announced_behind : ℕ → List ℕ → Bool
announced_behind zero (a ∷ b ∷ c ∷ d ∷ e ∷ f ∷ g ∷ h ∷ value) =
    if is_same (a ∷ b ∷ c ∷ d ∷ []) data_set_type then announces (from_le_bytes w32 (e ∷ f ∷ g ∷ h ∷ [])) value
    else announced_behind (from_le_bytes w32 (e ∷ f ∷ g ∷ h ∷ [])) value
announced_behind zero bytes = false
announced_behind (suc skip) [] = false
announced_behind (suc skip) (b ∷ bytes) = announced_behind skip bytes

abbrev pub data_follows : List ℕ → Bool
data_follows command = announced_behind 0 command
