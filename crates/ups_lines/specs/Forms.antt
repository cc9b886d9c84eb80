-- The data element that bytes make under a tag (PS3.5 sections 6.2 and 7.1).
use Rattle.std.specs.Prelude.{ℕ, suc, zero, ◌%◌, nat_lt, List, [], ◌∷◌, ◌++◌, length, if◌then◌else◌, ◌==◌}
use Rattle.ups_dataset.specs.declared.tag.Tag.{Tag}
use Rattle.ups_dataset.specs.declared.vr.Vr.{Vr}
use Rattle.ups_dataset.specs.declared.vr.Vr.TheVariants.{Sq, Ui, Un}
use Rattle.ups_dataset.specs.Data.{El, bytes}
use Rattle.ups_dataset.specs.Dictionary.{vr_of}
use Rattle.ups_dataset.specs.Limits.{max_short_length}
use Rattle.ups_dataset.specs.Vr.{is_long}

-- bytes are no sequence: under the tag of a sequence, one byte or more have the value representation UN (PS3.5 section 6.2.2)
abbrev pub vr_of_bytes : Vr → ℕ → Vr
vr_of_bytes Sq zero = Sq
vr_of_bytes Sq (suc more) = Un
vr_of_bytes vr len = vr

-- more bytes than a length field of two bytes can express have UN too
abbrev pub vr_of_length : Vr → ℕ → Vr
vr_of_length vr len = if is_long vr then vr else (if nat_lt max_short_length len then Un else vr)

-- the value representation of `len` bytes under a tag
abbrev pub vr_for : Tag → ℕ → Vr
vr_for tag len = vr_of_length (vr_of_bytes (vr_of tag) len) len

-- the padding byte of a value: NUL for a UID or UN, otherwise a space
abbrev pub pad_of : Vr → ℕ
pad_of Ui = 0
pad_of Un = 0
pad_of vr = 32

-- a value padded to an even length
abbrev pub padded_value : Vr → List ℕ → List ℕ
padded_value vr text = if (length text % 2) == 0 then text else text ++ pad_of vr ∷ []

-- the data element of a tag with a text as its value
abbrev pub element_for : Tag → List ℕ → El
element_for tag text = record { tag = tag; vr = vr_for tag (length text); value = bytes (padded_value (vr_for tag (length text)) text) }
