-- Rows of the definitions, computed.
use Rattle.std.proofs.Common.{◌≡◌, [], ◌∷◌, codes, refl, inl, inr, lit<}
use Rattle.ups_dataset.specs.declared.vr.Vr.TheVariants.{Lo, Sq, Ui, Un, Ur}
use Rattle.ups_lines.specs.Escapes.{StandsFor}
use Rattle.ups_lines.specs.Forms.{vr_of_bytes, vr_of_length, padded_value}
use Rattle.ups_lines.specs.Printing.{printed}

-- an escape in either case, a byte that needs none, and NUL
text : StandsFor (codes "A%2f%00") (65 ∷ 47 ∷ 0 ∷ [])
text = (
  codes "%2f%00",
  inl (λ e. cc, refl),
  (
    codes "%00",
    inr (record { high = 50; low = 102; parts = refl; spells = record { high_digit = lit< tt; low_digit = lit< tt; value = refl } }),
    ([], inr (record { high = 48; low = 48; parts = refl; spells = record { high_digit = lit< tt; low_digit = lit< tt; value = refl } }), refl),
  ),
)

shown : printed (67 ∷ 84 ∷ 32 ∷ 37 ∷ 32 ∷ 0 ∷ []) ≡ codes "CT%20%25"
shown = refl

-- the greatest even length of two bytes, and the next numbers
short : vr_of_length Lo 65534 ≡ Lo
short = refl

odd : vr_of_length Lo 65535 ≡ Un
odd = refl

long : vr_of_length Lo 65536 ≡ Un
long = refl

-- a representation whose length has four bytes
address : vr_of_length Ur 65536 ≡ Ur
address = refl

no_items : vr_of_bytes Sq 0 ≡ Sq
no_items = refl

bytes_in_place_of_items : vr_of_bytes Sq 2 ≡ Un
bytes_in_place_of_items = refl

uid : padded_value Ui (codes "1.2") ≡ 49 ∷ 46 ∷ 50 ∷ 0 ∷ []
uid = refl

unknown : padded_value Un (7 ∷ []) ≡ 7 ∷ 0 ∷ []
unknown = refl

name : padded_value Lo (codes "A") ≡ 65 ∷ 32 ∷ []
name = refl

even : padded_value Lo (codes "AB") ≡ codes "AB"
even = refl
