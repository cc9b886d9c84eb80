-- What reading digits does to the bytes that they spell.
use Rattle.std.proofs.Common.{◌≡◌, ℕ, ◌+◌, ◌*◌, List, [], ◌∷◌, Option, Some, None, option_map, sym, ◌∙◌, ap}
use Rattle.std.specs.Io.KnownBytes.{Consumes, IsAtEnd, Keeps}
use Rattle.ups_pipe.specs.declared.hexing.DigitFault.{DigitFault}
use Rattle.ups_pipe.specs.declared.hexing.DigitFault.TheVariants.{HalfByte}
use Rattle.ups_pipe.specs.Hexing.{values, paired, values_after, bytes_left}

abbrev pub Known : Type 0
Known = Option (List ℕ)

abbrev pub half_byte : Option DigitFault
half_byte = Some HalfByte

half_of : (o a b : Known) (e f : Option DigitFault) (i h : Option ℕ) → Keeps (bytes_left i e o) (bytes_left h f a) → Keeps (option_map (values_after f) a) (option_map values b) → Keeps (bytes_left i e o) (bytes_left h half_byte b)
half_of None a b e f i h k p = tt
half_of (Some z) None b e f i h k p = absurd k
half_of (Some z) (Some x) None e f i h k p = absurd p
half_of (Some z) (Some x) (Some y) e f i None k p = ap paired p ∙ k
half_of (Some z) (Some x) (Some y) e f i (Some h) k p = ap (λ ds. paired (h ∷ ds)) p ∙ k

pub half_read : (o a b c : Known) (e f g j : Option DigitFault) (i h k l : Option ℕ) → Keeps (bytes_left i e o) (bytes_left h f a) → Keeps (option_map (values_after f) a) (option_map (values_after g) b)
    → g ≡ None → k ≡ h → c ≡ b → l ≡ k → j ≡ half_byte → Keeps (bytes_left i e o) (bytes_left l j c)
half_read o a b c e f g j i h k l first second sound high same still is =
    let before : Keeps (option_map (values_after f) a) (option_map values b) = rw sound at second in
    rw (is, still, high, same) (half_of o a b e f i h first before)
