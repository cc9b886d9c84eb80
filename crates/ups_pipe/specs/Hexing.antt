-- Bytes as hex digits.
use Rattle.std.specs.Prelude.{ℕ, ◌+◌, ◌*◌, ◌<◌, nat_lt, List, [], ◌∷◌, ◌++◌, Option, Some, None, Result, Ok, Err, option_map, option_to_list, if◌then◌else◌}
use Rattle.std.specs.Char.{digit_value, is_ascii_whitespace}
use Rattle.std.specs.Io.KnownBytes.{Consumes, IsAtEnd, Keeps}
use Rattle.std.specs.List.{flat_map}
use Rattle.hex.specs.Hex.{encode_lower}
use Rattle.ups_pipe.specs.declared.hexing.DigitFault.{DigitFault}
use Rattle.ups_pipe.specs.declared.hexing.DigitFault.TheVariants.{NoDigit}
use Rattle.ups_pipe.specs.declared.hexing.Next.{Next}
use Rattle.ups_pipe.specs.declared.hexing.Next.TheVariants.{Digit, End, Wrong, Spaces}

-- the values of hex digits in either case, without the white space among them, up to a character that is neither
abbrev pub values : List ℕ → List ℕ
values [] = []
values (c ∷ cs) = if nat_lt (digit_value c) 16 then digit_value c ∷ values cs else (if is_ascii_whitespace c then values cs else [])

-- a byte for each two digits, the high one first; an odd one is left out
abbrev pub paired : List ℕ → List ℕ
paired [] = []
paired (h ∷ []) = []
paired (h ∷ l ∷ ds) = (h * 16 + l) ∷ paired ds

-- bytes as a line: the digits of each, in lower case, and a line feed
abbrev pub hex_line : List ℕ → List ℕ
hex_line bytes = flat_map (λ byte. encode_lower (byte ∷ [])) bytes ++ 10 ∷ []

-- the values in a text after this fault: nothing is read after a character that is no digit
abbrev pub values_after : Option DigitFault → List ℕ → List ℕ
values_after (Some NoDigit) text = []
values_after fault text = values text

abbrev pub no_digit : Option DigitFault
no_digit = Some NoDigit

-- the bytes to come, if the high digit of the first may have been read already
abbrev pub bytes_left : Option ℕ → Option DigitFault → Option (List ℕ) → Option (List ℕ)
bytes_left high fault left = option_map (λ text. paired (option_to_list high ++ values_after fault text)) left

-- one character is read, or none at the end
abbrev pub GivesCharacter : {E : Type 0} → Option (List ℕ) → Option (List ℕ) → Result (Option ℕ) E → Type 0
GivesCharacter old new (Ok (Some c)) = Consumes old new (c ∷ [])
GivesCharacter old new (Ok None) = Keeps old new × IsAtEnd new
GivesCharacter old new (Err e) = Keeps old new

-- the next digit is read, or the end, another character or white space
abbrev pub GivesNext : {E : Type 0} → Option (List ℕ) → Option (List ℕ) → Result Next E → Type 0
GivesNext old new (Ok (Digit d)) = (d < 16) × Consumes (option_map values old) (option_map values new) (d ∷ [])
GivesNext old new (Ok End) = Keeps (option_map values old) (option_map values new) × IsAtEnd new
GivesNext old new (Ok Wrong) = Keeps (option_map values old) (option_map (values_after no_digit) new)
GivesNext old new (Ok Spaces) = Keeps (option_map values old) (option_map values new)
GivesNext old new (Err e) = Keeps (option_map values old) (option_map values new)

-- one of these digits is read, or none at the end
abbrev pub GivesDigit : {E : Type 0} → Option (List ℕ) → Option (List ℕ) → Result (Option ℕ) E → Type 0
GivesDigit old new (Ok (Some d)) = (d < 16) × Consumes old new (d ∷ [])
GivesDigit old new (Ok None) = Keeps old new × IsAtEnd new
GivesDigit old new (Err e) = Keeps old new
