-- A range of dates and times: two moments with - between them, one of which may be omitted (PS3.4 section C.2.2.2.5).
use Rattle.std.specs.Prelude.{ℕ, ℤ, int_le, pos, Bool, true, false, ◌&&◌, not, ◌+◌, ◌==◌, nat_le, List, [], ◌∷◌, length, take, drop, Option, None, Some, is_some, if◌then◌else◌}
use Rattle.std.specs.List.{prefix_len}
use Rattle.std.specs.Option.{option_map}
use Rattle.ups_pdu.specs.Padding.{is_nil}
use Rattle.ups_match.specs.declared.ranges.Span.{Span}
use Rattle.ups_match.specs.Moments.{leading_digits, behind_digits, split_fraction, offset_of, moment}

abbrev pub is_hyphen : ℕ → Bool
is_hyphen byte = byte == 45

-- fourteen digits, perhaps with a fraction: an offset with a minus may follow only these
abbrev pub has_seconds : List ℕ → Bool
has_seconds text = length (leading_digits text) == 14 && is_nil (split_fraction (behind_digits text)).1

-- the text ends here, or a hyphen follows
abbrev pub ends_or_hyphen : List ℕ → Bool
ends_or_hyphen [] = true
ends_or_hyphen (b ∷ bs) = is_hyphen b

-- the text after a DT begins with the offset of that DT, and not with the hyphen of a range
abbrev pub is_offset_first : List ℕ → List ℕ → Bool
is_offset_first front rest = has_seconds front && is_some (offset_of true (pos 0) (take 5 rest)) && nat_le 5 (length rest) && ends_or_hyphen (drop 5 rest)

-- the number of bytes before the first hyphen of a text
abbrev pub hyphen_at : List ℕ → ℕ
hyphen_at text = prefix_len (λ byte. not (is_hyphen byte)) text

-- the number of bytes before the hyphen of a range, or in the whole text if there is none: the first hyphen, unless it
-- begins an offset
abbrev pub first_len : List ℕ → ℕ
first_len text = if is_offset_first (take (hyphen_at text) text) (drop (hyphen_at text) text) then hyphen_at text + 5 else hyphen_at text

-- an end of a range: Some of its moment, or of None if that end is open; None if the text is not a DT
abbrev pub bound : ℤ → Bool → List ℕ → Option (Option ℤ)
bound offset upper [] = Some None
bound offset upper (b ∷ bs) = option_map (λ m. Some m) (moment (b ∷ bs) offset upper)

abbrev pub with_bounds : Option (Option ℤ) → Option (Option ℤ) → Option Span
with_bounds None greatest = None
with_bounds (Some least) None = None
with_bounds (Some least) (Some greatest) = Some (record { least = least; greatest = greatest })

-- the moments between two ends, which are not both open
abbrev pub span_between : ℤ → List ℕ → List ℕ → Option Span
span_between offset [] [] = None
span_between offset first last = with_bounds (bound offset false first) (bound offset true last)

-- a single DT stands for its first moment
abbrev pub single_moment : ℤ → List ℕ → Option Span
single_moment offset text = option_map (λ m. record { least = Some m; greatest = Some m }) (moment text offset false)

abbrev pub spanned : ℤ → List ℕ → List ℕ → Option Span
spanned offset first [] = single_moment offset first
spanned offset first (hyphen ∷ last) = span_between offset first last

-- The moments that a key covers: for a-b those from the first moment of a to the last of b, for a- and -b those on one
-- side, and for a single DT its first moment; None if the key is unreadable.
abbrev pub span_of : ℤ → List ℕ → Option Span
span_of offset text = spanned offset (take (first_len text) text) (drop (first_len text) text)

abbrev pub is_from : Option ℤ → ℤ → Bool
is_from None m = true
is_from (Some least) m = int_le least m

abbrev pub is_up_to : Option ℤ → ℤ → Bool
is_up_to None m = true
is_up_to (Some greatest) m = int_le m greatest

abbrev pub contains_moment : Span → ℤ → Bool
contains_moment span m = is_from span.least m && is_up_to span.greatest m

-- a readable key covers the first moment of a stored DT
abbrev pub spans : Option Span → Option ℤ → Bool
spans None moment = false
spans (Some span) None = false
spans (Some span) (Some m) = contains_moment span m
