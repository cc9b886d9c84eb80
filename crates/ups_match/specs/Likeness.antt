-- Wild cards: which texts are like a pattern (PS3.4 section C.2.2.2.4).
use Rattle.std.specs.Prelude.{ℕ, Bool, false, ◌&&◌, ◌||◌, ◌≡◌, ◌==◌, List, [], ◌∷◌, ◌++◌, length, drop, if◌then◌else◌}
use Rattle.std.specs.Bool.{MatchBool}
use Rattle.std.specs.List.{list_any}
use Rattle.ups_pdu.specs.Padding.{is_nil}

-- the asterisk and the question mark
abbrev pub is_star : ℕ → Bool
is_star byte = byte == 42

abbrev pub is_question_mark : ℕ → Bool
is_question_mark byte = byte == 63

-- In a pattern, * stands for any bytes, or none; ? stands for any one byte; any other byte stands for itself.
abbrev pub MatchesPart : ℕ → List ℕ → Type 0
MatchesPart p part = MatchBool (is_star p) (Unit {0}) (MatchBool (is_question_mark p) (length part ≡ 1) (part ≡ p ∷ []))

-- A text is like a pattern if it consists of one part for each byte of the pattern, in order.
abbrev pub IsLike : List ℕ → List ℕ → Type 0
IsLike [] text = text ≡ []
IsLike (p ∷ ps) text = (part : List ℕ) × (rest : List ℕ) × (text ≡ part ++ rest) × MatchesPart p part × IsLike ps rest

-- The same, computed.

-- a text begins with a byte for which the pattern's byte p, other than *, stands
abbrev pub begins_like : ℕ → List ℕ → Bool
begins_like p [] = false
begins_like p (b ∷ bs) = is_question_mark p || p == b

-- the ends of a text, from the whole text to the empty one
abbrev pub ends_of : List ℕ → List (List ℕ)
ends_of [] = [] ∷ []
ends_of (b ∷ bs) = (b ∷ bs) ∷ ends_of bs

-- whether a text is like a pattern
abbrev pub is_like : List ℕ → List ℕ → Bool
is_like [] text = is_nil text
is_like (p ∷ ps) text = if is_star p then list_any (is_like ps) (ends_of text) else begins_like p text && is_like ps (drop 1 text)
