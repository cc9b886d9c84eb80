-- How the matcher goes through a pattern, run by run.
use Rattle.std.specs.Prelude.{ℕ, Bool, not, ◌||◌, ◌==◌, List, [], ◌∷◌, drop, Option, None, Some, if◌then◌else◌}
use Rattle.std.specs.List.{prefix_len, take_while}
use Rattle.ups_match.specs.Likeness.{is_star, is_question_mark}

abbrev pub is_no_star : ℕ → Bool
is_no_star byte = not (is_star byte)

-- a run: the part of a pattern before its first *; and the rest of the pattern, which begins with that *
abbrev pub run_of : List ℕ → List ℕ
run_of pattern = take_while is_no_star pattern

abbrev pub behind_run : List ℕ → List ℕ
behind_run pattern = drop (prefix_len is_no_star pattern) pattern

-- the rest of a text after bytes that match a run; None if the text does not begin so
abbrev pub behind_front : List ℕ → List ℕ → Option (List ℕ)
behind_front [] text = Some text
behind_front (p ∷ ps) [] = None
behind_front (p ∷ ps) (b ∷ bs) = if is_question_mark p || p == b then behind_front ps bs else None

abbrev pub or_behind : Option (List ℕ) → Option (List ℕ) → Option (List ℕ)
or_behind None other = other
or_behind (Some x) other = Some x

-- the same at the first place at which the run matches
abbrev pub behind_first : List ℕ → List ℕ → Option (List ℕ)
behind_first run [] = behind_front run []
behind_first run (b ∷ bs) = or_behind (behind_front run (b ∷ bs)) (behind_first run bs)
