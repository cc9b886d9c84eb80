-- A pattern with one * for each row of them.
use Rattle.std.proofs.Common.{◌≡◌, ◌+◌, ◌<◌, ◌≤◌, ◌&&◌, ℕ, Bool, true, false, cond, List, [], ◌∷◌, ◌++◌, length, drop, take, get_or, sym, ap, ◌∙◌, append_assoc, append-nil}
use Rattle.std.specs.List.{list_any}
use Rattle.std.proofs.lemmas.Bool.Decides.{same_from_decides}
use Rattle.std.proofs.lemmas.List.{take_all, take_more}
use Rattle.ups_match.specs.Likeness.{is_star, is_like, begins_like, ends_of}
use Rattle.ups_match.proofs.Lengths.{any_same}
use Rattle.ups_match.proofs.PatternRuns.{decided, stars_again}

-- behind the same bytes, patterns that say the same say the same
same_behind : (front ps qs : List ℕ) → ((text : List ℕ) → is_like ps text ≡ is_like qs text) → (text : List ℕ) → is_like (front ++ ps) text ≡ is_like (front ++ qs) text
same_behind [] ps qs same text = same text
same_behind (p ∷ front) ps qs same text = go (same_behind front ps qs same) (is_star p)
  where
    go : ((t : List ℕ) → is_like (front ++ ps) t ≡ is_like (front ++ qs) t) → (q : Bool) → cond q (list_any (is_like (front ++ ps)) (ends_of text)) (begins_like p text && is_like (front ++ ps) (drop 1 text)) ≡ cond q (list_any (is_like (front ++ qs)) (ends_of text)) (begins_like p text && is_like (front ++ qs) (drop 1 text))
    go more true = any_same _ _ more (ends_of text)
    go more false = ap (λ b. begins_like p text && b) (more (drop 1 text))

star_twice : (ps text : List ℕ) → is_like (42 ∷ 42 ∷ ps) text ≡ is_like (42 ∷ ps) text
star_twice ps text =
    let more = stars_again 1 ps text in
    let two = decided (42 ∷ 42 ∷ ps) text in
    same_from_decides _ _ ((λ h. more.1 (two.0 h)), (λ h. two.1 (more.0 h))) (decided (42 ∷ ps) text)

-- the first bytes of a pattern are kept, with one * for each row of them
pub record Keeps (pattern short : List ℕ) (i : ℕ) (behind_star : Bool) : Type 0 where
  pub same : (ps text : List ℕ) → is_like (short ++ ps) text ≡ is_like (take i pattern ++ ps) text
  pub star : behind_star ≡ true → (front : List ℕ) × (short ≡ front ++ 42 ∷ [])

-- with one byte more
more_first : (pattern ps : List ℕ) (i byte : ℕ) → i < length pattern → byte ≡ get_or pattern i 0 → take i pattern ++ byte ∷ ps ≡ take (i + 1) pattern ++ ps
more_first pattern ps i byte low is =
    ap (λ b. take i pattern ++ b ∷ ps) is ∙ sym (append_assoc (take i pattern) (get_or pattern i 0 ∷ []) ps) ∙ ap (λ p. p ++ ps) (sym (take_more pattern i 0 low))

-- a * behind another one is left out
pub keeps_star : (pattern short : List ℕ) (i : ℕ) (behind_star : Bool) → Keeps pattern short i behind_star → i < length pattern → 42 ≡ get_or pattern i 0 → behind_star ≡ true → Keeps pattern short (i + 1) behind_star
keeps_star pattern short i behind_star old low is behind =
    let star = old.star behind in record {
      same = λ ps text.
          let front : short ++ ps ≡ star.0 ++ 42 ∷ ps = ap (λ s. s ++ ps) star.1 ∙ append_assoc star.0 (42 ∷ []) ps in
          let twice : short ++ 42 ∷ ps ≡ star.0 ++ 42 ∷ 42 ∷ ps = ap (λ s. s ++ 42 ∷ ps) star.1 ∙ append_assoc star.0 (42 ∷ []) (42 ∷ ps) in
          ap (λ p. is_like p text) front
          ∙ sym (same_behind star.0 (42 ∷ 42 ∷ ps) (42 ∷ ps) (star_twice ps) text)
          ∙ sym (ap (λ p. is_like p text) twice)
          ∙ old.same (42 ∷ ps) text
          ∙ ap (λ p. is_like p text) (more_first pattern ps i 42 low is);
      star = old.star;
    }

-- and all of them are
pub keeps_all : (pattern short : List ℕ) (i : ℕ) (behind_star : Bool) → Keeps pattern short i behind_star → length pattern ≤ i → (text : List ℕ) → is_like short text ≡ is_like pattern text
keeps_all pattern short i behind_star kept all text =
    sym (ap (λ p. is_like p text) (append-nil short)) ∙ kept.same [] text ∙ ap (λ p. is_like p text) (append-nil (take i pattern) ∙ take_all i pattern all)
