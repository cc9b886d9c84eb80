-- A text has one way to be read.
use Rattle.std.proofs.Common.{◌||◌, eqb, ◌≡◌, ◌≢◌, ℕ, ◌+◌, ◌*◌, ◌<◌, inl, inr, Bool, true, false, cond, List, [], ◌∷◌, ◌++◌, length, get_or, refl, sym, ap, subst, ◌∙◌, arith, append_assoc, append-nil}
use Rattle.std.specs.Char.{digit_value}
use Rattle.std.specs.List.{count_by, list_any}
use Rattle.std.proofs.lemmas.Bool.{ne_eqb}
use Rattle.std.proofs.lemmas.List.Sums.{sum_by-cons}
use Rattle.ups_pdu.proofs.Sequence.{IsOneWay, splits, ends, each_one}
use Rattle.ups_lines.specs.Escapes.{SpellsByte, StandsFirst, StandsFor, IsText, is_percent}

one_front : (text : List ℕ) (x y : ℕ) (r s : List ℕ) → StandsFirst text x r → StandsFirst text y s → (x ≡ y) × (r ≡ s)
one_front text x y r s (inl (n, e)) (inl (m, f)) = (cc, cc)
one_front text x y r s (inl (n, e)) (inr f) = absurd (n (let p : text ≡ 37 ∷ f.high ∷ f.low ∷ s = f.parts in cc))
one_front text x y r s (inr e) (inl (m, f)) = absurd (m (let p : text ≡ 37 ∷ e.high ∷ e.low ∷ r = e.parts in cc))
one_front text x y r s (inr e) (inr f) =
    let p : text ≡ 37 ∷ e.high ∷ e.low ∷ r = e.parts in
    let q : text ≡ 37 ∷ f.high ∷ f.low ∷ s = f.parts in
    let high : e.high ≡ f.high = cc in
    let low : e.low ≡ f.low = cc in
    let there : x ≡ 16 * digit_value f.high + digit_value f.low = e.spells.value ∙ ap (λ n. 16 * digit_value n + digit_value e.low) high ∙ ap (λ n. 16 * digit_value f.high + digit_value n) low in
    (there ∙ sym f.spells.value, cc)

some_front : (text : List ℕ) (x : ℕ) (r : List ℕ) → StandsFirst text x r → 0 < length text
some_front text x r (inl (n, e)) = omega (arith, ap length e)
some_front text x r (inr e) = omega (arith, ap length e.parts)

pub one_way : IsOneWay StandsFirst
one_way = record { one = one_front; some = some_front }

-- a text goes on behind its first byte
pub goes_on : (text rest : List ℕ) (byte : ℕ) → StandsFirst text byte rest → IsText rest → IsText text
goes_on text rest byte first (bytes, all) = (byte ∷ bytes, (rest, first, all))

pub went_on : (text rest : List ℕ) (byte : ℕ) → StandsFirst text byte rest → IsText text → IsText rest
went_on text rest byte first (bytes, all) = let s = splits StandsFirst one_way text byte rest first bytes all in (s.tail, s.more)

-- what is left of a text behind what was read of it
pub record LeavesFor (text rest front out : List ℕ) : Type 0 where
  pub only : (bytes : List ℕ) → StandsFor text bytes → (left : List ℕ) × StandsFor rest left × (front ++ bytes ≡ out ++ left)

pub none_read : (text front : List ℕ) → LeavesFor text text front front
none_read text front = record { only = λ bytes is. (bytes, is, refl) }

pub one_read : (text rest after front out : List ℕ) (byte : ℕ) → StandsFirst rest byte after → LeavesFor text rest front out → LeavesFor text after front (out ++ byte ∷ [])
one_read text rest after front out byte first so = record {
  only = λ bytes is.
      let w = so.only bytes is in
      let s = splits StandsFirst one_way rest byte after first w.0 w.1 in
      (s.tail, s.more, w.2 ∙ ap (λ l. out ++ l) s.parts ∙ sym (append_assoc out (byte ∷ []) s.tail));
}

pub all_read : (text rest front out : List ℕ) → ((byte : ℕ) → (after : List ℕ) → StandsFirst rest byte after → ⊥) → LeavesFor text rest front out → (bytes : List ℕ) → StandsFor text bytes → out ≡ front ++ bytes
all_read text rest front out none so bytes is =
    let w = so.only bytes is in
    let e = ends StandsFirst rest none w.0 w.1 in
    sym (w.2 ∙ ap (λ l. out ++ l) e.0 ∙ append-nil out)

-- a hex digit is no `%`
no_digit : (c : ℕ) → digit_value c < 16 → c ≡ 37 → ⊥
no_digit c low is = let e : digit_value c ≡ 36 = ap digit_value is in omega (arith, e, low)

percent : ℕ → List ℕ → ℕ
percent b rest = cond (is_percent b) 1 0 + count_by is_percent rest

none_more : (b : ℕ) (rest : List ℕ) → b ≢ 37 → count_by is_percent (b ∷ rest) ≡ count_by is_percent rest
none_more b rest n =
    let e : eqb b 37 ≡ false = ne_eqb b 37 n in
    let z : 0 + count_by is_percent rest ≡ count_by is_percent rest = omega arith in
    sum_by-cons (λ x. cond (eqb x 37) 1 0) b rest ∙ ap (λ t. cond t 1 0 + count_by is_percent rest) e ∙ z

one_more : (rest : List ℕ) → count_by is_percent (37 ∷ rest) ≡ 1 + count_by is_percent rest
one_more rest = sum_by-cons (λ x. cond (eqb x 37) 1 0) 37 rest

-- an escape has two bytes more than the one that it stands for
pub sized : (bytes text : List ℕ) → StandsFor text bytes → length text ≡ length bytes + 2 * count_by is_percent text
sized [] text e =
    let none : count_by is_percent text ≡ 0 = ap (λ (l : List ℕ). count_by is_percent l) e in
    omega (arith, ap length e, none)
sized (b ∷ bs) text (rest, inl (n, e), more) =
    let inner : length rest ≡ length bs + 2 * count_by is_percent rest = sized bs rest more in
    let count : count_by is_percent text ≡ count_by is_percent rest = ap (λ (l : List ℕ). count_by is_percent l) e ∙ none_more b rest n in
    omega (arith, inner, ap length e, count)
sized (b ∷ bs) text (rest, inr e, more) =
    let inner : length rest ≡ length bs + 2 * count_by is_percent rest = sized bs rest more in
    let high : count_by is_percent (e.high ∷ e.low ∷ rest) ≡ count_by is_percent (e.low ∷ rest) = none_more e.high (e.low ∷ rest) (no_digit e.high e.spells.high_digit) in
    let low : count_by is_percent (e.low ∷ rest) ≡ count_by is_percent rest = none_more e.low rest (no_digit e.low e.spells.low_digit) in
    let count : count_by is_percent text ≡ 1 + count_by is_percent rest = ap (λ (l : List ℕ). count_by is_percent l) e.parts ∙ one_more (e.high ∷ e.low ∷ rest) ∙ ap (λ n. 1 + n) (high ∙ low) in
    omega (arith, inner, ap length e.parts, count)

none_of : (a b : Bool) → a || b ≡ false → (a ≡ false) × (b ≡ false)
none_of false b e = (refl, e)
none_of true b e = cc

-- a text without `%` stands for itself
pub bare : (bytes text : List ℕ) → list_any is_percent text ≡ false → StandsFor text bytes → text ≡ bytes
bare [] text none e = e
bare (b ∷ bs) text none (rest, inl (n, e), more) =
    let here : list_any is_percent (b ∷ rest) ≡ false = ap (λ l. list_any is_percent l) (sym e) ∙ none in
    e ∙ ap (λ l. b ∷ l) (bare bs rest (none_of (is_percent b) (list_any is_percent rest) here).1 more)
bare (b ∷ bs) text none (rest, inr e, more) =
    let here : list_any is_percent (37 ∷ e.high ∷ e.low ∷ rest) ≡ false = ap (λ l. list_any is_percent l) (sym e.parts) ∙ none in
    cc

-- where a text does not go on it is at its end
pub stuck : (rest : List ℕ) → ((byte : ℕ) → (after : List ℕ) → StandsFirst rest byte after → ⊥) → 0 < length rest → IsText rest → ⊥
stuck rest none some (bytes, is) = let e = (ends StandsFirst rest none bytes is).1 in omega (arith, some, ap length e)

-- a text stands for one value
pub one_meaning : (text one other : List ℕ) → StandsFor text one → StandsFor text other → one ≡ other
one_meaning text one other a b = each_one StandsFirst one_way text one other a b

-- no byte stands first where no two hex digits stand behind a `%`
pub no_escape : (text : List ℕ) → get_or text 0 0 ≡ 37 → ((byte : ℕ) → SpellsByte (get_or text 1 0) (get_or text 2 0) byte → ⊥) → (byte : ℕ) → (rest : List ℕ) → StandsFirst text byte rest → ⊥
no_escape text percent none byte rest (inl (n, e)) = n (sym (ap (λ (l : List ℕ). get_or l 0 0) e) ∙ percent)
no_escape text percent none byte rest (inr e) = none byte (subst (λ (l : List ℕ). SpellsByte (get_or l 1 0) (get_or l 2 0) byte) (sym e.parts) e.spells)

-- nor where the text ends before them
pub too_short : (text : List ℕ) → length text < 3 → (0 < length text → get_or text 0 0 ≡ 37) → (byte : ℕ) → (rest : List ℕ) → StandsFirst text byte rest → ⊥
too_short text short percent byte rest (inl (n, e)) = n (sym (ap (λ (l : List ℕ). get_or l 0 0) e) ∙ percent (omega (arith, ap length e)))
too_short text short percent byte rest (inr e) = absurd (omega (arith, short, ap length e.parts))
