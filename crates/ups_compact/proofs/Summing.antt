-- The shifts of watchers, one by one.
use Rattle.std.proofs.Common.{◌≡◌, ℕ, zero, suc, ◌<◌, ◌≤◌, ◌+◌, Bool, true, false, ◌||◌, cond, List, [], ◌∷◌, ◌++◌, length, take, drop, get_or, refl, sym, ap, ◌∙◌, arith}
use Rattle.std.specs.Prelude.{Result, Ok, Err, OnOk}
use Rattle.std.specs.Str.{bytes_eq}
use Rattle.std.proofs.lemmas.List.{take_more, take_all}
use Rattle.ups_life.proofs.Texts.{same_text}
use Rattle.ups_compact.specs.declared.shifts.Shift.{Shift}
use Rattle.ups_compact.specs.Shifts.{has_shift, less_by, AreSums}

or_assoc : (a b c : Bool) → a || (b || c) ≡ (a || b) || c
or_assoc true b c = refl
or_assoc false b c = refl

or_false : (a : Bool) → a || false ≡ a
or_false true = refl
or_false false = refl

pub has_added : (xs : List Shift) (x : Shift) (w : List ℕ) → has_shift (xs ++ x ∷ []) w ≡ has_shift xs w || bytes_eq x.watcher w
has_added [] x w = or_false (bytes_eq x.watcher w)
has_added (y ∷ xs) x w = ap (λ (b : Bool). bytes_eq y.watcher w || b) (has_added xs x w) ∙ or_assoc (bytes_eq y.watcher w) (has_shift xs w) (bytes_eq x.watcher w)

pub less_added : (xs : List Shift) (x : Shift) (w : List ℕ) → less_by (xs ++ x ∷ []) w ≡ cond (has_shift xs w) (less_by xs w) (cond (bytes_eq x.watcher w) x.less 0)
less_added [] x w = refl
less_added (y ∷ xs) x w = at (bytes_eq y.watcher w) (less_added xs x w)
  where
    at : (b : Bool) → less_by (xs ++ x ∷ []) w ≡ cond (has_shift xs w) (less_by xs w) (cond (bytes_eq x.watcher w) x.less 0)
        → cond b y.less (less_by (xs ++ x ∷ []) w) ≡ cond (b || has_shift xs w) (cond b y.less (less_by xs w)) (cond (bytes_eq x.watcher w) x.less 0)
    at true h = refl
    at false h = h

pub less_none : (xs : List Shift) (w : List ℕ) → has_shift xs w ≡ false → less_by xs w ≡ 0
less_none [] w h = refl
less_none (x ∷ xs) w h = at (bytes_eq x.watcher w) h (λ g. less_none xs w g)
  where
    at : (b : Bool) → b || has_shift xs w ≡ false → (has_shift xs w ≡ false → less_by xs w ≡ 0) → cond b x.less (less_by xs w) ≡ 0
    at true g rest = absurd cc
    at false g rest = rest g

-- THE FIRST ONE of a watcher
pub less_here : (xs : List Shift) (i : ℕ) (w : List ℕ) (x : Shift) → i < length xs → x ≡ get_or xs i x → bytes_eq x.watcher w ≡ true → less_by (drop i xs) w ≡ x.less
less_here [] i w x low is same = absurd (omega (arith, low))
less_here (y ∷ xs) zero w x low is same =
    ap (λ (z : Shift). cond (bytes_eq z.watcher w) z.less (less_by xs w)) (sym is) ∙ ap (λ (b : Bool). cond b x.less (less_by xs w)) same
less_here (y ∷ xs) (suc i) w x low is same = less_here xs i w x (omega (arith, low)) is same

pub less_past : (xs : List Shift) (i : ℕ) (w : List ℕ) (x : Shift) → i < length xs → x ≡ get_or xs i x → bytes_eq x.watcher w ≡ false → less_by (drop i xs) w ≡ less_by (drop (i + 1) xs) w
less_past [] i w x low is other = absurd (omega (arith, low))
less_past (y ∷ xs) zero w x low is other = ap (λ (z : Shift). cond (bytes_eq z.watcher w) z.less (less_by xs w)) (sym is) ∙ ap (λ (b : Bool). cond b x.less (less_by xs w)) other
less_past (y ∷ xs) (suc i) w x low is other =
    less_past xs i w x (omega (arith, low)) is other ∙ ap (λ (n : ℕ). less_by (drop n (y ∷ xs)) w) (let same : suc (i + 1) ≡ suc i + 1 = omega arith in same)

-- those before a place, and the one at it
pub has_next : (xs : List Shift) (i : ℕ) (x : Shift) (w : List ℕ) → i < length xs → x ≡ get_or xs i x → has_shift (take (i + 1) xs) w ≡ has_shift (take i xs) w || bytes_eq x.watcher w
has_next xs i x w low is =
    ap (λ (ys : List Shift). has_shift ys w) (take_more xs i x low)
    ∙ ap (λ (y : Shift). has_shift (take i xs ++ y ∷ []) w) (sym is)
    ∙ has_added (take i xs) x w

-- the shift of each watcher before a place is 0, and so is that of the watcher at it
pub none_next : (xs : List Shift) (i : ℕ) (x : Shift) → i < length xs → x ≡ get_or xs i x → ((w : List ℕ) → has_shift (take i xs) w ≡ true → less_by xs w ≡ 0) → less_by xs x.watcher ≤ 0
    → (w : List ℕ) → has_shift (take (i + 1) xs) w ≡ true → less_by xs w ≡ 0
none_next xs i x low is before none w h = at (has_shift (take i xs) w) refl (bytes_eq x.watcher w) refl (sym (has_next xs i x w low is) ∙ h)
  where
    at : (b : Bool) → has_shift (take i xs) w ≡ b → (d : Bool) → bytes_eq x.watcher w ≡ d → b || d ≡ true → less_by xs w ≡ 0
    at true first d same g = before w first
    at false first true same g = sym (ap (less_by xs) (same_text x.watcher w same)) ∙ (let zero_here : less_by xs x.watcher ≡ 0 = omega (arith, none) in zero_here)
    at false first false same g = absurd cc

pub none_all : (xs : List Shift) (i : ℕ) → length xs ≤ i → ((w : List ℕ) → has_shift (take i xs) w ≡ true → less_by xs w ≡ 0) → (w : List ℕ) → less_by xs w ≡ 0
none_all xs i end before w = at (has_shift xs w) refl
  where
    at : (b : Bool) → has_shift xs w ≡ b → less_by xs w ≡ 0
    at true h = before w (ap (λ (ys : List Shift). has_shift ys w) (take_all i xs end) ∙ h)
    at false h = less_none xs w h

-- SUMS
pub no_sums : (first second : List Shift) → AreSums first second []
no_sums first second = λ w. refl

pub sum_more : (first second sums then : List Shift) (x : Shift) → then ≡ sums ++ x ∷ [] → has_shift sums x.watcher ≡ false → x.less ≡ less_by first x.watcher + less_by second x.watcher → AreSums first second sums → AreSums first second then
sum_more first second sums then x is new sum before = λ w. ap (λ (ys : List Shift). less_by ys w) is ∙ less_added sums x w ∙ at w (has_shift sums w) refl (bytes_eq x.watcher w) refl ∙ sym (ends w)
  where
    ends : (w : List ℕ) → cond (has_shift then w) (less_by first w + less_by second w) 0 ≡ cond (has_shift sums w || bytes_eq x.watcher w) (less_by first w + less_by second w) 0
    ends w = ap (λ (b : Bool). cond b (less_by first w + less_by second w) 0) (ap (λ (ys : List Shift). has_shift ys w) is ∙ has_added sums x w)

    at : (w : List ℕ) (b : Bool) → has_shift sums w ≡ b → (d : Bool) → bytes_eq x.watcher w ≡ d
        → cond b (less_by sums w) (cond d x.less 0) ≡ cond (b || d) (less_by first w + less_by second w) 0
    at w true had d same = before w ∙ ap (λ (b : Bool). cond b (less_by first w + less_by second w) 0) had
    at w false had true same = sum ∙ ap (λ (v : List ℕ). less_by first v + less_by second v) (same_text x.watcher w same)
    at w false had false same = refl

pub has_with : (sums then : List Shift) (x : Shift) → then ≡ sums ++ x ∷ [] → (w : List ℕ) → has_shift then w ≡ has_shift sums w || bytes_eq x.watcher w
has_with sums then x is w = ap (λ (ys : List Shift). has_shift ys w) is ∙ has_added sums x w

pub has_further : (before now then of : List Shift) (i : ℕ) (x : Shift) → i < length of → x ≡ get_or of i x → ((w : List ℕ) → has_shift now w ≡ has_shift before w || has_shift (take i of) w)
    → ((w : List ℕ) → has_shift then w ≡ has_shift now w || bytes_eq x.watcher w) → (w : List ℕ) → has_shift then w ≡ has_shift before w || has_shift (take (i + 1) of) w
has_further before now then of i x low is was more w =
    more w
    ∙ ap (λ (b : Bool). b || bytes_eq x.watcher w) (was w)
    ∙ sym (or_assoc (has_shift before w) (has_shift (take i of) w) (bytes_eq x.watcher w))
    ∙ ap (λ (b : Bool). has_shift before w || b) (sym (has_next of i x w low is))

-- the sums of all
pub sums_are : (first second sums : List Shift) → AreSums first second sums → ((w : List ℕ) → has_shift sums w ≡ has_shift first w || has_shift second w) → (w : List ℕ) → less_by sums w ≡ less_by first w + less_by second w
sums_are first second sums are has w = are w ∙ ap (λ (b : Bool). cond b (less_by first w + less_by second w) 0) (has w) ∙ at (has_shift first w) refl (has_shift second w) refl
  where
    at : (b : Bool) → has_shift first w ≡ b → (d : Bool) → has_shift second w ≡ d → cond (b || d) (less_by first w + less_by second w) 0 ≡ less_by first w + less_by second w
    at true h d g = refl
    at false h true g = refl
    at false h false g = let a = less_none first w h in let b = less_none second w g in let sum : 0 ≡ less_by first w + less_by second w = omega (arith, a, b) in sum

pub on_ok : {T E : Type 0} (P Q : Type 0) (r : Result T E) → (P → Q) → OnOk r P → OnOk r Q
on_ok P Q (Ok x) f p = f p
on_ok P Q (Err e) f p = tt
