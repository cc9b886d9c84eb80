-- Which SOP class a UID is of.
use Rattle.std.proofs.Common.{◌≡◌, ℕ, Bool, true, false, cond, eqb, List, [], ◌∷◌, Option, None, Some, refl, sym, ap, ◌∙◌}
use Rattle.std.specs.Prelude.{MatchOption}
use Rattle.std.proofs.lemmas.Bool.{eqb-true, and_parts}
use Rattle.ups_assoc.specs.declared.sop_class.SopClass.{SopClass}
use Rattle.ups_assoc.specs.declared.sop_class.SopClass.TheVariants.{Verification, UpsPush, UpsPull, UpsWatch, UpsEvent}
use Rattle.ups_assoc.specs.Same.{is_same}
use Rattle.ups_assoc.specs.Classes.{uid_of, class_among, class_of}

pub is_first : (uid : List ℕ) (class : SopClass) (others : List SopClass) → is_same uid (uid_of class) ≡ true → Some class ≡ class_among (class ∷ others) uid
is_first uid class others e = sym (ap (λ (b : Bool). cond b (Some class) (class_among others uid)) e)

pub is_later : (uid : List ℕ) (class : SopClass) (others : List SopClass) (o : Option SopClass) → is_same uid (uid_of class) ≡ false → o ≡ class_among others uid → o ≡ class_among (class ∷ others) uid
is_later uid class others o e h = h ∙ sym (ap (λ (b : Bool). cond b (Some class) (class_among others uid)) e)

same_text : (a b : List ℕ) → is_same a b ≡ true → b ≡ a
same_text [] [] e = refl
same_text [] (y ∷ ys) e = absurd (cc)
same_text (x ∷ xs) [] e = absurd (cc)
same_text (x ∷ xs) (y ∷ ys) e =
    let p = and_parts (eqb x y) (is_same xs ys) e in
    let front : x ≡ y = eqb-true x y p.0 in
    let behind : ys ≡ xs = same_text xs ys p.1 in
    cc

found_at : (uid : List ℕ) (class first : SopClass) (others : List SopClass) (b : Bool) → is_same uid (uid_of first) ≡ b → (Some class ≡ class_among others uid → uid_of class ≡ uid) → Some class ≡ cond b (Some first) (class_among others uid) → uid_of class ≡ uid
found_at uid class first others true same later e =
    let is : class ≡ first = cc in
    ap uid_of is ∙ same_text uid (uid_of first) same
found_at uid class first others false same later e = later e

found : (uid : List ℕ) (class : SopClass) (classes : List SopClass) → Some class ≡ class_among classes uid → uid_of class ≡ uid
found uid class [] e = absurd (cc)
found uid class (first ∷ others) e = found_at uid class first others (is_same uid (uid_of first)) refl (found uid class others) e

class_of-uid_of : (class : SopClass) → class_of (uid_of class) ≡ Some class
class_of-uid_of Verification = refl
class_of-uid_of UpsPush = refl
class_of-uid_of UpsPull = refl
class_of-uid_of UpsWatch = refl
class_of-uid_of UpsEvent = refl

missed : (uid : List ℕ) (class : SopClass) → None ≡ class_of uid → uid_of class ≡ uid → ⊥
missed uid class e is =
    let none : None ≡ Some class = e ∙ ap class_of (sym is) ∙ class_of-uid_of class in
    absurd (cc)

pub both_ways : (uid : List ℕ) (o : Option SopClass) → o ≡ class_of uid → MatchOption o ((class : SopClass) → uid_of class ≡ uid → ⊥) (λ class. uid_of class ≡ uid)
both_ways uid None e = λ class is. missed uid class e is
both_ways uid (Some class) e = found uid class (Verification ∷ UpsPush ∷ UpsPull ∷ UpsWatch ∷ UpsEvent ∷ []) e
