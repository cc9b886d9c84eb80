-- The verbs, each at its place in a list of all.
use Rattle.std.proofs.Common.{◌≡◌, ℕ, zero, suc, ◌+◌, ◌<◌, ◌≤◌, true, false, List, [], ◌∷◌, length, get_or, refl, ap, ◌∙◌, arith}
use borrow.Author.Count.{below_more}
use Rattle.std.specs.Str.{bytes_eq}
use Rattle.std.proofs.lemmas.Slice.Eq.{bytes_eq-Decides}
use Rattle.ups_requests.specs.declared.line.Verb.{Verb}
use Rattle.ups_requests.specs.declared.line.Verb.TheVariants.{Create, Get, Set, Change, Cancel, Subscribe, Unsubscribe, Suspend, Find, Pending, Ack, Watches, Sweep, Held, Holder, Reserve}
use Rattle.ups_requests.specs.Questions.{verb_word}

abbrev pub verbs : List Verb
verbs = Create ∷ Get ∷ Set ∷ Change ∷ Cancel ∷ Subscribe ∷ Unsubscribe ∷ Suspend ∷ Find ∷ Pending ∷ Ack ∷ Watches ∷ Sweep ∷ Held ∷ Holder ∷ Reserve ∷ []

-- none of the first i verbs has this word
abbrev pub AmongNone : List ℕ → ℕ → Type 0
AmongNone word i = (k : ℕ) → k < i → verb_word (get_or verbs k Create) ≡ word → ⊥

same_at : (xs : List Verb) (i : ℕ) (d e : Verb) → i < length xs → get_or xs i d ≡ get_or xs i e
same_at [] i d e low = absurd (omega (arith, low))
same_at (x ∷ xs) zero d e low = refl
same_at (x ∷ xs) (suc i) d e low = same_at xs i d e (omega (arith, low))

-- nor has the next, which differs from it
pub one_more : (word : List ℕ) (i : ℕ) (d : Verb) → i < 16 → AmongNone word i → bytes_eq (verb_word (get_or verbs i d)) word ≡ false → AmongNone word (i + 1)
one_more word i d low none differs =
    below_more (λ k. verb_word (get_or verbs k Create) ≡ word → ⊥) i none
    (λ is. let e : bytes_eq (verb_word (get_or verbs i d)) word ≡ true = (bytes_eq-Decides _ _).1 (ap verb_word (same_at verbs i d Create low) ∙ is) in cc)

place : (verb : Verb) → (k : ℕ) × (k < 16) × (get_or verbs k Create ≡ verb)
place Create = (0, omega arith, refl)
place Get = (1, omega arith, refl)
place Set = (2, omega arith, refl)
place Change = (3, omega arith, refl)
place Cancel = (4, omega arith, refl)
place Subscribe = (5, omega arith, refl)
place Unsubscribe = (6, omega arith, refl)
place Suspend = (7, omega arith, refl)
place Find = (8, omega arith, refl)
place Pending = (9, omega arith, refl)
place Ack = (10, omega arith, refl)
place Watches = (11, omega arith, refl)
place Sweep = (12, omega arith, refl)
place Held = (13, omega arith, refl)
place Holder = (14, omega arith, refl)
place Reserve = (15, omega arith, refl)

-- and none at all, where they are all looked at
pub no_verb : (word : List ℕ) (i : ℕ) → 16 ≤ i → AmongNone word i → (verb : Verb) → verb_word verb ≡ word → ⊥
no_verb word i all none verb is =
    let p = place verb in
    none p.0 (omega (arith, all, p.1)) (ap verb_word p.2 ∙ is)
