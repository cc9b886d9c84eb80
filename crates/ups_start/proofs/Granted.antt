-- Records that are drafted as they were granted, some behind the others.
use Rattle.std.proofs.Common.{◌≡◌, ℕ, ◌+◌, ◌≤◌, List, ◌++◌, length, map, take, drop, sym, ap, subst, ◌∙◌, arith, inl, inr}
use Rattle.std.proofs.lemmas.List.{map-append, take_all, length-take, length-take-le, length-drop, take-append-drop, take-take, drop-take}
use Rattle.std.proofs.lemmas.Bool.{cases_lt}
use Rattle.std.specs.declared.alloc.Global.{Global}
use Rattle.ups_journal.specs.declared.record.Record.{Record}

-- as many as are taken
take_length : {X : Type 0} (m : ℕ) (xs : List X) → take (length (take m xs)) xs ≡ take m xs
take_length {X} m xs = elim (cases_lt m (length xs)) [
  | inl lt ↦ ap (λ (k : ℕ). take k xs) (length-take-le m xs (omega arith))
  | inr ge ↦ ap (λ (l : List X). take (length l) xs) (take_all m xs ge) ∙ (take_all (length xs) xs (omega arith) ∙ sym (take_all m xs ge))
]

-- more of them
take_to : {X : Type 0} (k n : ℕ) (xs : List X) → take (k + n) xs ≡ take k xs ++ take n (drop k xs)
take_to k n xs = sym (take-append-drop k (take (k + n) xs)) ∙ (λ i. take-take k (k + n) xs (omega arith) i ++ drop-take k n xs i)

-- the next ones behind the first
pub drafted_on : (f : Record Global → Record Global) (first kept old new : List (Record Global)) (done many next : ℕ) → next ≡ done + many → kept ≡ first → old ≡ map f (take done first) → new ≡ old ++ map f (take many (drop done kept)) → new ≡ map f (take next first)
drafted_on f first kept old new done many next at same was is =
    is
    ∙ (ap (λ (d : List (Record Global)). d ++ map f (take many (drop done kept))) was
    ∙ (ap (λ (k : List (Record Global)). map f (take done first) ++ map f (take many (drop done k))) same
    ∙ (sym (map-append f (take done first) (take many (drop done first)))
    ∙ (ap (map f) (sym (take_to done many first)) ∙ ap (λ (n : ℕ). map f (take n first)) (sym at)))))

-- none is behind them
pub drafted_all : (f : Record Global → Record Global) (first kept old new : List (Record Global)) (done many : ℕ) → many ≡ 0 → kept ≡ first → length kept ≤ done → old ≡ map f (take done first) → new ≡ old ++ map f (take many (drop done kept)) → new ≡ map f first
drafted_all f first kept old new done many none same all was is =
    let none_more : done ≡ done + many = omega (arith, none) in
    drafted_on f first kept old new done many done none_more same was is ∙ ap (map f) (take_all done first (subst (λ (k : List (Record Global)). length k ≤ done) same all))

-- the records that were read, as many as they are
pub read_on : (f : Record Global → Record Global) (kept records granted old mid new : List (Record Global)) (from many most : ℕ) → records ≡ take most (drop from kept) → many ≡ length records → granted ≡ map f records → mid ≡ old → new ≡ mid ++ granted → new ≡ old ++ map f (take many (drop from kept))
read_on f kept records granted old mid new from many most read counted is same put =
    let taken : take many (drop from kept) ≡ records =
    ap (λ (n : ℕ). take n (drop from kept)) (counted ∙ ap length read) ∙ (take_length most (drop from kept) ∙ sym read) in
    put ∙ (ap (λ (d : List (Record Global)). d ++ granted) same ∙ ap (λ (g : List (Record Global)). old ++ g) (is ∙ ap (map f) (sym taken)))

-- nothing was read, so nothing is behind the first
pub read_end : (kept records : List (Record Global)) (from many most : ℕ) → 1 ≤ most → records ≡ take most (drop from kept) → many ≡ length records → many ≡ 0 → length kept ≤ from
read_end kept records from many most some read counted none = omega (arith, some, ap length read, length-take most (drop from kept), length-drop from kept, counted, none)
