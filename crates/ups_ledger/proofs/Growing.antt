-- The first entries of a history that goes on, and their records in a ledger to which more are put.
use Rattle.std.proofs.Common.{◌≡◌, ℕ, ◌+◌, ◌<◌, ◌≤◌, List, [], ◌∷◌, ◌++◌, length, map, take, get_or, refl, sym, ap, ◌∙◌, subst, arith}
use Rattle.std.specs.Prelude.{drop}
use Rattle.std.specs.Global.{Global}
use Rattle.std.proofs.lemmas.List.{append_assoc, length-append, length-take-le, length-map, map-append, take-append-drop, take-append-le, take-map, take-take, take_all, take_at, take_more}
use Rattle.std.proofs.Math.Seq.{take-append_seam}
use Rattle.ups_life.specs.declared.entry.Entry.{Entry}
use Rattle.ups_journal.specs.declared.record.Record.{Record}
use Rattle.ups_journal.specs.Columns.{recorded}
use Rattle.ups_service.specs.Law.{BeginsHistory}
use Rattle.ups_ledger.specs.Behind.{AreBehind}
use Rattle.ups_ledger.specs.Keeping.{AreFirst}

-- the first c of a list, and behind them at most so many more
module _ {X : Type 0} (c most : ℕ) (xs : List X) (le : c ≤ length xs) where
  whole : (take c xs ++ take most (drop c xs)) ++ drop most (drop c xs) ≡ xs
  whole = append_assoc (take c xs) (take most (drop c xs)) (drop most (drop c xs)) ∙ (ap (λ (l : List X). take c xs ++ l) (take-append-drop most (drop c xs)) ∙ take-append-drop c xs)

  long : length (take c xs ++ take most (drop c xs)) ≡ c + length (take most (drop c xs))
  long = length-append (take c xs) (take most (drop c xs)) ∙ ap (λ (n : ℕ). n + length (take most (drop c xs))) (length-take-le c xs le)

  first_more : take (c + length (take most (drop c xs))) xs ≡ take c xs ++ take most (drop c xs)
  first_more =
      ap (λ (n : ℕ). take n xs) (sym long)
      ∙ (ap (take (length (take c xs ++ take most (drop c xs)))) (sym whole) ∙ take-append_seam (take c xs ++ take most (drop c xs)) (drop most (drop c xs)))

  within : c + length (take most (drop c xs)) ≤ length xs
  within = omega (arith, long, ap length whole, length-append (take c xs ++ take most (drop c xs)) (drop most (drop c xs)))

module _ {A : Type 0} where
  -- one record more
  pub one_more : (records after : List (Record A)) (es : List (Entry A)) (i : ℕ) (e : Entry A) (r : Record A) → i < length es → e ≡ get_or es i e → records ≡ map recorded (take i es) → r ≡ recorded e → after ≡ records ++ r ∷ []
      → after ≡ map recorded (take (i + 1) es)
  one_more records after es i e r low at was is put =
      put ∙ ((λ k. was k ++ is k ∷ []) ∙ (sym (map-append recorded (take i es) (e ∷ [])) ∙ ap (λ (l : List (Entry A)). map recorded l) (ap (λ (x : Entry A). take i es ++ x ∷ []) at ∙ sym (take_more es i e low))))

  pub all_taken : (records : List (Record A)) (es : List (Entry A)) (i : ℕ) → length es ≤ i → records ≡ map recorded (take i es) → records ≡ map recorded es
  all_taken records es i end was = was ∙ ap (λ (l : List (Entry A)). map recorded l) (take_all i es end)

  -- a history that goes on begins as it did
  pub first_again : (records : List (Record A)) (seen between now : List (Entry A)) (count : ℕ) → now ≡ seen ++ between → AreFirst records seen count → AreFirst records now count
  first_again records seen between now count is first = subst (λ (l : List (Entry A)). AreFirst records l count) (sym is) (record {
    there = let t = first.there in omega (arith, length-append seen between);
    are = first.are ∙ ap (λ (l : List (Entry A)). map recorded l) (sym (take-append-le count seen between first.there));
  })

  -- the records of the next entries come behind those of the first
  pub more_first : (kept added after : List (Record A)) (history : List (Entry A)) (count most : ℕ) → AreFirst kept history count → added ≡ map recorded (take most (drop count history)) → after ≡ kept ++ added
      → AreFirst after history (count + length added)
  more_first kept added after history count most first is put =
      let p = take most (drop count history) in
      let many : length added ≡ length p = ap length is ∙ length-map p recorded in
      record {
        there = let w = within count most history first.there in omega (arith, many);
        are = put ∙ ((λ i. first.are i ++ is i) ∙ (sym (map-append recorded (take count history) p) ∙ ap (λ (l : List (Entry A)). map recorded l) (sym (first_more count most history first.there) ∙ ap (λ (n : ℕ). take (count + n) history) (sym many))));
      }

  -- and they begin with those of each beginning of the history that is no longer
  pub named_first : (records : List (Record A)) (history seen : List (Entry A)) (count : ℕ) → AreFirst records history count → BeginsHistory seen history → length seen ≤ count → take (length seen) records ≡ map recorded seen
  named_first records history seen count first (rest, is) few =
      ap (take (length seen)) first.are
      ∙ (take-map recorded (length seen) (take count history) ∙ ap (λ (l : List (Entry A)). map recorded l) (take-take (length seen) count history few ∙ (ap (take (length seen)) (sym is) ∙ take_at seen rest (length seen) refl)))

  -- the records of the first entries of a history begin with those of what was seen of it
  pub rests_first : (records : List (Record A)) (history seen : List (Entry A)) (count rests : ℕ) → AreFirst records history count → BeginsHistory seen history → rests ≤ count → rests ≤ length seen → take rests records ≡ map recorded (take rests seen)
  rests_first records history seen count rests first (rest, is) few within =
      ap (take rests) first.are
      ∙ (take-map recorded rests (take count history) ∙ ap (λ (l : List (Entry A)). map recorded l) (take-take rests count history few ∙ (ap (take rests) (sym is) ∙ take-append-le rests seen rest within)))

-- records behind as many as were committed are as many more
pub behind_counted : (all records : List (Record Global)) (committed : ℕ) → AreBehind all committed records → length all ≡ committed + length records
behind_counted all records committed behind = ap length behind.are ∙ (length-append behind.front records ∙ ap (λ (n : ℕ). n + length records) behind.many)
