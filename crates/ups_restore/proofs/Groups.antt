-- Records of a history that are put into a ledger in groups.
use Rattle.std.proofs.Common.{◌≡◌, ℕ, ◌≤◌, ◌+◌, List, ◌++◌, length, map, take, drop, refl, sym, ap, ◌∙◌, arith}
use Rattle.std.proofs.lemmas.List.{append_assoc, length-take, length-drop, length-map, take_all}
use Rattle.ups_life.specs.declared.entry.Entry.{Entry}
use Rattle.ups_journal.specs.declared.record.Record.{Record}
use Rattle.ups_journal.specs.Columns.{recorded}
use Rattle.ups_ledger.specs.Keeping.{AreFirst}
use Rattle.ups_ledger.proofs.Growing.{more_first}

module _ {X : Type 0} (most : ℕ) (xs : List X) (i : ℕ) where
  -- and ends within the list
  pub within : i ≤ length xs → i + length (take most (drop i xs)) ≤ length xs
  within low = omega (arith, length-take most (drop i xs), length-drop i xs)

module _ {A : Type 0} (before : List (Record A)) (h : List (Entry A)) where
  -- one group more
  pub put_more : (now then : List (Record A)) (most i n : ℕ) → i ≤ length h → now ≡ before ++ map recorded (take i h) → then ≡ now ++ map recorded (take most (drop i h)) → n ≡ i + length (take most (drop i h))
      → then ≡ before ++ map recorded (take n h)
  put_more now then most i n low was put is =
      let group = take most (drop i h) in
      let first : AreFirst (map recorded (take i h)) h i = record { there = low; are = refl } in
      let more = more_first (map recorded (take i h)) (map recorded group) (map recorded (take i h) ++ map recorded group) h i most first refl refl in
      let many : i + length (map recorded group) ≡ n = ap (λ (k : ℕ). i + k) (length-map group recorded) ∙ sym is in
      put
      ∙ (ap (λ (rs : List (Record A)). rs ++ map recorded group) was
      ∙ (append_assoc before (map recorded (take i h)) (map recorded group)
      ∙ ap (λ (rs : List (Record A)). before ++ rs) (more.are ∙ ap (λ (k : ℕ). map recorded (take k h)) many)))
