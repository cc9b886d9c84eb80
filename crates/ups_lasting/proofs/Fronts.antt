-- The first records of a list, and the histories whose records they are.
use Rattle.std.proofs.Common.{◌≡◌, ℕ, ◌≤◌, ◌+◌, List, ◌++◌, length, map, take, drop, sym, ap, subst, ◌∙◌, arith, inl, inr}
use Rattle.std.proofs.lemmas.List.{length-map, length-take, length-take-le, length-drop, take-append-drop, take-take, take_all, take-map, drop-map, drop-take}
use Rattle.std.proofs.lemmas.List.Elements.{All-take}
use Rattle.std.proofs.lemmas.Bool.{cases_lt}
use Rattle.std.specs.Global.{Global}
use Rattle.ups_life.specs.declared.entry.Entry.{Entry}
use Rattle.ups_life.specs.Settings.{Settings}
use Rattle.ups_service.specs.Law.{is_legal}
use Rattle.ups_service.proofs.Legality.{beginning_legal}
use Rattle.ups_journal.specs.declared.record.Record.{Record}
use Rattle.ups_journal.specs.Columns.{recorded}
use Rattle.ups_journal.specs.Writable.{IsWritableEntry}
use Rattle.ups_lasting.specs.Stages.{AreRecordsOf}

-- as many as are taken
pub take_length : {X : Type 0} (m : ℕ) (xs : List X) → take (length (take m xs)) xs ≡ take m xs
take_length {X} m xs = elim (cases_lt m (length xs)) [
  | inl lt ↦ ap (λ (k : ℕ). take k xs) (length-take-le m xs (omega arith))
  | inr ge ↦ ap (λ (l : List X). take (length l) xs) (take_all m xs ge) ∙ (take_all (length xs) xs (omega arith) ∙ sym (take_all m xs ge))
]

-- more of them
pub take_to : {X : Type 0} (k n : ℕ) (xs : List X) → take (k + n) xs ≡ take k xs ++ take n (drop k xs)
take_to k n xs = sym (take-append-drop k (take (k + n) xs)) ∙ (λ i. take-take k (k + n) xs (omega arith) i ++ drop-take k n xs i)

pub take_on : {X : Type 0} (k m : ℕ) (xs : List X) → take (k + length (take m (drop k xs))) xs ≡ take k xs ++ take m (drop k xs)
take_on {X} k m xs = take_to k (length (take m (drop k xs))) xs ∙ ap (λ (l : List X). take k xs ++ l) (take_length m (drop k xs))

-- no more than there are
pub length_on : {X : Type 0} (k m : ℕ) (xs : List X) → k ≤ length xs → k + length (take m (drop k xs)) ≤ length xs
length_on k m xs h = omega (arith, length-take m (drop k xs), length-drop k xs)

module _ (s : Settings) where
  pub of_many : (records : List (Record Global)) (by : List (Entry Global)) → AreRecordsOf s records by → length by ≡ length records
  of_many records by o = sym (length-map by recorded) ∙ ap length o.are

  -- the first entries have the first records
  pub of_front : (n : ℕ) (records : List (Record Global)) (by : List (Entry Global)) → AreRecordsOf s records by → AreRecordsOf s (take n records) (take n by)
  of_front n records by o = record {
    writable = All-take (λ (e : Entry Global). IsWritableEntry e) n by o.writable;
    are = sym (take-map recorded n by) ∙ ap (take n) o.are;
    legally = beginning_legal s (take n by) (drop n by) (subst (λ (es : List (Entry Global)). is_legal s es) (sym (take-append-drop n by)) o.legally);
  }

  pub of_within : (k n : ℕ) (content : List (Record Global)) (log : List (Entry Global)) → k ≤ n → AreRecordsOf s (take n content) log → AreRecordsOf s (take k content) (take k log)
  of_within k n content log h o = subst (λ (rs : List (Record Global)). AreRecordsOf s rs (take k log)) (take-take k n content h) (of_front k (take n content) log o)

-- the records behind the first ones are those of the entries behind them
pub of_behind : (s : Settings) (k m : ℕ) (content : List (Record Global)) (log : List (Entry Global)) → AreRecordsOf s (take (k + length (take m (drop k content))) content) log → map recorded (drop k log) ≡ take m (drop k content)
of_behind s k m content log o =
    sym (drop-map recorded k log) ∙ (ap (drop k) o.are ∙ (drop-take k (length (take m (drop k content))) content ∙ take_length m (drop k content)))
