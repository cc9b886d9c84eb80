-- All records of a history.
use Rattle.std.proofs.Common.{◌≡◌, inl, inr, ℕ, Bool, List, [], ◌++◌, length, map, sym, ap, ◌∙◌, arith}
use Rattle.std.proofs.lemmas.List.{append-nil, take_all}
use Rattle.std.specs.declared.alloc.Global.{Global}
use Rattle.ups_life.specs.declared.entry.Entry.{Entry}
use Rattle.ups_journal.specs.declared.record.Record.{Record}
use Rattle.ups_journal.specs.Columns.{recorded}
use Rattle.ups_lasting.specs.Leaving.{AreLeft}
use Rattle.ups_ledger.specs.Keeping.{AreFirst}

pub all_first : {A : Type 0} (records : List (Record A)) (history : List (Entry A)) (count : ℕ) → records ≡ map recorded history → count ≡ length history → AreFirst records history count
all_first records history count is many = record {
  there = omega (arith, many);
  are = is ∙ ap (λ (l : List (Entry _)). map recorded l) (sym (take_all count history (omega (arith, many))));
}

-- what a crash leaves of a ledger of the log is the log, if nothing was tried to append
pub left_is_said : (content said tried : List (Record Global)) (less : List ℕ → ℕ) (is_exchange : Bool) (found rs : List (Record Global)) → tried ≡ [] → AreLeft content said tried less is_exchange found rs → rs ≡ said
left_is_said content said tried less is_exchange found rs none (inl both) = both.1
left_is_said content said tried less is_exchange found rs none (inr (inl both)) = both.1 ∙ (ap (λ (l : List (Record Global)). said ++ l) none ∙ append-nil said)
left_is_said content said tried less is_exchange found rs none (inr (inr both)) = both.1
