-- A history as its callers see it: all accepted requests, and which of them are in memory.
use Rattle.std.specs.Prelude.{◌≡◌, ℕ, Bool, ◌||◌, nat_eq, nat_le, List}
use Rattle.std.specs.List.{list_any}
use Rattle.ups_life.specs.declared.entry.Entry.{Entry}

-- the accepted requests, oldest first; the number of those before the recent ones; the places of those among them that are
-- in memory as well; and the number of further requests for which there is room
pub record HistoryView (A : Type 0) : Type 0 where
  pub entries : List (Entry A)
  pub first : ℕ
  pub kept : List ℕ
  pub spare : ℕ

-- the entry at a place is in memory
abbrev pub is_in_memory : {A : Type 0} → HistoryView A → ℕ → Bool
is_in_memory h place = nat_le h.first place || list_any (nat_eq place) h.kept

-- the same entries are in memory as before
abbrev pub KeepsMemory : {A : Type 0} → HistoryView A → HistoryView A → Type 0
KeepsMemory old new = (new.first ≡ old.first) × (new.kept ≡ old.kept)
