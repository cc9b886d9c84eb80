-- Records that are appended to a ledger beneath a log, and what a crash leaves of them.
use Rattle.std.proofs.Common.{◌≡◌, ◌⊎◌, inl, inr, Bool, false, List, [], ◌∷◌, ◌++◌, ℕ, ◌+◌, ◌<◌, length, get_or, map, take, refl, sym, ap, ◌∙◌, arith}
use Rattle.std.proofs.lemmas.List.{append_assoc, append-nil, length-append, take_more}
use Rattle.std.specs.Global.{Global}
use Rattle.ups_journal.specs.declared.record.Record.{Record}
use Rattle.ups_restore.specs.Lessening.{lessened}
use Rattle.ups_lasting.specs.declared.draft_ledger.DraftLedger.{Ghosts}
use Rattle.ups_lasting.specs.Leaving.{AreLeft, Failed, LeavesOfLog}
use Rattle.ups_lasting.specs.Standing.{firsts}

firsts-append : (xs ys : List (Record Global × Unit {0})) → firsts (xs ++ ys) ≡ firsts xs ++ firsts ys
firsts-append [] ys = refl
firsts-append (x ∷ xs) ys = ap (λ (rs : List (Record Global)). x.0 ∷ rs) (firsts-append xs ys)

-- one record more
pub one_more : (items after : List (Record Global × Unit {0})) (front records : List (Record Global)) (i : ℕ) (r : Record Global) → i < length records → r ≡ get_or records i r → after ≡ items ++ (r, tt) ∷ [] → firsts items ≡ front ++ take i records
    → firsts after ≡ front ++ take (i + 1) records
one_more items after front records i r low at put was =
    ap firsts put
    ∙ firsts-append items ((r, tt) ∷ [])
    ∙ ap (λ (rs : List (Record Global)). rs ++ r ∷ []) was
    ∙ append_assoc front (take i records) (r ∷ [])
    ∙ ap (λ (rs : List (Record Global)). front ++ rs) (ap (λ (x : Record Global). take i records ++ x ∷ []) at ∙ sym (take_more records i r low))

-- nothing is behind a list that stays as it was
none_behind : {X : Type 0} (xs ys : List X) → xs ≡ xs ++ ys → ys ≡ []
none_behind xs [] same = refl
none_behind {X} xs (y ∷ ys) same = absurd (omega (arith, ap length same, length-append xs (y ∷ ys)))

none_lessened : (less : List ℕ → ℕ) (rs : List (Record Global)) → map (lessened less) rs ≡ [] → rs ≡ []
none_lessened less [] none = refl
none_lessened less (r ∷ rs) none = absurd cc

-- AN APPEND FAILED while the ledger was open, which then had its content alone: the crash leaves that, or also these records
module _ {L : Type 0} (g : Ghosts L) (old new : L) (content said was tried : List (Record Global)) (less : List ℕ → ℕ) (was_exchange : Bool) (records : List (Record Global)) where
  pub crash_failed : (g.is_sound old → g.kept old ≡ content) → (g.is_first old → (rs : List (Record Global)) → g.recovers old rs → g.is_sound old)
      → Failed g old (map (lessened less) records) new → tried ≡ records → g.is_first new → (rs : List (Record Global)) → LeavesOfLog g new content said tried less false rs
      → LeavesOfLog g old content said was less was_exchange rs ⊎ (g.is_sound old × (rs ≡ said ++ records))
  crash_failed now up failed are first rs leaves = at (failed.crash first leaves.found leaves.can_leave) leaves.are
    where
      behind : rs ≡ said ++ tried → rs ≡ said ++ records
      behind is = is ∙ ap (λ (xs : List (Record Global)). said ++ xs) are

      empty : leaves.found ≡ content → leaves.found ≡ content ++ map (lessened less) records → [] ≡ records
      empty short long = sym (none_lessened less records (none_behind content (map (lessened less) records) (sym short ∙ long)))

      at : g.recovers old leaves.found ⊎ (g.is_sound old × (leaves.found ≡ g.kept old ++ map (lessened less) records)) → AreLeft content said tried less false leaves.found rs
          → LeavesOfLog g old content said was less was_exchange rs ⊎ (g.is_sound old × (rs ≡ said ++ records))
      at (inl before) (inl a) = inl (record { found = leaves.found; can_leave = before; are = inl a })
      at (inl before) (inr (inl a)) = inr (up (failed.first first) leaves.found before, behind a.1)
      at (inr both) (inl a) =
          let long = both.1 ∙ ap (λ (xs : List (Record Global)). xs ++ map (lessened less) records) (now both.0) in
          inr (both.0, a.1 ∙ (sym (append-nil said) ∙ ap (λ (xs : List (Record Global)). said ++ xs) (empty a.0 long)))
      at (inr both) (inr (inl a)) = inr (both.0, behind a.1)
      at before (inr (inr a)) = absurd (cc (a.0))
