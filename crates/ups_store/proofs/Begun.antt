-- What a store has once the row of a run is committed.
use Rattle.std.proofs.Common.{◌≡◌, ℕ, ◌+◌, ◌<◌, ◌≤◌, ◌^◌, length, sym, ap, subst, ◌∙◌}
use Rattle.std.proofs.lemmas.List.{length-map}
use Rattle.sqlite_trees.specs.Tree.{Trees, put_row}
use Rattle.sqlite_trees.specs.declared.store.Shape.{Shape}
use Rattle.sqlite_trees.specs.declared.store.Shape.TheVariants.{Table}
use Rattle.sqlite_trees.specs.View.{View, SetsTree, Commits, IsOrdered, IsShaped}
use Rattle.ups_store.specs.declared.runs.Run.{Run}
use Rattle.ups_store.specs.Rows.{request_in, requests_in}
use Rattle.ups_store.specs.Held.{Holds}
use Rattle.ups_store.proofs.Tables.{own_set, requests_at}
use Rattle.ups_store.specs.declared.fault.StoreFault.{StoreFault}
use Rattle.ups_store.specs.declared.fault.StoreFault.TheVariants.{Memory, Disk, Damaged, Full, Shut, TooLarge, TooMany, NotRequest, Short}
use Rattle.ups_store.specs.Faults.{Reasons, HasRunReason}
use Rattle.ups_store.specs.Runs.{row_of_run, last_runs, last_number, last_requests, Enters}

-- how many requests are committed
pub counted_in : (v : View) (t count : ℕ) → Holds v t count → count ≡ length (requests_in v.committed)
counted_in v t count holds = sym (ap (λ (db : Trees). length (requests_in db)) (sym holds.same) ∙ ap length (requests_at v.trees t holds.tabled) ∙ length-map (v.trees t) request_in ∙ holds.adding.counted)

-- the runs once one is entered
pub runs_entered : (old mid new : View) (t number count : ℕ) (run : Run) → Holds old t count → Enters old mid number run count → Commits mid new → new.committed 1 ≡ last_runs number (put_row (row_of_run number run (length (requests_in old.committed))) (old.committed 1))
runs_entered old mid new t number count run holds enters done =
    ap (λ (v : View). v.committed 1) done.is ∙ enters.runs ∙ ap (λ (db : Trees). last_runs number (put_row (row_of_run number run count) (db 1))) holds.same
    ∙ ap (λ (n : ℕ). last_runs number (put_row (row_of_run number run n) (old.committed 1))) (counted_in old t count holds)

-- and once one is noted
pub runs_noted : (old mid new : View) (t number count : ℕ) (run : Run) → Holds old t count → SetsTree old mid 1 (put_row (row_of_run number run count)) → Commits mid new → new.committed 1 ≡ put_row (row_of_run number run (length (requests_in old.committed))) (old.committed 1)
runs_noted old mid new t number count run holds sets done =
    ap (λ (v : View). v.committed 1) done.is ∙ own_set old mid 1 _ sets ∙ ap (λ (db : Trees). put_row (row_of_run number run count) (db 1)) holds.same
    ∙ ap (λ (n : ℕ). put_row (row_of_run number run n) (old.committed 1)) (counted_in old t count holds)

-- the number of a run that is begun, and that no request is lost
pub record IsBehind (old : View) (number : ℕ) : Type 0 where
  pub behind : number ≡ last_number (old.committed 1) + 1
  pub low : number < 2 ^ 63
  pub enough : last_requests (old.committed 1) ≤ length (requests_in old.committed)

pub is_behind : (old mid : View) (t number count : ℕ) (run : Run) → Holds old t count → Enters old mid number run count → IsBehind old number
is_behind old mid t number count run holds enters = record {
  behind = enters.behind ∙ ap (λ (db : Trees). last_number (db 1) + 1) holds.same;
  low = enters.low;
  enough = subst (λ (n : ℕ). last_requests (old.committed 1) ≤ n) (counted_in old t count holds) (subst (λ (db : Trees). last_requests (db 1) ≤ count) holds.same enters.enough);
}

-- the runs are rows of a table
pub runs_table : (v : View) (t count : ℕ) → Holds v t count → IsOrdered v.shape v.trees → IsShaped Table (v.committed 1)
runs_table v t count holds ordered = subst (λ (db : Trees). IsShaped Table (db 1)) holds.same (subst (λ (s : Shape). IsShaped s (v.trees 1)) holds.has.tables.runs (ordered 1))

-- why a run is not begun, in other words
pub run_reason_as : (r s : Reasons) (A B : Type 0) (fault : StoreFault) → (r.Failed → s.Failed) → (r.WasShut → s.WasShut) → (r.IsTooLarge → s.IsTooLarge) → (r.AreTooMany → s.AreTooMany) → (r.IsNotRequest → s.IsNotRequest) → (A → B)
    → HasRunReason r A fault → HasRunReason s B fault
run_reason_as r s A B Memory f w l m n a h = tt
run_reason_as r s A B Disk f w l m n a h = f h
run_reason_as r s A B Damaged f w l m n a h = f h
run_reason_as r s A B Full f w l m n a h = f h
run_reason_as r s A B Shut f w l m n a h = w h
run_reason_as r s A B TooLarge f w l m n a h = l h
run_reason_as r s A B TooMany f w l m n a h = m h
run_reason_as r s A B NotRequest f w l m n a h = n h
run_reason_as r s A B Short f w l m n a h = a h
