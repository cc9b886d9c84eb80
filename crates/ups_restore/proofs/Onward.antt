-- What is left of a log goes on with the records of later entries, made less by the shift.
use Rattle.std.proofs.Common.{◌≡◌, ℕ, false, List, [], ◌∷◌, ◌++◌, map, refl}
use Rattle.std.specs.List.{All}
use Rattle.std.proofs.lemmas.List.Elements.{All-map, All-weaker}
use Rattle.ups_life.specs.declared.entry.Entry.{Entry}
use Rattle.ups_life.specs.declared.request.Request.{Request}
use Rattle.ups_life.specs.declared.request.Request.TheVariants.{Create, Change, AskCancel, Set, Subscribe, Unsubscribe, Suspend, Ack, Sweep, Reserve}
use Rattle.ups_life.specs.Settings.{Settings}
use Rattle.ups_life.specs.Steps.{past}
use Rattle.ups_journal.specs.Columns.{columns_of, recorded}
use Rattle.ups_journal.specs.Writable.{IsRecordable, IsWritableEntry}
use Rattle.ups_service.specs.Law.{is_legal}
use Rattle.ups_compact.specs.Compacting.{has_title_twice}
use Rattle.ups_compact.specs.Course.{IsLeftOf}
use Rattle.ups_compact.specs.Shifting.{shift, with_number_less, shifted}
use Rattle.ups_compact.proofs.Onward.{left_ever, left_ever_shift}
use Rattle.ups_restore.specs.Lessening.{columns_less, lessened}

columns_shifted : {A : Type 0} (k : ℕ) (r : Request A) → columns_of (with_number_less k r) ≡ columns_less k (columns_of r)
columns_shifted k (Ack n) = refl
columns_shifted k (Create step attributes) = refl
columns_shifted k (Change step state t) = refl
columns_shifted k (AskCancel step reasons) = refl
columns_shifted k (Set step t attributes) = refl
columns_shifted k (Subscribe target receiver lock) = refl
columns_shifted k (Unsubscribe place receiver) = refl
columns_shifted k (Suspend receiver) = refl
columns_shifted k Sweep = refl
columns_shifted k (Reserve step) = refl

recordable_shifted : {A : Type 0} (k : ℕ) (r : Request A) → IsRecordable r → IsRecordable (with_number_less k r)
recordable_shifted k (Ack n) h = tt
recordable_shifted k (Create step attributes) h = h
recordable_shifted k (Change step state t) h = h
recordable_shifted k (AskCancel step reasons) h = h
recordable_shifted k (Set step t attributes) h = h
recordable_shifted k (Subscribe target receiver lock) h = h
recordable_shifted k (Unsubscribe place receiver) h = h
recordable_shifted k (Suspend receiver) h = h
recordable_shifted k Sweep h = h
recordable_shifted k (Reserve step) h = h

module _ {A : Type 0} (s : Settings) (by log : List (Entry A)) where
  record_shifted : (e : Entry A) → recorded (shifted s by log e) ≡ lessened (shift s by log) (recorded e)
  record_shifted e = λ i. record { caller = e.caller; title = e.ae; moment = e.moment; request = columns_shifted (shift s by log e.ae) e.request i }

  pub records_shifted : (later : List (Entry A)) → map recorded (map (shifted s by log) later) ≡ map (lessened (shift s by log)) (map recorded later)
  records_shifted [] = refl
  records_shifted (e ∷ later) = λ i. record_shifted e i ∷ records_shifted later i

  writable_shifted : (e : Entry A) → IsWritableEntry e → IsWritableEntry (shifted s by log e)
  writable_shifted e h = record { title = h.title; request = recordable_shifted (shift s by log e.ae) e.request h.request }

pub goes_on_by : {A : Type 0} (s : Settings) (by log later : List (Entry A)) → has_title_twice s.peers ≡ false → IsLeftOf s by log → is_legal s (log ++ later) → All (λ (e : Entry A). IsWritableEntry e) later
    → (more : List (Entry A)) × IsLeftOf s (by ++ more) (log ++ later) × (map recorded more ≡ map (lessened (shift s (past by) (past log))) (map recorded later)) × All (λ (e : Entry A). IsWritableEntry e) more
    × ((w : List ℕ) → shift s (past (by ++ more)) (past (log ++ later)) w ≡ shift s (past by) (past log) w)
goes_on_by {A} s by log later once left l writable = (
  map (shifted s (past by) (past log)) later,
  left_ever s by log later once left l,
  records_shifted s (past by) (past log) later,
  All-map (λ (e : Entry A). IsWritableEntry e) (shifted s (past by) (past log)) later
      (All-weaker (λ (e : Entry A). IsWritableEntry e) (λ (e : Entry A). IsWritableEntry (shifted s (past by) (past log) e)) (writable_shifted s (past by) (past log)) later writable),
  λ w. left_ever_shift s by log later once left l w,
)
