-- Records that were entered or left out one behind the other.
use Rattle.std.proofs.Common.{◌≡◌, inl, inr, rules, ℕ, Bool, false, List, [], ◌∷◌, ◌++◌, map, Result, Ok, Err, OnOk, IfOk, refl, sym, subst, ap, ◌∙◌, arith, append_assoc}
use Rattle.std.specs.Prelude.{IsTrue}
use Rattle.std.proofs.lemmas.List.{append-nil, map-append}
use Rattle.ups_life.specs.declared.entry.Entry.{Entry}
use Rattle.ups_life.specs.Settings.{Settings}
use Rattle.ups_life.specs.Steps.{past}
use Rattle.ups_compact.specs.Compacting.{compacted_for, steps_needed}
use Rattle.ups_restore.specs.declared.acknowledging.TheConstants.{COMPACTOR}
use Rattle.ups_journal.specs.declared.record.Record.{Record}
use Rattle.ups_journal.specs.Columns.{recorded}
use Rattle.ups_restore.specs.declared.leaving.Restored.{Restored}
use Rattle.ups_restore.specs.declared.leaving.Restored.TheVariants.{Entered, LeftOut}
use Rattle.ups_restore.specs.declared.leaving.Restoration.{Restoration}
use Rattle.ups_restore.specs.Leaving.{Becomes, counted_with, all_counted, BecomeAll, AreTaken}
use Rattle.ups_restore.specs.Replaying.{GoesOnBy}
use Rattle.std.specs.declared.alloc.Global.{Global}
use Rattle.ups_terms.specs.declared.choices.StartChoices.{StartChoices}
use Rattle.sqlite_trees.specs.View.{View, IsClean}
use Rattle.ups_start.specs.Noted.{PermitsNoted}
use Rattle.ups_start.specs.Opened.{records_shown, terms_shown, BeginsFrom}
use Rattle.ups_start.specs.Started.{without_compaction, Begins}

become_more : {A : Type 0} (s : Settings) (h : List (Entry A)) (rs : List (Record A)) (may : Bool) (os : List Restored) (now then : List (Entry A)) (r : Record A) (o : Restored)
    → BecomeAll s h rs may os now → Becomes s now r may o then → BecomeAll s h (rs ++ r ∷ []) may (os ++ o ∷ []) then
become_more {A} s h [] may [] now then r o b n = (then, subst (λ (x : List (Entry A)). Becomes s x r may o then) b n, refl)
become_more s h (x ∷ rs) may (y ∷ os) now then r o b n = (b.0, b.1, become_more s b.0 rs may os now then r o b.2 n)
become_more s h [] may (y ∷ os) now then r o b n = absurd b
become_more s h (x ∷ rs) may [] now then r o b n = absurd b

counted_more : (c : Restoration) (os : List Restored) (o : Restored) → all_counted c (os ++ o ∷ []) ≡ counted_with (all_counted c os) o
counted_more c [] o = refl
counted_more c (y ∷ os) o = counted_more (counted_with c y) os o

-- one record more
pub taken_more : {A : Type 0} (s t : Settings) (h : List (Entry A)) (rs : List (Record A)) (may : Bool) (r : Record A) (now then : List (Entry A)) (c d : Restoration) (o : Restored)
    → t ≡ s → AreTaken s h rs may c now → Becomes t now r may o then → d ≡ counted_with c o → AreTaken s h (rs ++ r ∷ []) may d then
taken_more s t h rs may r now then c d o same taken b more = (
  taken.0 ++ o ∷ [],
  become_more s h rs may taken.0 now then r o taken.1 (subst (λ (x : Settings). Becomes x now r may o then) same b),
  more ∙ (ap (λ (x : Restoration). counted_with x o) taken.2 ∙ sym (counted_more (record { entered = 0; left_out = 0 }) taken.0 o)),
)

none_before : (c : Restoration) (os : List Restored) → (all_counted c os).left_out ≡ 0 → c.left_out ≡ 0
none_before c [] e = e
none_before c (Entered ∷ os) e = none_before (counted_with c Entered) os e
none_before c (LeftOut ∷ os) e = let w = none_before (counted_with c LeftOut) os e in grind arith

-- one entered, and then others
on_by : {A : Type 0} (h then after : List (Entry A)) (r : Record A) (rs : List (Record A)) → GoesOnBy h (r ∷ []) then → map recorded after ≡ map recorded then ++ rs → map recorded after ≡ map recorded h ++ r ∷ rs
on_by {A} h then after r rs goes rest =
    rest
    ∙ (ap (λ (l : List (Record A)). l ++ rs) (ap (map recorded) goes.2 ∙ (map-append recorded h goes.0 ∙ ap (λ (l : List (Record A)). map recorded h ++ l) goes.1))
    ∙ append_assoc (map recorded h) (r ∷ []) rs)

entered_all : {A : Type 0} (s : Settings) (h : List (Entry A)) (rs : List (Record A)) (may : Bool) (c : Restoration) (os : List Restored) (after : List (Entry A)) → BecomeAll s h rs may os after → (all_counted c os).left_out ≡ 0
    → map recorded after ≡ map recorded h ++ rs
entered_all s h [] may c [] after b none = ap (map recorded) b ∙ sym (append-nil (map recorded h))
entered_all s h (r ∷ rs) may c (Entered ∷ os) after b none = on_by h b.0 after r rs b.1 (entered_all s b.0 rs may (counted_with c Entered) os after b.2 none)
entered_all s h (r ∷ rs) may c (LeftOut ∷ os) after b none = let w = none_before (counted_with c LeftOut) os none in absurd (grind arith)
entered_all s h [] may c (o ∷ os) after b none = absurd b
entered_all s h (r ∷ rs) may c [] after b none = absurd b

-- where none may be left out, all are entered
pub all_kept : {A : Type 0} (s : Settings) (h : List (Entry A)) (rs : List (Record A)) (os : List Restored) (after : List (Entry A)) → BecomeAll s h rs false os after → map recorded after ≡ map recorded h ++ rs
all_kept s h [] [] after b = ap (map recorded) b ∙ sym (append-nil (map recorded h))
all_kept s h (r ∷ rs) (Entered ∷ os) after b = on_by h b.0 after r rs b.1 (all_kept s b.0 rs os after b.2)
all_kept s h (r ∷ rs) (LeftOut ∷ os) after b = let allowed = b.1.0 in absurd (grind arith)
all_kept s h [] (o ∷ os) after b = absurd b
all_kept s h (r ∷ rs) [] after b = absurd b

-- a history that was empty has then the entries of all records
pub whole_if_kept : (s : Settings) (h : List (Entry Global)) (rs : List (Record Global)) (may : Bool) (c : Restoration) (after : List (Entry Global)) → h ≡ [] → may ≡ false → AreTaken s h rs may c after → rs ≡ map recorded after
whole_if_kept s h rs may c after none stay taken =
    sym (all_kept s h rs taken.0 after (subst (λ (b : Bool). BecomeAll s h rs b taken.0 after) stay taken.1) ∙ ap (λ (es : List (Entry Global)). map recorded es ++ rs) none)

-- where none was left out, the history has gone on by the entries of these records
pub all_entered : {A : Type 0} (s : Settings) (h : List (Entry A)) (rs : List (Record A)) (may : Bool) (c : Restoration) (after : List (Entry A)) → AreTaken s h rs may c after → c.left_out ≡ 0 → map recorded after ≡ map recorded h ++ rs
all_entered s h rs may c after taken none = entered_all s h rs may (record { entered = 0; left_out = 0 }) taken.0 after taken.1 (sym (ap (λ (x : Restoration). x.left_out) taken.2) ∙ none)

-- a start that does not compact begins as one that may
pub begins_without : (s t : Settings) (found : List (Record Global)) (choices fewer : StartChoices) (moment : ℕ) (after : List (Entry Global)) → t ≡ s → fewer ≡ without_compaction choices → Begins t found fewer moment after → Begins s found choices moment after
begins_without s t found choices fewer moment after same is begins =
    let begins = subst (λ (u : Settings). Begins u found (without_compaction choices) moment after) same (subst (λ (x : StartChoices). Begins t found x moment after) is begins) in
    record {
      entered = begins.entered;
      counts = begins.counts;
      taken = begins.taken;
      becomes = elim begins.becomes [ inl same ↦ inl same | inr both ↦ absurd (search rules) ];
    }

-- the same on a store that was opened
pub begins_from_without : (s t : Settings) (shown : View) (choices fewer : StartChoices) (moment : ℕ) (after : List (Entry Global)) → t ≡ s → fewer ≡ without_compaction choices → BeginsFrom shown t fewer moment after → BeginsFrom shown s choices moment after
begins_from_without s t shown choices fewer moment after same is from = record {
  clean = from.clean;
  begins = begins_without s t (records_shown shown) choices fewer moment after same is from.begins;
  permits = λ keeps. subst (λ (u : Settings). PermitsNoted u (terms_shown shown)) same (from.permits (ap (λ (x : StartChoices). x.may_change_terms) is ∙ keeps));
}

-- a start that has entered all records and then compacted them begins with the compacted history
pub begins_compacted : (s t : Settings) (shown : View) (rs : List (Record Global)) (choices : StartChoices) (moment : ℕ) (before entered fresh : List (Entry Global)) (counts : Restoration)
    → IsClean shown → before ≡ [] → rs ≡ records_shown shown → AreTaken s before rs choices.may_leave_out counts entered → t ≡ s → IsTrue choices.may_compact
    → past fresh ≡ compacted_for COMPACTOR moment t (steps_needed t (past entered)) (past entered)
    → (choices.may_change_terms ≡ false → PermitsNoted s (terms_shown shown))
    → BeginsFrom shown s choices moment fresh
begins_compacted s t shown rs choices moment before entered fresh counts clean none are taken same may is permits = record {
  clean = clean;
  begins = record {
    entered = entered;
    counts = counts;
    taken = subst (λ (h : List (Entry Global)). AreTaken s h (records_shown shown) choices.may_leave_out counts entered) none (subst (λ (xs : List (Record Global)). AreTaken s before xs choices.may_leave_out counts entered) are taken);
    becomes = inr (may, subst (λ (u : Settings). past fresh ≡ compacted_for COMPACTOR moment u (steps_needed u (past entered)) (past entered)) same is);
  };
  permits = permits;
}

-- what replaces a history begins as that which it takes the place of it with
pub begins_replaced : {T E : Type 0} (Q : T → Type 0) (C : Type 0) (s : Settings) (shown : View) (choices : StartChoices) (moment : ℕ) (fresh after : List (Entry Global)) (r : Result T E)
    → OnOk r (after ≡ fresh) → IfOk r (λ b. Q b → C) → (C → BeginsFrom shown s choices moment fresh) → IfOk r (λ b. Q b → BeginsFrom shown s choices moment after)
begins_replaced Q C s shown choices moment fresh after (Ok b) same clean begins = λ q. subst (λ (h : List (Entry Global)). BeginsFrom shown s choices moment h) (sym same) (begins (clean q))
begins_replaced Q C s shown choices moment fresh after (Err f) same clean begins = tt
