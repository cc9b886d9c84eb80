-- Records that are entered or left out one behind the other.
use Rattle.std.proofs.Common.{◌≡◌, ℕ, ◌<◌, ◌+◌, Bool, List, [], ◌∷◌, ◌++◌, length, take, drop, get_or, refl, sym, subst, ap, ◌∙◌, arith}
use Rattle.std.proofs.lemmas.List.{take_more, length-take-le}
use Rattle.ups_life.specs.declared.entry.Entry.{Entry}
use Rattle.ups_life.specs.Settings.{Settings}
use Rattle.ups_journal.specs.declared.record.Record.{Record}
use Rattle.ups_restore.specs.declared.fault.RestoreFault.{RestoreFault}
use Rattle.ups_restore.specs.declared.leaving.Restored.{Restored}
use Rattle.ups_restore.specs.declared.leaving.Restoration.{Restoration}
use Rattle.ups_restore.specs.Leaving.{Becomes, IsNone, counted_with, all_counted, BecomeAll, AreTaken, StopsTaking}
use Rattle.ups_restore.proofs.Going.{parts_at}

become_more : {A : Type 0} (s : Settings) (h : List (Entry A)) (rs : List (Record A)) (may : Bool) (os : List Restored) (now then : List (Entry A)) (r : Record A) (o : Restored)
    → BecomeAll s h rs may os now → Becomes s now r may o then → BecomeAll s h (rs ++ r ∷ []) may (os ++ o ∷ []) then
become_more {A} s h [] may [] now then r o b n = (then, subst (λ (x : List (Entry A)). Becomes s x r may o then) b n, refl)
become_more s h (x ∷ rs) may (y ∷ os) now then r o b n = (b.0, b.1, become_more s b.0 rs may os now then r o b.2 n)
become_more s h [] may (y ∷ os) now then r o b n = absurd b
become_more s h (x ∷ rs) may [] now then r o b n = absurd b

counted_more : (c : Restoration) (os : List Restored) (o : Restored) → all_counted c (os ++ o ∷ []) ≡ counted_with (all_counted c os) o
counted_more c [] o = refl
counted_more c (y ∷ os) o = counted_more (counted_with c y) os o

-- none yet
pub none_taken : {A : Type 0} (s : Settings) (h : List (Entry A)) (may : Bool) (c : Restoration) → c ≡ record { entered = 0; left_out = 0 } → AreTaken s h [] may c h
none_taken s h may c is = ([], refl, is)

-- one record more
pub taken_more : {A : Type 0} (s t : Settings) (h : List (Entry A)) (rs : List (Record A)) (may : Bool) (i : ℕ) (r : Record A) (now then : List (Entry A)) (c d : Restoration) (o : Restored)
    → i < length rs → r ≡ get_or rs i r → t ≡ s → AreTaken s h (take i rs) may c now → Becomes t now r may o then → d ≡ counted_with c o → AreTaken s h (take (i + 1) rs) may d then
taken_more {A} s t h rs may i r now then c d o low is same taken b more = (
  taken.0 ++ o ∷ [],
  subst (λ (l : List (Record A)). BecomeAll s h l may (taken.0 ++ o ∷ []) then) (ap (λ (x : Record A). take i rs ++ x ∷ []) is ∙ sym (take_more rs i r low))
      (become_more s h (take i rs) may taken.0 now then r o taken.1 (subst (λ (x : Settings). Becomes x now r may o then) same b)),
  more ∙ (ap (λ (x : Restoration). counted_with x o) taken.2 ∙ sym (counted_more (record { entered = 0; left_out = 0 }) taken.0 o)),
)

-- of the record at a place nothing becomes
pub stops_taking : {A : Type 0} (s t : Settings) (h : List (Entry A)) (rs : List (Record A)) (may : Bool) (i : ℕ) (r : Record A) (now then : List (Entry A)) (c : Restoration) (f : RestoreFault)
    → i < length rs → r ≡ get_or rs i r → t ≡ s → AreTaken s h (take i rs) may c now → then ≡ now → f.number ≡ i + 1 → f.operation ≡ r.request.operation → IsNone t now r may f.refusal → StopsTaking s h rs may f then
stops_taking {A} s t h rs may i r now then c f low is same taken stays number operation why = record {
  front = take i rs;
  here = r;
  rest = drop (i + 1) rs;
  parts = parts_at rs i r low is;
  number = number ∙ ap (λ (n : ℕ). n + 1) (sym (length-take-le i rs (omega arith)));
  operation = operation;
  counts = c;
  taken = subst (λ (x : List (Entry A)). AreTaken s h (take i rs) may c x) (sym stays) taken;
  why = subst (λ (x : Settings). IsNone x then r may f.refusal) same (subst (λ (x : List (Entry A)). IsNone t x r may f.refusal) (sym stays) why);
}
