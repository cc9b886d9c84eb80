-- The records that a manager has entered.
use Rattle.std.proofs.Common.{◌≡◌, ℕ, ◌<◌, ◌+◌, List, [], ◌∷◌, ◌++◌, length, map, take, drop, get_or, sym, ap, subst, ◌∙◌, arith}
use Rattle.std.proofs.lemmas.List.{append_assoc, length-map, take-append-drop, take_more, get_or-map}
use Rattle.std.proofs.lemmas.List.Elements.{All-get_or, All-drop}
use Rattle.std.specs.List.{All}
use Rattle.std.specs.Global.{Global}
use Rattle.ups_life.specs.declared.entry.Entry.{Entry}
use Rattle.ups_life.specs.Settings.{Settings}
use Rattle.ups_journal.specs.declared.record.Record.{Record}
use Rattle.ups_journal.specs.Columns.{recorded}
use Rattle.ups_journal.specs.Writable.{IsWritableEntry}
use Rattle.ups_manager.specs.View.{ManagerView}
use Rattle.ups_lasting.specs.Stages.{AreRecordsOf, IsSurveyed}
use Rattle.ups_lasting.proofs.Fronts.{length_on, of_within, of_behind}

-- the entry of the record at a place
pub entry_at : (es : List (Entry Global)) (rs : List (Record Global)) (i : ℕ) (r : Record Global) → i < length rs → r ≡ get_or rs i r → All (λ (e : Entry Global). IsWritableEntry e) es → map recorded es ≡ rs
    → (e : Entry Global) × IsWritableEntry e × (recorded e ≡ r) × (take (i + 1) es ≡ take i es ++ e ∷ [])
entry_at [] rs i r low is written are = absurd (omega (arith, ap length are))
entry_at (y ∷ ys) rs i r low is written are =
    let many : i < length (y ∷ ys) = omega (arith, sym (length-map (y ∷ ys) recorded) ∙ ap length are) in (
      get_or (y ∷ ys) i y,
      All-get_or (λ (e : Entry Global). IsWritableEntry e) (y ∷ ys) i y many written,
      sym (get_or-map recorded (y ∷ ys) i y r many) ∙ (ap (λ (l : List (Record Global)). get_or l i r) are ∙ sym is),
      take_more (y ∷ ys) i y many,
    )

-- there are as many entries as records
pub all_entries : (es : List (Entry Global)) (rs : List (Record Global)) → map recorded es ≡ rs → length es ≡ length rs
all_entries es rs are = sym (length-map es recorded) ∙ ap length are

-- one more is entered
pub survey_more : (rs : List (Record Global)) (es : List (Entry Global)) (i : ℕ) (r : Record Global) (first now next : List (Entry Global)) → i < length rs → r ≡ get_or rs i r → All (λ (e : Entry Global). IsWritableEntry e) es → map recorded es ≡ rs
    → now ≡ first ++ take i es → ((e : Entry Global) → IsWritableEntry e → recorded e ≡ r → next ≡ now ++ e ∷ []) → next ≡ first ++ take (i + 1) es
survey_more rs es i r first now next low is written are was step =
    let n = entry_at es rs i r low is written are in
    step n.0 n.1 n.2 ∙ (ap (λ (l : List (Entry Global)). l ++ n.0 ∷ []) was ∙ (append_assoc first (take i es) (n.0 ∷ []) ∙ ap (λ (l : List (Entry Global)). first ++ l) (sym n.3)))

-- further records are entered
pub surveyed_on : (s : Settings) (content records : List (Record Global)) (most : ℕ) (old new : ManagerView Global) → records ≡ take most (drop (length old.history) content) → new.settings ≡ old.settings
    → length new.history ≡ length old.history + length records
    → ((es : List (Entry Global)) → All (λ (e : Entry Global). IsWritableEntry e) es → map recorded es ≡ records → new.history ≡ old.history ++ es)
    → IsSurveyed s content old → IsSurveyed s content new
surveyed_on s content records most old new read same more step i = record {
  settings = same ∙ i.settings;
  within = omega (arith, length_on (length old.history) most content i.within, ap length read);
  all = λ log o.
      let k : ℕ = length old.history in
      let there : length new.history ≡ k + length (take most (drop k content)) = more ∙ ap (λ (l : List (Record Global)). k + length l) read in
      let at : AreRecordsOf s (take (k + length (take most (drop k content))) content) log = subst (λ (n : ℕ). AreRecordsOf s (take n content) log) there o in
      let behind = of_behind s k most content log at in
      let writable : All (λ (e : Entry Global). IsWritableEntry e) (drop k log) = All-drop (λ (e : Entry Global). IsWritableEntry e) k log at.writable in
      let front = i.all (take k log) (of_within s k (k + length (take most (drop k content))) content log (omega arith) at) in
      step (drop k log) writable (behind ∙ sym read) ∙ (ap (λ (l : List (Entry Global)). l ++ drop k log) front ∙ take-append-drop k log);
}
