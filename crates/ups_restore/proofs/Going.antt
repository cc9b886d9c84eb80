-- Records that are entered one behind the other.
use Rattle.std.proofs.Common.{◌≡◌, ℕ, ◌<◌, ◌≤◌, ◌+◌, List, [], ◌∷◌, ◌++◌, length, map, take, drop, get_or, sym, subst, ap, ◌∙◌, arith}
use Rattle.std.proofs.lemmas.List.{append_assoc, map-append, length-map, get_or-map, take_more, take_all, take-append-drop, length-take-le}
use Rattle.std.proofs.lemmas.List.Elements.{All-get_or}
use Rattle.ups_life.specs.declared.entry.Entry.{Entry}
use Rattle.ups_life.specs.Settings.{Settings, IsMoment}
use Rattle.ups_service.specs.Law.{is_legal}
use Rattle.ups_service.proofs.Legality.{beginning_legal}
use Rattle.ups_journal.specs.declared.record.Record.{Record}
use Rattle.ups_journal.specs.Columns.{recorded}
use Rattle.ups_journal.specs.Writable.{IsWritableEntry}
use Rattle.ups_restore.specs.declared.fault.RestoreFault.{RestoreFault}
use Rattle.ups_restore.specs.Replaying.{IsRecordOf, IsFailure, AreOf, GoesOnBy, StopsAtRecord}

-- one record more
pub goes_on : {A : Type 0} (h : List (Entry A)) (rs : List (Record A)) (i : ℕ) (r : Record A) (now then : List (Entry A)) → i < length rs → r ≡ get_or rs i r
    → GoesOnBy h (take i rs) now → GoesOnBy now (r ∷ []) then → GoesOnBy h (take (i + 1) rs) then
goes_on {A} h rs i r now then low is g n = (
  g.0 ++ n.0,
  map-append recorded g.0 n.0 ∙ (ap (λ (l : List (Record A)). l ++ map recorded n.0) g.1 ∙ (ap (λ (l : List (Record A)). take i rs ++ l) (n.1 ∙ ap (λ (x : Record A). x ∷ []) is) ∙ sym (take_more rs i r low))),
  n.2 ∙ (ap (λ (l : List (Entry A)). l ++ n.0) g.2 ∙ append_assoc h g.0 n.0),
)

-- there are as many records as entries
many : {A : Type 0} (s : Settings) (h : List (Entry A)) (rs : List (Record A)) (es : List (Entry A)) → AreOf s h rs es → length rs ≡ length es
many s h rs es all = sym (ap length all.are) ∙ length-map es recorded

-- the entries from the one at a place on
begun : {A : Type 0} (s : Settings) (h es : List (Entry A)) (i : ℕ) → is_legal s (h ++ es) → is_legal s (h ++ take i es)
begun {A} s h es i l =
    beginning_legal s (h ++ take i es) (drop i es)
    (subst (λ (x : List (Entry A)). is_legal s x) (ap (λ (x : List (Entry A)). h ++ x) (sym (take-append-drop i es)) ∙ sym (append_assoc h (take i es) (drop i es))) l)

-- the record at a place is that of an entry which is accepted after those before it
pub next : {A : Type 0} (s t : Settings) (h : List (Entry A)) (rs : List (Record A)) (es : List (Entry A)) (i : ℕ) (r : Record A) (now : List (Entry A)) → i < length rs → r ≡ get_or rs i r → AreOf s h rs es
    → now ≡ h ++ take i es → t ≡ s → (e : Entry A) × IsRecordOf t now r e × (take (i + 1) es ≡ take i es ++ e ∷ [])
next {A} s t h rs [] i r now low is all was same = absurd (omega (arith, many s h rs [] all))
next {A} s t h rs (y ∷ ys) i r now low is all was same =
    let es = y ∷ ys in
    let m : length rs ≡ length (y ∷ ys) = many s h rs (y ∷ ys) all in
    let lower : i < length (y ∷ ys) = omega (arith, m, low) in
    let e = get_or (y ∷ ys) i y in
    let more : take (i + 1) (y ∷ ys) ≡ take i (y ∷ ys) ++ get_or (y ∷ ys) i y ∷ [] = take_more (y ∷ ys) i y lower in
    let ends : h ++ take (i + 1) (y ∷ ys) ≡ now ++ get_or (y ∷ ys) i y ∷ [] =
    ap (λ (x : List (Entry A)). h ++ x) more ∙ (sym (append_assoc h (take i (y ∷ ys)) (get_or (y ∷ ys) i y ∷ [])) ∙ ap (λ (x : List (Entry A)). x ++ get_or (y ∷ ys) i y ∷ []) (sym was)) in (
      get_or (y ∷ ys) i y,
      record {
        writable = All-get_or (λ (x : Entry A). IsWritableEntry x) (y ∷ ys) i y lower all.writable;
        is = sym (get_or-map recorded (y ∷ ys) i y r lower) ∙ (ap (λ (l : List (Record A)). get_or l i r) all.are ∙ sym is);
        moment = All-get_or (λ (x : Entry A). IsMoment x.moment) (y ∷ ys) i y lower all.moments;
        legal = subst (λ (x : Settings). is_legal x (now ++ get_or (y ∷ ys) i y ∷ [])) (sym same) (subst (λ (x : List (Entry A)). is_legal s x) ends (begun s h (y ∷ ys) (i + 1) all.legal));
      },
      more,
    )

-- all entries were gone through
pub all_taken : {A : Type 0} (s : Settings) (h : List (Entry A)) (rs : List (Record A)) (es : List (Entry A)) (i : ℕ) → AreOf s h rs es → length rs ≤ i → take i es ≡ es
all_taken s h rs es i all end = take_all i es (omega (arith, many s h rs es all, end))

-- the records before a place, the one at it, and the rest
pub parts_at : {A : Type 0} (rs : List (Record A)) (i : ℕ) (r : Record A) → i < length rs → r ≡ get_or rs i r → rs ≡ take i rs ++ r ∷ drop (i + 1) rs
parts_at {A} rs i r low is =
    sym (take-append-drop (i + 1) rs)
    ∙ (ap (λ (l : List (Record A)). l ++ drop (i + 1) rs) (take_more rs i r low ∙ ap (λ (x : Record A). take i rs ++ x ∷ []) (sym is))
    ∙ append_assoc (take i rs) (r ∷ []) (drop (i + 1) rs))

-- the record at a place is not entered
pub stops_at : {A : Type 0} (s t : Settings) (h : List (Entry A)) (rs : List (Record A)) (i : ℕ) (r : Record A) (now then : List (Entry A)) (f : RestoreFault) → i < length rs → r ≡ get_or rs i r
    → GoesOnBy h (take i rs) now → t ≡ s → then ≡ now → f.number ≡ i + 1 → f.operation ≡ r.request.operation → IsFailure t now r f.refusal → StopsAtRecord s h rs f then
stops_at {A} s t h rs i r now then f low is goes same stays number operation why = record {
  front = take i rs;
  here = r;
  rest = drop (i + 1) rs;
  parts = parts_at rs i r low is;
  number = number ∙ ap (λ (n : ℕ). n + 1) (sym (length-take-le i rs (omega arith)));
  operation = operation;
  entered = subst (λ (x : List (Entry A)). GoesOnBy h (take i rs) x) (sym stays) goes;
  why = subst (λ (x : Settings). IsFailure x then r f.refusal) same (subst (λ (x : List (Entry A)). IsFailure t x r f.refusal) (sym stays) why);
}
