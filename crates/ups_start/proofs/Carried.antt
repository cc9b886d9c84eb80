-- Requests that are read once more: those that are kept are entered one by one.
use Rattle.std.proofs.Common.{◌≡◌, ℕ, ◌<◌, ◌≤◌, ◌+◌, true, List, [], ◌∷◌, ◌++◌, length, map, take, drop, get_or, sym, ap, subst, ◌∙◌, arith}
use Rattle.std.proofs.Math.Seq.{get_or-append_seam}
use Rattle.std.proofs.lemmas.List.{append_assoc, length-append, length-map, map-append, get_or-map, take_more, take-append-drop}
use Rattle.std.proofs.lemmas.List.Elements.{All-get_or}
use Rattle.std.specs.List.{All}
use Rattle.std.specs.declared.alloc.Global.{Global}
use Rattle.ups_life.specs.declared.entry.Entry.{Entry}
use Rattle.ups_life.specs.History.{legal}
use Rattle.ups_life.specs.Settings.{Settings}
use Rattle.ups_life.specs.Steps.{past}
use Rattle.ups_life.proofs.Past.{past-push}
use Rattle.ups_service.specs.Law.{is_legal}
use Rattle.ups_service.proofs.Legality.{beginning_legal}
use Rattle.ups_journal.specs.declared.record.Record.{Record}
use Rattle.ups_journal.specs.Columns.{recorded}
use Rattle.ups_journal.specs.Writable.{IsWritableEntry}
use Rattle.ups_compact.specs.Compacting.{left_for}
use Rattle.ups_store.specs.declared.request.StoredRequest.{StoredRequest}
use Rattle.ups_start.specs.Started.{said}

-- the records, around the one that was given last
around : (all old : List StoredRequest) (n : ℕ) (request : StoredRequest) → take n all ≡ old ++ request ∷ [] → said all ≡ said old ++ request.asked ∷ said (drop n all)
around all old n request is =
    ap said (sym (take-append-drop n all) ∙ ap (λ (l : List StoredRequest). l ++ drop n all) is)
    ∙ (map-append (λ (r : StoredRequest). r.asked) (old ++ request ∷ []) (drop n all)
    ∙ ap (λ (l : List (Record Global)). l ++ said (drop n all)) (map-append (λ (r : StoredRequest). r.asked) old (request ∷ [])))
    ∙ assoc (said old) request.asked (said (drop n all))
  where
    assoc : (xs : List (Record Global)) (y : Record Global) (ys : List (Record Global)) → (xs ++ y ∷ []) ++ ys ≡ xs ++ y ∷ ys
    assoc xs y ys = append_assoc xs (y ∷ []) ys

-- the entry whose record was given last
entry_at : (h : List (Entry Global)) (before rest : List (Record Global)) (r : Record Global) → All (λ (e : Entry Global). IsWritableEntry e) h → map recorded h ≡ before ++ r ∷ rest
    → (e : Entry Global) × IsWritableEntry e × (recorded e ≡ r) × (take (length before + 1) h ≡ take (length before) h ++ e ∷ [])
entry_at [] before rest r written are = absurd (omega (arith, ap length are, length-append before (r ∷ rest)))
entry_at (y ∷ ys) before rest r written are =
    let h : List (Entry Global) = y ∷ ys in
    let low : length before < length (y ∷ ys) = omega (arith, sym (length-map (y ∷ ys) recorded) ∙ ap length are, length-append before (r ∷ rest)) in (
      get_or (y ∷ ys) (length before) y,
      All-get_or (λ (e : Entry Global). IsWritableEntry e) (y ∷ ys) (length before) y low written,
      sym (get_or-map recorded (y ∷ ys) (length before) y (recorded y) low) ∙ (ap (λ (l : List (Record Global)). get_or l (length before) (recorded y)) are ∙ get_or-append_seam before r rest (recorded y)),
      take_more (y ∷ ys) (length before) y low,
    )

-- one request more
pub carried_more : (s : Settings) (steps : List (List ℕ)) (h before after : List (Entry Global)) (all old new : List StoredRequest) (n : ℕ) (request : StoredRequest)
    → take n all ≡ new → new ≡ old ++ request ∷ [] → All (λ (e : Entry Global). IsWritableEntry e) h → map recorded h ≡ said all → is_legal s h
    → past before ≡ left_for s steps (past (take (length old) h))
    → ((e : Entry Global) → IsWritableEntry e → recorded e ≡ request.asked → (es : List (Entry Global)) → legal s (e ∷ es) ≡ true → past before ≡ left_for s steps es → past after ≡ left_for s steps (e ∷ es))
    → past after ≡ left_for s steps (past (take (length new) h))
carried_more s steps h before after all old new n request front more written are ok was step =
    let e = entry_at h (said old) (said (drop n all)) request.asked written (are ∙ around all old n request (front ∙ more)) in
    let first : length (said old) ≡ length old = length-map old (λ (r : StoredRequest). r.asked) in
    let many : length new ≡ length (said old) + 1 = omega (arith, ap length more, length-append old (request ∷ []), first) in
    let is : past (take (length new) h) ≡ e.0 ∷ past (take (length (said old)) h) = ap (λ (k : ℕ). past (take k h)) many ∙ (ap past e.3 ∙ past-push (take (length (said old)) h) e.0) in
    let front_ok : is_legal s (take (length new) h) = beginning_legal s (take (length new) h) (drop (length new) h) (subst (λ (xs : List (Entry Global)). is_legal s xs) (sym (take-append-drop (length new) h)) ok) in
    step e.0 e.1 e.2 (past (take (length (said old)) h)) (subst (λ (xs : List (Entry Global)). legal s xs ≡ true) is front_ok) (was ∙ ap (λ (k : ℕ). left_for s steps (past (take k h))) (sym first))
    ∙ ap (left_for s steps) (sym is)

-- all requests were given
pub carried_all : (h : List (Entry Global)) (all : List StoredRequest) → map recorded h ≡ said all → length h ≤ length all
carried_all h all are = omega (arith, sym (length-map h recorded) ∙ ap length are, length-map all (λ (r : StoredRequest). r.asked))
