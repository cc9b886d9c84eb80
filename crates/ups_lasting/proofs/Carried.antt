-- What is kept of records that are read once more.
use Rattle.std.proofs.Common.{◌≡◌, ℕ, ◌<◌, ◌≤◌, ◌+◌, ◌-◌, true, false, List, [], ◌∷◌, ◌++◌, length, map, take, drop, get_or, refl, sym, ap, subst, ◌∙◌, arith}
use Rattle.std.specs.Prelude.{if◌then◌else◌}
use Rattle.std.proofs.lemmas.List.{append_assoc, take-append-drop, reverse-append, reverse-reverse, length-take}
use Rattle.std.proofs.lemmas.List.Elements.{All-drop}
use Rattle.std.specs.List.{All}
use Rattle.std.specs.Global.{Global}
use Rattle.ups_life.specs.declared.entry.Entry.{Entry}
use Rattle.ups_life.specs.Settings.{Settings}
use Rattle.ups_life.specs.Steps.{past}
use Rattle.ups_journal.specs.declared.record.Record.{Record}
use Rattle.ups_journal.specs.Columns.{recorded}
use Rattle.ups_journal.specs.Writable.{IsWritableEntry}
use Rattle.ups_life.specs.History.{legal}
use Rattle.ups_life.proofs.Past.{past-push}
use Rattle.ups_service.specs.Law.{is_legal}
use Rattle.ups_service.proofs.Legality.{beginning_legal}
use Rattle.ups_manager.specs.View.{ManagerView}
use Rattle.ups_compact.specs.Compacting.{is_left_for, reservation, left_for, steps_needed}
use Rattle.ups_lasting.specs.Stages.{AreRecordsOf, AreDrafted, AreCarried, IsSurveyed}
use Rattle.ups_lasting.proofs.Drafted.{drafted_longer}
use Rattle.ups_lasting.proofs.Fronts.{of_within, of_behind, of_many}
use Rattle.ups_lasting.proofs.Surveyed.{entry_at}

-- what is kept of more entries begins with what is kept of the first ones
left_grows : {A : Type 0} (s : Settings) (steps : List (List ℕ)) (xs ys : List (Entry A)) → (more : List (Entry A)) × (left_for s steps (xs ++ ys) ≡ more ++ left_for s steps ys)
left_grows s steps [] ys = ([], refl)
left_grows {A} s steps (e ∷ xs) ys =
    let r = left_grows s steps xs ys in
    let after : List (Entry A) = left_for s steps (xs ++ ys) in
    elim (is_left_for s steps e (xs ++ ys)) as (λ b. (more : List (Entry A)) × ((if b then e ∷ after else reservation e e.request ++ after) ≡ more ++ left_for s steps ys)) [
      | true ↦ (e ∷ r.0, ap (λ (l : List (Entry A)). e ∷ l) r.1)
      | false ↦ (reservation e e.request ++ r.0, ap (λ (l : List (Entry A)). reservation e e.request ++ l) r.1 ∙ sym (append_assoc (reservation e e.request) r.0 (left_for s steps ys)))
    ]

pub kept_grows : (s : Settings) (steps : List (List ℕ)) (front es old new : List (Entry Global)) → past old ≡ left_for s steps (past front) → past new ≡ left_for s steps (past (front ++ es))
    → (more : List (Entry Global)) × (new ≡ old ++ more)
kept_grows s steps front es old new was is =
    let g = left_grows s steps (past es) (past front) in
    let both : past new ≡ g.0 ++ past old = is ∙ (ap (left_for s steps) (reverse-append front es) ∙ (g.1 ∙ ap (λ (l : List (Entry Global)). g.0 ++ l) (sym was))) in (
      past g.0,
      sym (reverse-reverse new) ∙ (ap past both ∙ (reverse-append g.0 (past old) ∙ ap (λ (l : List (Entry Global)). l ++ past g.0) (reverse-reverse old))),
    )

-- one more is entered, if it is kept
pub carry_more : (s t : Settings) (steps : List (List ℕ)) (rs : List (Record Global)) (front es : List (Entry Global)) (i : ℕ) (r : Record Global) (now next : List (Entry Global)) → i < length rs → r ≡ get_or rs i r → t ≡ s
    → All (λ (e : Entry Global). IsWritableEntry e) es → map recorded es ≡ rs → is_legal s (front ++ es) → past now ≡ left_for s steps (past (front ++ take i es))
    → ((e : Entry Global) → IsWritableEntry e → recorded e ≡ r → (xs : List (Entry Global)) → legal t (e ∷ xs) ≡ true → past now ≡ left_for t steps xs → past next ≡ left_for t steps (e ∷ xs))
    → past next ≡ left_for s steps (past (front ++ take (i + 1) es))
carry_more s t steps rs front es i r now next low is same written are l was step =
    let n = entry_at es rs i r low is written are in
    let on : past (front ++ take (i + 1) es) ≡ n.0 ∷ past (front ++ take i es) =
    ap past (ap (λ (x : List (Entry Global)). front ++ x) n.3 ∙ sym (append_assoc front (take i es) (n.0 ∷ []))) ∙ past-push (front ++ take i es) n.0 in
    let parts : front ++ es ≡ (front ++ take (i + 1) es) ++ drop (i + 1) es =
    ap (λ (x : List (Entry Global)). front ++ x) (sym (take-append-drop (i + 1) es)) ∙ sym (append_assoc front (take (i + 1) es) (drop (i + 1) es)) in
    let ok : is_legal s (front ++ take (i + 1) es) = beginning_legal s (front ++ take (i + 1) es) (drop (i + 1) es) (subst (λ (x : List (Entry Global)). is_legal s x) parts l) in
    subst (λ (x : Settings). past next ≡ left_for x steps (n.0 ∷ past (front ++ take i es))) same
    (step n.0 n.1 n.2 (past (front ++ take i es))
    (subst (λ (x : Settings). legal x (n.0 ∷ past (front ++ take i es)) ≡ true) (sym same) (subst (λ (xs : List (Entry Global)). legal s xs ≡ true) on ok))
    (subst (λ (x : Settings). past now ≡ left_for x steps (past (front ++ take i es))) (sym same) was))
    ∙ ap (left_for s steps) (sym on)

-- nothing is read yet
no_entries : (es : List (Entry Global)) → length es ≡ 0 → es ≡ []
no_entries [] e = refl
no_entries (x ∷ xs) e = absurd (omega arith)

none_carried : (s : Settings) (content : List (Record Global)) (whole : ManagerView Global) (steps : List (List ℕ)) (kept : List (Entry Global)) (drafts : List (Record Global))
    → steps ≡ steps_needed s (past whole.history) → kept ≡ [] → drafts ≡ [] → IsSurveyed s content whole → AreCarried s content whole steps kept 0 0 drafts
none_carried s content whole steps kept drafts needed none drawn i = record {
  surveyed = i;
  needed = needed;
  within = omega arith;
  keeps = λ log o.
      let empty : log ≡ [] = no_entries log (of_many s (take 0 content) log o) in
      ap past none ∙ ap (λ (es : List (Entry Global)). left_for s steps (past es)) (sym empty);
  drafts_are = λ log o.
      let empty : log ≡ [] = no_entries log (of_many s (take 0 content) log o) in
      record {
        within = omega arith;
        writable = subst (λ (es : List (Entry Global)). All (λ (e : Entry Global). IsWritableEntry e) es) empty o.writable;
        are = drawn;
      };
}

-- what is known of a manager is seen as the manager
pub carried_none : (s : Settings) (content : List (Record Global)) (whole survey : ManagerView Global) (steps : List (List ℕ)) (kept : List (Entry Global)) (drafts : List (Record Global)) → survey ≡ whole
    → steps ≡ steps_needed s (past whole.history) → kept ≡ [] → drafts ≡ [] → IsSurveyed s content whole → AreCarried s content survey steps kept 0 0 drafts
carried_none s content whole survey steps kept drafts same needed none drawn i =
    subst (λ (m : ManagerView Global). AreCarried s content m steps kept 0 0 drafts) (sym same) (none_carried s content whole steps kept drafts needed none drawn i)

-- further records are read once more
carried_behind : (s t : Settings) (content records : List (Record Global)) (most : ℕ) (whole : ManagerView Global) (steps : List (List ℕ)) (old new : List (Entry Global)) (read drafted : ℕ) (drafts : List (Record Global))
    → records ≡ take most (drop read content) → most ≤ length whole.history - read → t ≡ s
    → ((front es : List (Entry Global)) → All (λ (e : Entry Global). IsWritableEntry e) es → map recorded es ≡ records → is_legal t (front ++ es) → past old ≡ left_for t steps (past front) → past new ≡ left_for t steps (past (front ++ es)))
    → AreCarried s content whole steps old read drafted drafts → AreCarried s content whole steps new (read + length records) drafted drafts
carried_behind s t content records most whole steps old new read drafted drafts is few same step c =
    let part : List (Record Global) = take most (drop read content) in
    let at : (log : List (Entry Global)) → AreRecordsOf s (take (read + length records) content) log → AreRecordsOf s (take (read + length part) content) log = λ log o. subst (λ (l : List (Record Global)). AreRecordsOf s (take (read + length l) content) log) is o in
    let front_of : (log : List (Entry Global)) → AreRecordsOf s (take (read + length records) content) log → AreRecordsOf s (take read content) (take read log) = λ log o. of_within s read (read + length records) content log (omega arith) o in
    let all : (log : List (Entry Global)) → AreRecordsOf s (take (read + length records) content) log → past new ≡ left_for s steps (past (take read log ++ drop read log)) =
    λ log o.
    subst (λ (x : Settings). past new ≡ left_for x steps (past (take read log ++ drop read log))) same
    (step (take read log) (drop read log) (All-drop (λ (e : Entry Global). IsWritableEntry e) read log o.writable)
    (of_behind s read most content log (at log o) ∙ sym is)
    (subst (λ (x : Settings). is_legal x (take read log ++ drop read log)) (sym same) (subst (λ (es : List (Entry Global)). is_legal s es) (sym (take-append-drop read log)) o.legally))
    (subst (λ (x : Settings). past old ≡ left_for x steps (past (take read log))) (sym same) (c.keeps (take read log) (front_of log o)))) in
    record {
      surveyed = c.surveyed;
      needed = c.needed;
      within = omega (arith, ap length is, length-take most (drop read content), c.within, few);
      keeps = λ log o. all log o ∙ ap (λ (es : List (Entry Global)). left_for s steps (past es)) (take-append-drop read log);
      drafts_are = λ log o.
          let g = kept_grows s steps (take read log) (drop read log) old new (c.keeps (take read log) (front_of log o)) (all log o) in
          subst (λ (es : List (Entry Global)). AreDrafted es drafted drafts) (sym g.1) (drafted_longer old g.0 drafted drafts (c.drafts_are (take read log) (front_of log o)));
    }

pub carried_on : (s t : Settings) (content records : List (Record Global)) (most n : ℕ) (whole : ManagerView Global) (steps : List (List ℕ)) (old new : List (Entry Global)) (read drafted : ℕ) (drafts : List (Record Global))
    → records ≡ take most (drop read content) → most ≤ length whole.history - read → t ≡ s → n ≡ read + length records
    → ((front es : List (Entry Global)) → All (λ (e : Entry Global). IsWritableEntry e) es → map recorded es ≡ records → is_legal t (front ++ es) → past old ≡ left_for t steps (past front) → past new ≡ left_for t steps (past (front ++ es)))
    → AreCarried s content whole steps old read drafted drafts → AreCarried s content whole steps new n drafted drafts
carried_on s t content records most n whole steps old new read drafted drafts is few same many step c =
    subst (λ (m : ℕ). AreCarried s content whole steps new m drafted drafts) (sym many) (carried_behind s t content records most whole steps old new read drafted drafts is few same step c)

-- further entries are drafted
pub carried_drafted : (s : Settings) (content : List (Record Global)) (whole : ManagerView Global) (steps : List (List ℕ)) (kept : List (Entry Global)) (read drafted n : ℕ) (drafts after : List (Record Global))
    → (AreDrafted kept drafted drafts → AreDrafted kept n after) → AreCarried s content whole steps kept read drafted drafts → AreCarried s content whole steps kept read n after
carried_drafted s content whole steps kept read drafted n drafts after on c = record {
  surveyed = c.surveyed;
  needed = c.needed;
  within = c.within;
  keeps = c.keeps;
  drafts_are = λ log o. on (c.drafts_are log o);
}

-- nothing is entered yet
pub surveyed_none : (s : Settings) (content : List (Record Global)) (whole : ManagerView Global) → whole.settings ≡ s → whole.history ≡ [] → IsSurveyed s content whole
surveyed_none s content whole same none =
    let none_there : length whole.history ≡ 0 = ap length none in
    record {
      settings = same;
      within = omega (arith, none_there);
      all = λ log o.
          let few : length log ≡ 0 = omega (arith, of_many s (take (length whole.history) content) log o, length-take (length whole.history) content, none_there) in
          none ∙ sym (no_entries log few);
    }
