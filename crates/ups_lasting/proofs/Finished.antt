-- A compacted history of the first records.
use Rattle.std.proofs.Common.{◌≡◌, ℕ, ◌+◌, ◌≤◌, false, List, [], ◌++◌, length, map, take, drop, sym, ap, subst, ◌∙◌, arith}
use Rattle.std.specs.List.{All}
use Rattle.std.proofs.lemmas.List.{append-nil, drop-take, reverse-reverse, take_all}
use Rattle.std.specs.Global.{Global}
use Rattle.ups_life.specs.declared.entry.Entry.{Entry}
use Rattle.ups_life.specs.Settings.{Settings}
use Rattle.ups_life.specs.Steps.{past}
use Rattle.ups_journal.specs.declared.record.Record.{Record}
use Rattle.ups_journal.specs.Columns.{recorded}
use Rattle.ups_journal.specs.Writable.{IsWritableEntry}
use Rattle.ups_manager.specs.View.{ManagerView}
use Rattle.ups_compact.specs.Compacting.{has_title_twice, left_for, steps_needed, compacted_for}
use Rattle.ups_compact.specs.Course.{IsLeftOf}
use Rattle.ups_compact.specs.Shifting.{shift}
use Rattle.ups_compact.proofs.Standing.{left_itself, left_less}
use Rattle.ups_restore.specs.Lessening.{lessened}
use Rattle.ups_lasting.specs.Stages.{AreRecordsOf, AreDrafted, AreCarried, AreFinished, AreFollowed, IsLeftLess}
use Rattle.ups_lasting.proofs.Drafted.{drafted_longer}

-- what is left of a history is left of it as its own log
left_of : (caller moment : ℕ) (s : Settings) (log new : List (Entry Global)) (content : List (Record Global)) (less : List ℕ → ℕ) → AreRecordsOf s content log → has_title_twice s.peers ≡ false
    → past new ≡ compacted_for caller moment s (steps_needed s (past log)) (past log) → ((w : List ℕ) → less w ≡ shift s (past new) (past log) w) → IsLeftLess s log new less
left_of caller moment s log new content less o once is numbers = record {
  left =
      subst (λ (es : List (Entry Global)). IsLeftOf s es log) (sym (ap past is) ∙ reverse-reverse new)
      (left_less s log log (left_itself s log o.legally) caller moment once);
  compacted = record { caller = caller; moment = moment; is = is };
  numbers = numbers;
}

pub finished : (caller moment : ℕ) (s : Settings) (content : List (Record Global)) (whole : ManagerView Global) (steps : List (List ℕ)) (old acks new : List (Entry Global)) (read drafted : ℕ) (drafts : List (Record Global)) (less : List ℕ → ℕ)
    → length whole.history ≤ read → new ≡ old ++ acks
    → (past old ≡ left_for whole.settings (steps_needed whole.settings (past whole.history)) (past whole.history)
    → past new ≡ compacted_for caller moment whole.settings (steps_needed whole.settings (past whole.history)) (past whole.history))
    → ((w : List ℕ) → less w ≡ shift whole.settings (past new) (past whole.history) w)
    → AreCarried s content whole steps old read drafted drafts → AreFinished s content new less read drafted drafts
finished caller moment s content whole steps old acks new read drafted drafts less all entered compacted numbers c =
    let many : read ≡ length whole.history = omega (arith, c.within, all) in
    let set : whole.settings ≡ s = c.surveyed.settings in
    let is : (log : List (Entry Global)) → AreRecordsOf s (take read content) log → whole.history ≡ log = λ log o. c.surveyed.all log (subst (λ (n : ℕ). AreRecordsOf s (take n content) log) many o) in
    record {
      within = omega (arith, many, c.surveyed.within);
      left = λ log o once.
          let same : whole.history ≡ log = is log o in
          let was : past old ≡ left_for whole.settings (steps_needed whole.settings (past whole.history)) (past whole.history) =
          c.keeps log o ∙ (λ i. left_for (sym set i) ((c.needed ∙ ap (λ (x : Settings). steps_needed x (past whole.history)) (sym set)) i) (past (sym same i))) in
          left_of caller moment s log new (take read content) less o once
          (compacted was ∙ (λ i. compacted_for caller moment (set i) (steps_needed (set i) (past (same i))) (past (same i))))
          (λ w. numbers w ∙ (λ i. shift (set i) (past new) (past (same i)) w));
      drafts_are = λ log o. subst (λ (es : List (Entry Global)). AreDrafted es drafted drafts) (sym entered) (drafted_longer old acks drafted drafts (c.drafts_are log o));
    }

-- further entries are drafted
pub finished_drafted : (s : Settings) (content : List (Record Global)) (kept : List (Entry Global)) (less : List ℕ → ℕ) (from drafted n : ℕ) (drafts after : List (Record Global))
    → (AreDrafted kept drafted drafts → AreDrafted kept n after) → AreFinished s content kept less from drafted drafts → AreFinished s content kept less from n after
finished_drafted s content kept less from drafted n drafts after on f = record {
  within = f.within;
  left = f.left;
  drafts_are = λ log o. on (f.drafts_are log o);
}

-- all of it is drafted: what follows begins
pub finished_begins : (s : Settings) (content : List (Record Global)) (kept : List (Entry Global)) (less : List ℕ → ℕ) (from drafted : ℕ) (drafts : List (Record Global))
    → AreFinished s content kept less from drafted drafts → length kept ≤ drafted → AreFollowed s content less from from drafts
finished_begins s content kept less from drafted drafts f low =
    let all : take drafted kept ≡ kept = take_all drafted kept low in
    let none : drop from (take from content) ≡ [] = ap (λ (n : ℕ). drop from (take n content)) (let same : from ≡ from + 0 = omega arith in same) ∙ drop-take from 0 content in
    record {
      behind = omega arith;
      within = f.within;
      goes = λ log o once.
          let d = f.drafts_are log o in
          record {
            by = kept;
            writable = subst (λ (es : List (Entry Global)). All (λ (e : Entry Global). IsWritableEntry e) es) all d.writable;
            left = f.left log o once;
            are = d.are ∙ (ap (λ (es : List (Entry Global)). map recorded es) all ∙ (sym (append-nil (map recorded kept)) ∙ ap (λ (l : List (Record Global)). map recorded kept ++ map (lessened less) l) (sym none)));
          };
    }
