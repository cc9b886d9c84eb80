-- What follows a compacted history.
use Rattle.std.proofs.Common.{◌≡◌, ℕ, ◌<◌, ◌≤◌, ◌+◌, List, ◌++◌, length, map, take, drop, sym, ap, subst, ◌∙◌, arith}
use Rattle.std.proofs.lemmas.List.{append_assoc, length-drop, length-take, length-take-le, map-append, take-append-drop, take_all, drop-map, drop-append-le}
use Rattle.std.proofs.lemmas.List.Elements.{All-append, All-drop}
use Rattle.std.specs.Global.{Global}
use Rattle.ups_life.specs.declared.entry.Entry.{Entry}
use Rattle.ups_life.specs.Settings.{Settings}
use Rattle.ups_life.specs.Steps.{past}
use Rattle.ups_journal.specs.declared.record.Record.{Record}
use Rattle.ups_journal.specs.Columns.{recorded}
use Rattle.ups_journal.specs.Writable.{IsWritableEntry}
use Rattle.ups_service.specs.Law.{is_legal}
use Rattle.ups_compact.specs.Course.{IsLeftOf}
use Rattle.ups_compact.specs.Shifting.{shift}
use Rattle.ups_compact.proofs.Standing.{left_stands}
use Rattle.ups_restore.specs.Lessening.{lessened}
use Rattle.ups_restore.proofs.Onward.{goes_on_by}
use Rattle.ups_lasting.specs.Stages.{AreFollowed, ShortenedBy, StandsBy}
use Rattle.ups_lasting.proofs.Fronts.{take_on, length_on, of_front, of_many}

followed_behind : (s : Settings) (content records copies drafts after : List (Record Global)) (less : List ℕ → ℕ) (from read most : ℕ)
    → records ≡ take most (drop read content) → copies ≡ map (lessened less) records → after ≡ drafts ++ copies
    → AreFollowed s content less from read drafts → AreFollowed s content less from (read + length records) after
followed_behind s content records copies drafts after less from read most is made noted f =
    let there : take (read + length records) content ≡ take read content ++ records =
    ap (λ (l : List (Record Global)). take (read + length l) content) is ∙ (take_on read most content ∙ ap (λ (l : List (Record Global)). take read content ++ l) (sym is)) in
    let low : from ≤ length (take read content) = omega (arith, length-take-le read content f.within, f.behind) in
    let behind : drop from (take (read + length records) content) ≡ drop from (take read content) ++ records = ap (drop from) there ∙ drop-append-le from (take read content) records low in
    record {
      behind = omega (arith, f.behind);
      within = omega (arith, length_on read most content f.within, ap length is);
      goes = λ log o once.
          let g = f.goes log o once in
          record {
            by = g.by;
            writable = g.writable;
            left = g.left;
            are = noted ∙ ((λ i. g.are i ++ made i) ∙ (append_assoc (map recorded g.by) (map (lessened less) (drop from (take read content))) (map (lessened less) records)
                ∙ ap (λ (l : List (Record Global)). map recorded g.by ++ l) (sym (map-append (lessened less) (drop from (take read content)) records) ∙ ap (map (lessened less)) (sym behind))));
          };
    }

-- further records are drafted
pub followed_on : (s : Settings) (content records copies drafts after : List (Record Global)) (less : List ℕ → ℕ) (from read most n : ℕ)
    → records ≡ take most (drop read content) → copies ≡ map (lessened less) records → after ≡ drafts ++ copies → n ≡ read + length records
    → AreFollowed s content less from read drafts → AreFollowed s content less from n after
followed_on s content records copies drafts after less from read most n is made noted many f =
    subst (λ (m : ℕ). AreFollowed s content less from m after) (sym many) (followed_behind s content records copies drafts after less from read most is made noted f)

-- where fewer are read than could be, nothing is left
pub all_read : (content records : List (Record Global)) (read most n : ℕ) → records ≡ take most (drop read content) → length records < most → n ≡ read + length records → length content ≤ n
all_read content records read most n is few many = omega (arith, length-take most (drop read content), length-drop read content, ap length is, many)

-- THE DRAFTS STAND FOR THE RECORDS, once nothing is left to draft
pub follows_all : (s : Settings) (content drafts : List (Record Global)) (less : List ℕ → ℕ) (from read : ℕ) → length content ≤ read → AreFollowed s content less from read drafts → StandsBy s content drafts less
follows_all s content drafts less from read all f = λ by o once.
    let log : List (Entry Global) = take from by in
    let later : List (Entry Global) = drop from by in
    let g = f.goes log (of_front s from content by o) once in
    let whole : log ++ later ≡ by = take-append-drop from by in
    let legally : is_legal s (log ++ later) = subst (λ (es : List (Entry Global)). is_legal s es) (sym whole) o.legally in
    let m = goes_on_by s g.by log later once g.left.left legally (All-drop (λ (e : Entry Global). IsWritableEntry e) from by o.writable) in
    let numbers : shift s (past g.by) (past log) ≡ less = λ i w. sym (g.left.numbers w) i in
    let behind : map recorded later ≡ drop from (take read content) = sym (drop-map recorded from by) ∙ (ap (drop from) o.are ∙ ap (drop from) (sym (take_all read content all))) in
    ∣ record {
      by = g.by ++ m.0;
      writable = All-append (λ (e : Entry Global). IsWritableEntry e) g.by m.0 g.writable m.3;
      are = map-append recorded g.by m.0 ∙ (ap (λ (l : List (Record Global)). map recorded g.by ++ l) (m.2 ∙ (λ i. map (lessened (numbers i)) (behind i))) ∙ sym g.are);
      shifted = left_stands s (g.by ++ m.0) by (subst (λ (es : List (Entry Global)). IsLeftOf s (g.by ++ m.0) es) whole m.1) once;
      numbers = λ w. ap (λ (es : List (Entry Global)). shift s (past (g.by ++ m.0)) (past es) w) (sym whole) ∙ (m.4 w ∙ sym (g.left.numbers w));
    } ∣₁

-- THE DRAFTS ARE THE RECORDS, SHORTENED, once nothing is left to draft
pub shortens_all : (s : Settings) (content drafts : List (Record Global)) (less : List ℕ → ℕ) (from read begun : ℕ) → begun ≤ from → length content ≤ read → AreFollowed s content less from read drafts → ShortenedBy s begun content drafts less
shortens_all s content drafts less from read begun most all f = λ by o once.
    let g = f.goes (take from by) (of_front s from content by o) once in
    let behind : map recorded (drop from by) ≡ drop from (take read content) = sym (drop-map recorded from by) ∙ (ap (drop from) o.are ∙ ap (drop from) (sym (take_all read content all))) in
    ∣ record {
      from = from;
      most = most;
      within = omega (arith, of_many s content by o, f.behind, f.within);
      by = g.by;
      writable = g.writable;
      left = g.left;
      are = g.are ∙ ap (λ (rs : List (Record Global)). map recorded g.by ++ map (lessened less) rs) (sym behind);
    } ∣₁
