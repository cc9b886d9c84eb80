-- The records of the first entries of a history that are drafted.
use Rattle.std.proofs.Common.{◌≡◌, ℕ, ◌+◌, List, ◌++◌, length, map, take, drop, sym, ap, subst, ◌∙◌, arith}
use Rattle.std.proofs.lemmas.List.{length-map, length-append, map-append, take-append-le}
use Rattle.std.proofs.lemmas.List.Elements.{All-append}
use Rattle.std.specs.List.{All}
use Rattle.std.specs.Global.{Global}
use Rattle.ups_life.specs.declared.entry.Entry.{Entry}
use Rattle.ups_journal.specs.declared.record.Record.{Record}
use Rattle.ups_journal.specs.Columns.{recorded}
use Rattle.ups_journal.specs.Writable.{IsWritableEntry}
use Rattle.ups_lasting.specs.Stages.{AreDrafted}
use Rattle.ups_lasting.proofs.Fronts.{take_on, length_on}

-- a longer history
pub drafted_longer : (h more : List (Entry Global)) (k : ℕ) (drafts : List (Record Global)) → AreDrafted h k drafts → AreDrafted (h ++ more) k drafts
drafted_longer h more k drafts d =
    let same : take k h ≡ take k (h ++ more) = sym (take-append-le k h more d.within) in
    record {
      within = omega (arith, d.within, length-append h more);
      writable = subst (λ (es : List (Entry Global)). All (λ (e : Entry Global). IsWritableEntry e) es) same d.writable;
      are = d.are ∙ ap (map recorded) same;
    }

drafted_behind : (h : List (Entry Global)) (k most : ℕ) (drafts records after : List (Record Global)) → records ≡ map recorded (take most (drop k h)) → All (λ (e : Entry Global). IsWritableEntry e) (take most (drop k h))
    → after ≡ drafts ++ records → AreDrafted h k drafts → AreDrafted h (k + length records) after
drafted_behind h k most drafts records after read writable noted d =
    let part = take most (drop k h) in
    let many : length part ≡ length records = sym (ap length read ∙ length-map part recorded) in
    let on : take k h ++ part ≡ take (k + length records) h = sym (take_on k most h) ∙ ap (λ (n : ℕ). take (k + n) h) many in
    record {
      within = omega (arith, length_on k most h d.within, many);
      writable = subst (λ (es : List (Entry Global)). All (λ (e : Entry Global). IsWritableEntry e) es) on (All-append (λ (e : Entry Global). IsWritableEntry e) (take k h) part d.writable writable);
      are = noted ∙ ((λ i. d.are i ++ read i) ∙ (sym (map-append recorded (take k h) part) ∙ ap (map recorded) on));
    }

-- further records are drafted
pub drafted_on : (h : List (Entry Global)) (k most n : ℕ) (drafts records after : List (Record Global)) → records ≡ map recorded (take most (drop k h)) → All (λ (e : Entry Global). IsWritableEntry e) (take most (drop k h))
    → after ≡ drafts ++ records → n ≡ k + length records → AreDrafted h k drafts → AreDrafted h n after
drafted_on h k most n drafts records after read writable noted many d = subst (λ (m : ℕ). AreDrafted h m after) (sym many) (drafted_behind h k most drafts records after read writable noted d)
