-- Records that stand for the log go on to do so.
use Rattle.std.proofs.Common.{◌≡◌, ℕ, ◌+◌, ◌-◌, true, List, [], ◌∷◌, ◌++◌, length, map, take, Option, None, Some, refl, sym, ap, subst, ◌∙◌, arith}
use Rattle.std.specs.Prelude.{drop, reverse}
use Rattle.std.specs.List.{All}
use Rattle.std.specs.Global.{Global}
use Rattle.std.proofs.Math.Seq.{take-append_seam, drop-append_seam}
use Rattle.std.proofs.lemmas.List.{map-append, take-append-drop, take-map, reverse-append}
use Rattle.std.proofs.lemmas.List.Elements.{All-append, All-drop, All-map, All-take, All-weaker}
use mathlib.Core.Logic.{∥∥₁_elim, ∥∥₁_map}
use Rattle.ups_life.specs.declared.entry.Entry.{Entry}
use Rattle.ups_life.specs.declared.request.Request.{Request}
use Rattle.ups_life.specs.declared.request.Request.TheVariants.{Create, Change, AskCancel, Set, Subscribe, Unsubscribe, Suspend, Ack, Sweep, Reserve}
use Rattle.ups_life.specs.History.{legal}
use Rattle.ups_life.specs.Settings.{Settings}
use Rattle.ups_life.specs.Steps.{past}
use Rattle.ups_life.proofs.Accepted.{legal_tail}
use Rattle.ups_journal.specs.declared.record.Record.{Record}
use Rattle.ups_journal.specs.Columns.{recorded}
use Rattle.ups_journal.specs.Writable.{IsRecordable, IsWritableEntry}
use Rattle.ups_service.proofs.Legality.{beginning_legal}
use Rattle.ups_compact.specs.Shifting.{shift, with_number_less, shifted, followed, IsShifted}
use Rattle.ups_compact.proofs.Onward.{both_shifts, no_shift}
use Rattle.ups_restore.specs.Lessening.{event_less, columns_less, lessened}
use Rattle.ups_restore.proofs.Onward.{records_shifted}
use Rattle.ups_lasting.specs.Standing.{Stand, StandsForLog}

-- RECORDS MADE LESS by the same numbers are the same, and by none they are as they were
pub same_lessened : (f g : List ℕ → ℕ) → ((w : List ℕ) → f w ≡ g w) → (rs : List (Record Global)) → map (lessened f) rs ≡ map (lessened g) rs
same_lessened f g same [] = refl
same_lessened f g same (r ∷ rs) =
    ap (λ (k : ℕ). record { caller = r.caller; title = r.title; moment = r.moment; request = columns_less k r.request } ∷ map (lessened f) rs) (same r.title)
    ∙ ap (λ (xs : List (Record Global)). lessened g r ∷ xs) (same_lessened f g same rs)

event_same : (k : ℕ) → k ≡ 0 → (event : Option ℕ) → event_less k event ≡ event
event_same k none None = refl
event_same k none (Some n) = ap (λ (i : ℕ). Some i) (let same : n - k ≡ n = omega (arith, none) in same)

less_none : (less : List ℕ → ℕ) → ((w : List ℕ) → less w ≡ 0) → (r : Record Global) → lessened less r ≡ r
less_none less none r = λ i. record {
  caller = r.caller;
  title = r.title;
  moment = r.moment;
  request = record {
    operation = r.request.operation;
    instance = r.request.instance;
    transaction_uid = r.request.transaction_uid;
    state = r.request.state;
    receiver = r.request.receiver;
    deletion_lock = r.request.deletion_lock;
    event = event_same (less r.title) (none r.title) r.request.event i;
    utc_offset = r.request.utc_offset;
    attributes = r.request.attributes;
  };
}

pub all_less_none : (less : List ℕ → ℕ) → ((w : List ℕ) → less w ≡ 0) → (rs : List (Record Global)) → map (lessened less) rs ≡ rs
all_less_none less none [] = refl
all_less_none less none (r ∷ rs) = λ i. less_none less none r i ∷ all_less_none less none rs i

-- ENTRIES MADE LESS can be recorded too
recordable_shifted : (k : ℕ) (r : Request Global) → IsRecordable r → IsRecordable (with_number_less k r)
recordable_shifted k (Ack n) h = tt
recordable_shifted k (Create step attributes) h = h
recordable_shifted k (Change step state t) h = h
recordable_shifted k (AskCancel step reasons) h = h
recordable_shifted k (Set step t attributes) h = h
recordable_shifted k (Subscribe target receiver lock) h = h
recordable_shifted k (Unsubscribe place receiver) h = h
recordable_shifted k (Suspend receiver) h = h
recordable_shifted k Sweep h = h
recordable_shifted k (Reserve step) h = h

writable_shifted : (s : Settings) (by log : List (Entry Global)) (e : Entry Global) → IsWritableEntry e → IsWritableEntry (shifted s by log e)
writable_shifted s by log e h = record { title = h.title; request = recordable_shifted (shift s by log e.ae) e.request h.request }

reverse_mapped : {X Y : Type 0} (f : X → Y) (xs : List X) → reverse (map f xs) ≡ map f (reverse xs)
reverse_mapped f [] = refl
reverse_mapped {X} {Y} f (x ∷ xs) =
    reverse-append (f x ∷ []) (map f xs)
    ∙ ap (λ (l : List Y). l ++ f x ∷ []) (reverse_mapped f xs)
    ∙ sym (map-append f (reverse xs) (x ∷ []))
    ∙ ap (map f) (sym (reverse-append (x ∷ []) xs))

-- what a history that stands for a log does with later entries, newest first: the laws of the crate of compactions
abbrev pub StandsEver : Type 0
StandsEver = (s : Settings) → (by log later : List (Entry Global)) → IsShifted s by log → legal s (later ++ log) ≡ true → IsShifted s (followed s later by log) (later ++ log)

abbrev pub ShiftsEver : Type 0
ShiftsEver = (s : Settings) → (by log later : List (Entry Global)) → (w : List ℕ) → IsShifted s by log → legal s (later ++ log) ≡ true → shift s (followed s later by log) (later ++ log) w ≡ shift s by log w

abbrev pub StandsItself : Type 0
StandsItself = (s : Settings) → (es : List (Entry Global)) → legal s es ≡ true → IsShifted s es es

abbrev pub StandsThrough : Type 0
StandsThrough = (s : Settings) → (a b c : List (Entry Global)) → IsShifted s a b → IsShifted s b c → IsShifted s a c

-- IT STANDS FOR ITSELF
pub stands_itself : StandsItself → (s : Settings) (said : List (Record Global)) (less : List ℕ → ℕ) → ((w : List ℕ) → less w ≡ 0) → StandsForLog s said said less
stands_itself itself s said less none = λ log writable are l once. ∣ record {
  by = log;
  writable = writable;
  are = are;
  shifted = itself s (past log) l;
  numbers = λ w. no_shift s (past log) w ∙ sym (none w);
} ∣₁

-- IT STANDS FOR A LONGER LOG, oldest first
module _ (ever : StandsEver) (shifts : ShiftsEver) where
  followed_less : (s : Settings) (by log later : List (Entry Global)) → IsShifted s by log → legal s (later ++ log) ≡ true → followed s later by log ≡ map (shifted s by log) later ++ by
  followed_less s by log [] x l = refl
  followed_less s by log (e ∷ later) x l =
      let before = legal_tail s e (later ++ log) l in
      ap (λ (k : ℕ). record { caller = e.caller; ae = e.ae; moment = e.moment; request = with_number_less k e.request } ∷ followed s later by log) (shifts s by log later e.ae x before)
      ∙ ap (λ (es : List (Entry Global)). shifted s by log e ∷ es) (followed_less s by log later x before)

  module _ (s : Settings) (by first later : List (Entry Global)) (x : IsShifted s (past by) (past first)) (l : legal s (past (first ++ later)) ≡ true) where
    abbrev then : List (Entry Global)
    then = map (shifted s (past by) (past first)) later

    legal_back : legal s (past later ++ past first) ≡ true
    legal_back = subst (λ (es : List (Entry Global)). legal s es ≡ true) (reverse-append first later) l

    followed_back : followed s (past later) (past by) (past first) ≡ past (by ++ then)
    followed_back =
        followed_less s (past by) (past first) (past later) x legal_back
        ∙ ap (λ (es : List (Entry Global)). es ++ past by) (sym (reverse_mapped (shifted s (past by) (past first)) later))
        ∙ sym (reverse-append by then)

    stands_later : IsShifted s (past (by ++ then)) (past (first ++ later))
    stands_later =
        subst (λ (es : List (Entry Global)). IsShifted s es (past (first ++ later))) followed_back
        (subst (λ (es : List (Entry Global)). IsShifted s (followed s (past later) (past by) (past first)) es) (sym (reverse-append first later)) (ever s (past by) (past first) (past later) x legal_back))

    shift_later : (w : List ℕ) → shift s (past (by ++ then)) (past (first ++ later)) w ≡ shift s (past by) (past first) w
    shift_later w =
        ap (λ (es : List (Entry Global)). shift s es (past (first ++ later)) w) (sym followed_back)
        ∙ ap (λ (es : List (Entry Global)). shift s (followed s (past later) (past by) (past first)) es w) (reverse-append first later)
        ∙ shifts s (past by) (past first) (past later) w x legal_back

  stand_on : (s : Settings) (content : List (Record Global)) (first later : List (Entry Global)) (less : List ℕ → ℕ) → legal s (past (first ++ later)) ≡ true → All (λ (e : Entry Global). IsWritableEntry e) later
      → Stand s content first less → Stand s (content ++ map (lessened less) (map recorded later)) (first ++ later) less
  stand_on s content first later less l writable k =
      let f = shifted s (past k.by) (past first) in record {
        by = k.by ++ map f later;
        writable =
            All-append (λ (e : Entry Global). IsWritableEntry e) k.by (map f later) k.writable
            (All-map (λ (e : Entry Global). IsWritableEntry e) f later
            (All-weaker (λ (e : Entry Global). IsWritableEntry e) (λ (e : Entry Global). IsWritableEntry (f e)) (writable_shifted s (past k.by) (past first)) later writable));
        are =
            map-append recorded k.by (map f later)
            ∙ ap (λ (rs : List (Record Global)). rs ++ map recorded (map f later)) k.are
            ∙ ap (λ (rs : List (Record Global)). content ++ rs)
            (records_shifted s (past k.by) (past first) later ∙ same_lessened (shift s (past k.by) (past first)) less k.numbers (map recorded later));
        shifted = stands_later s k.by first later k.shifted l;
        numbers = λ w. shift_later s k.by first later k.shifted l w ∙ k.numbers w;
      }

  pub stands_on : (s : Settings) (content said more : List (Record Global)) (less : List ℕ → ℕ) → StandsForLog s content said less → StandsForLog s (content ++ map (lessened less) more) (said ++ more) less
  stands_on s content said more less stands = λ log writable are l once.
      let n = length said in
      let first = take n log in
      let later = drop n log in
      let whole : first ++ later ≡ log = take-append-drop n log in
      let all : legal s (past (first ++ later)) ≡ true = subst (λ (es : List (Entry Global)). legal s (past es) ≡ true) (sym whole) l in
      let first_are : map recorded first ≡ said = sym (take-map recorded n log) ∙ ap (take n) are ∙ take-append_seam said more in
      let split : said ++ map recorded later ≡ said ++ more =
      ap (λ (rs : List (Record Global)). rs ++ map recorded later) (sym first_are) ∙ sym (map-append recorded first later) ∙ ap (λ (es : List (Entry Global)). map recorded es) whole ∙ are in
      let later_are : map recorded later ≡ more = sym (drop-append_seam said (map recorded later)) ∙ ap (drop n) split ∙ drop-append_seam said more in
      ∥∥₁_map (stands first (All-take (λ (e : Entry Global). IsWritableEntry e) n log writable) first_are (beginning_legal s first later all) once) (λ k.
      subst (λ (es : List (Entry Global)). Stand s (content ++ map (lessened less) more) es less) whole
      (subst (λ (rs : List (Record Global)). Stand s (content ++ map (lessened less) rs) (first ++ later) less) later_are
      (stand_on s content first later less all (All-drop (λ (e : Entry Global). IsWritableEntry e) n log writable) k)))

-- WHAT STANDS FOR ITS RECORDS stands for the log
pub stands_through : StandsThrough → (s : Settings) (other content said : List (Record Global)) (extra less : List ℕ → ℕ) → StandsForLog s content said less → StandsForLog s other content extra
    → StandsForLog s other said (λ w. extra w + less w)
stands_through through s other content said extra less stands more = λ log writable are l once.
    ∥∥₁_elim (stands log writable are l once) squash₁ (λ k.
    ∥∥₁_map (more k.by k.writable k.are k.shifted.legal_too once) (λ m. record {
      by = m.by;
      writable = m.writable;
      are = m.are;
      shifted = through s (past m.by) (past k.by) (past log) m.shifted k.shifted;
      numbers = λ w. both_shifts s (past m.by) (past k.by) (past log) w m.shifted k.shifted ∙ ap (λ (n : ℕ). n + shift s (past k.by) (past log) w) (m.numbers w) ∙ ap (λ (n : ℕ). extra w + n) (k.numbers w);
    }))

-- shifts that are the same make the same stand
pub stands_alike : (s : Settings) (content said : List (Record Global)) (less other : List ℕ → ℕ) → ((w : List ℕ) → less w ≡ other w) → StandsForLog s content said less → StandsForLog s content said other
stands_alike s content said less other same stands = λ log writable are l once. ∥∥₁_map (stands log writable are l once) (λ k. record {
  by = k.by;
  writable = k.writable;
  are = k.are;
  shifted = k.shifted;
  numbers = λ w. k.numbers w ∙ same w;
})
