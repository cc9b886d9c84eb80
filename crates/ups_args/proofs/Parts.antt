-- What the words of a command line are cut into.
use Rattle.std.proofs.Common.{◌≡◌, ◌≢◌, ℕ, ◌<◌, ◌≤◌, ◌+◌, Bool, true, false, ◌&&◌, List, [], ◌∷◌, ◌++◌, length, get_or, take, drop, map, Option, None, Some, MatchOption, Bor, refl, sym, ◌∙◌, ap, subst, arith, lit<, length-append, append-nil, ◌==◌, Result, Ok, ◌^◌, nat_lt, IsTrue, add-one, zero, suc, inl, inr}
use Rattle.std.specs.Char.{is_ascii_digit, digit_value}
use Rattle.std.specs.Int.{IsInRange}
use Rattle.std.specs.List.{list_all}
use Rattle.std.specs.Str.{NoCharPasses}
use Rattle.std.specs.Str.Parse.{AllDigits, IsNumeral, digits_value, without_leading_plus, ParsesUnsigned}
use Rattle.std.specs.Str.Pattern.{RFindsChar, FindsTextSuffix, SplitsAroundMatch, StripsSuffix}
use Rattle.std.proofs.lemmas.Bool.Decides.{nat_tests}
use Rattle.std.proofs.lemmas.List.{length-map, append_cancel_right, get_or-append-add, get_or-map, take-append-drop, take_all}
use Rattle.std.proofs.lemmas.Str.Parse.{digit_at, digit_from_value, without_leading_plus_none}
use Rattle.std.proofs.lemmas.Str.Pattern.{NoCharPasses-char, drop_at_char, IsSplitOnceResult, split_after, split_parts}
use Rattle.std.proofs.Math.Seq.{get_or-append_seam, take-suc, drop-cons}
use Rattle.ups_life.specs.declared.peer.Peer.{Peer}
use Rattle.ups_pdu.specs.Title.{SpellsAe}
use Rattle.ups_settings.specs.Refusal.{is_twice}
use Rattle.ups_args.specs.Arguments.{IsPort, IsAddress, IsListening, CutsLock, SaysAddress, SaysLock, SaysPlace, nowhere, NamesPeer, NamesPlace, EachNames, NamePeers, StopsAt, ending_of}

both_true : (a b : Bool) → a ≡ true → b ≡ true → (a && b) ≡ true
both_true true b e f = f
both_true false b e f = absurd cc

digit_passes : (c : ℕ) → digit_value c < 10 → is_ascii_digit c ≡ true
digit_passes c l = let r : IsInRange 48 57 c = digit_from_value c l in grind (arith, nat_tests, r.0, r.1)

pub digits_pass : (xs : List ℕ) → AllDigits 10 xs → list_all is_ascii_digit xs ≡ true
digits_pass [] d = refl
digits_pass (x ∷ xs) d = both_true (is_ascii_digit x) (list_all is_ascii_digit xs) (digit_passes x d.0) (digits_pass xs d.1)

-- none of these is c
abbrev pub NoneIs : ℕ → List ℕ → Type 0
NoneIs c xs = (i : ℕ) → i < length xs → get_or xs i 0 ≢ c

none_in_digits : (xs : List ℕ) → AllDigits 10 xs → NoneIs 58 xs
none_in_digits xs d i l e = let r = digit_at xs i d l in absurd (omega (arith, r.1))

-- it stands at the seam
at_seam : (c : ℕ) (us ys vs : List ℕ) → us ≡ ys ++ c ∷ vs → NoneIs c us → ⊥
at_seam c us ys vs e none =
    none (length ys) (omega (arith, ap length e, length-append ys (c ∷ vs))) (ap (λ l. get_or l (length ys) 0) e ∙ get_or-append_seam ys c vs 0)

-- a text has one last c
last_same : (c : ℕ) (xs ys us vs : List ℕ) → xs ++ c ∷ us ≡ ys ++ c ∷ vs → NoneIs c us → NoneIs c vs → (xs ≡ ys) × (us ≡ vs)
last_same c [] [] us vs e n m = (refl, cc)
last_same c [] (y ∷ ys) us vs e n m = let k : us ≡ ys ++ c ∷ vs = cc in absurd (at_seam c us ys vs k n)
last_same c (x ∷ xs) [] us vs e n m = let k : vs ≡ xs ++ c ∷ us = cc in absurd (at_seam c vs xs us k m)
last_same c (x ∷ xs) (y ∷ ys) us vs e n m =
    let tail : xs ++ c ∷ us ≡ ys ++ c ∷ vs = cc in
    let (p, q) = last_same c xs ys us vs tail n m in
    let same : x ≡ y = cc in
    (cc, q)

-- the clause of `rsplit_once` at a colon
abbrev pub IsLastSplit : List ℕ → Option (Bor (List ℕ) × Bor (List ℕ)) → Type 0
IsLastSplit bs r = MatchOption r (RFindsChar 58 bs None) (λ x. SplitsAroundMatch (RFindsChar 58) bs x.0.now x.1.now)

none_after : (bs : List ℕ) → NoCharPasses (λ d. d == 58) bs → NoneIs 58 bs
none_after bs h i l = NoCharPasses-char 58 bs i h (lit< tt) l

pub uncut : (bs : List ℕ) (r : Option (Bor (List ℕ) × Bor (List ℕ))) → IsLastSplit bs r → r ≡ None → IsAddress bs → ⊥
uncut bs r h e a =
    let none : NoCharPasses (λ d. d == 58) bs = rw e at h in
    at_seam 58 bs a.host a.port a.parts (none_after bs none)

pub record Cut (bs host port : List ℕ) : Type 0 where
  pub parts : bs ≡ host ++ 58 ∷ port
  pub last : NoneIs 58 port

cut_from : (bs host port : List ℕ) → SplitsAroundMatch (RFindsChar 58) bs host port → Cut bs host port
cut_from bs host port (i, j, found, front, back, le, before, behind) = record {
  parts = sym (take-append-drop i bs) ∙ ap (λ l. take i bs ++ l) (drop_at_char 58 bs i j found.1 (lit< tt)) ∙ ap (λ l. l ++ 58 ∷ drop j bs) (sym front) ∙ ap (λ l. host ++ 58 ∷ l) (sym back);
  last = subst (NoneIs 58) (sym back) (none_after (drop j bs) found.0);
}

pub cut_at : (bs : List ℕ) (r : Option (Bor (List ℕ) × Bor (List ℕ))) (host port : Bor (List ℕ)) → IsLastSplit bs r → r ≡ Some (host, port) → Cut bs host.now port.now
cut_at bs r host port h e = let s : SplitsAroundMatch (RFindsChar 58) bs host.now port.now = rw e at h in cut_from bs host.now port.now s

pub address_from : (bs host port : List ℕ) (number : ℕ) → Cut bs host port → 0 < length host → IsPort port → number ≡ digits_value 10 port → SaysAddress bs host number
address_from bs host port number c some p is = record {
  is_address = record { host = host; port = port; parts = c.parts; some_host = some; is_port = p };
  is_host = refl;
  is_port = is;
}

pub address_parts : (bs host port : List ℕ) → Cut bs host port → IsAddress bs → (0 < length host) × IsPort port
address_parts bs host port c a =
    let (p, q) = last_same 58 a.host host a.port port (sym a.parts ∙ c.parts) (none_in_digits a.port a.is_port.numeral.1) c.last in
    (subst (λ (l : List ℕ). 0 < length l) p a.some_host, subst IsPort q a.is_port)

last_digit : (port : List ℕ) → AllDigits 10 port → 0 < length port → get_or (58 ∷ port) (length port) 0 ≤ 57
last_digit [] d l = absurd (omega arith)
last_digit (p ∷ ps) d l = (digit_at (p ∷ ps) (length ps) d (omega arith)).1

-- no address ends so
digit_last : (text front : List ℕ) → IsAddress text → text ≡ front ++ ending_of true → ⊥
digit_last text front a e =
    let k : get_or text (length front + 4) 0 ≡ 107 = ap (λ l. get_or l (length front + 4) 0) e ∙ get_or-append-add front (ending_of true) 4 0 in
    let m : get_or text (length a.host + length a.port) 0 ≡ get_or (58 ∷ a.port) (length a.port) 0 = ap (λ l. get_or l (length a.host + length a.port) 0) a.parts ∙ get_or-append-add a.host (58 ∷ a.port) (length a.port) 0 in
    let n : length front + 4 ≡ length a.host + length a.port = omega (arith, ap length e, ap length a.parts, length-append front (ending_of true), length-append a.host (58 ∷ a.port)) in
    let d = last_digit a.port a.is_port.numeral.1 a.is_port.numeral.0 in
    let same : get_or text (length front + 4) 0 ≡ get_or text (length a.host + length a.port) 0 = ap (λ i. get_or text i 0) n in
    absurd (omega (arith, k, m, d, same))

pub ends_so : (s : List ℕ) (x : List ℕ) → StripsSuffix (FindsTextSuffix (ending_of true)) s x → s ≡ x ++ ending_of true
ends_so s x (n, found, is, l) = found.1 ∙ ap (λ l. l ++ ending_of true) (sym is)

-- no place ends so
place_last : (text front : List ℕ) → IsListening text → text ≡ front ++ ending_of true → ⊥
place_last text front (inl is) e = absurd (omega (arith, ap length is, ap length e, length-append front (ending_of true)))
place_last text front (inr a) e = digit_last text front a e

pub cut_locked : (text place : List ℕ) → text ≡ place ++ ending_of true → CutsLock text place true
cut_locked text place e = record { parts = e; only = only }
  where
    only : (marked : Bool) (says : SaysLock text marked) → says.address ≡ place
    only true s = append_cancel_right s.address place (ending_of true) (sym s.parts ∙ e)
    only false s = absurd (place_last text place (subst IsListening (sym (s.parts ∙ append-nil s.address)) s.is_place) e)

pub cut_unlocked : (text : List ℕ) → ((front : List ℕ) → text ≡ front ++ ending_of true → ⊥) → CutsLock text text false
cut_unlocked text never = record { parts = sym (append-nil text); only = only }
  where
    only : (marked : Bool) (says : SaysLock text marked) → says.address ≡ text
    only true s = absurd (never s.address s.parts)
    only false s = sym (s.parts ∙ append-nil s.address)

pub unplaced : (text place : List ℕ) (lock : Bool) → CutsLock text place lock → (place ≡ nowhere → ⊥) → (IsAddress place → ⊥) → (marked : Bool) → SaysLock text marked → ⊥
unplaced text place lock c some never marked s = at (subst IsListening (c.only marked s) s.is_place)
  where
    at : IsListening place → ⊥
    at (inl is) = some is
    at (inr a) = never a

pub placed_nowhere : (text place : List ℕ) (lock : Bool) → CutsLock text place lock → place ≡ nowhere → SaysPlace text None lock
placed_nowhere text place lock c is = record { says = record { address = place; parts = c.parts; is_place = inl is }; is_there = is }

pub placed : (text place host : List ℕ) (port : ℕ) (lock : Bool) → CutsLock text place lock → SaysAddress place host port → SaysPlace text (Some (host, port)) lock
placed text place host port lock c a = record { says = record { address = place; parts = c.parts; is_place = inr a.is_address }; is_there = a }

pub unsplit : (bs : List ℕ) (r : Option (Bor (List ℕ) × Bor (List ℕ))) → IsSplitOnceResult 61 bs r → r ≡ None → (p : Peer) → NamesPeer bs p → ⊥
unsplit bs r h e p n = let k = split_after 61 bs n.title n.rest r h (lit< tt) n.parts n.first in rw e at k

-- what stands before the first =, and behind it
pub record First (bs title rest : List ℕ) : Type 0 where
  pub parts : bs ≡ title ++ 61 ∷ rest
  pub first : NoneIs 61 title
  pub only : (p : Peer) (n : NamesPeer bs p) → (title ≡ n.title) × (rest ≡ n.rest)

pub first_of : (bs : List ℕ) (r : Option (Bor (List ℕ) × Bor (List ℕ))) (title rest : Bor (List ℕ)) → IsSplitOnceResult 61 bs r → r ≡ Some (title, rest) → First bs title.now rest.now
first_of bs r title rest h e =
    let k = split_parts 61 bs r h (lit< tt) in
    let s : (bs ≡ title.now ++ (61 ∷ rest.now)) × NoneIs 61 title.now = rw e at k in
    record {
      parts = s.0;
      first = s.1;
      only = λ p n. let m = split_after 61 bs n.title n.rest r h (lit< tt) n.parts n.first in let (a, b) : (title.now ≡ n.title) × (rest.now ≡ n.rest) = rw e at m in (a, b);
    }

pub untitled : (bs title rest : List ℕ) → First bs title rest → ((ae : List ℕ) → SpellsAe title ae → ⊥) → (p : Peer) → NamesPeer bs p → ⊥
untitled bs title rest f never p n = never p.ae (subst (λ (t : List ℕ). SpellsAe t p.ae) (sym (f.only p n).0) n.spells)

pub unlockable : (bs title rest : List ℕ) → First bs title rest → ((lock : Bool) → SaysLock rest lock → ⊥) → (p : Peer) → NamesPeer bs p → ⊥
unlockable bs title rest f never p n = never p.lock (subst (λ (t : List ℕ). SaysLock t p.lock) (sym (f.only p n).1) n.says)

pub names : (bs title rest ae : List ℕ) (at : Option (List ℕ × ℕ)) (lock : Bool) → First bs title rest → SpellsAe title ae → SaysPlace rest at lock → NamesPlace bs record { ae = ae; lock = lock } at
names bs title rest ae at lock f spells place = record {
  names = record { title = title; rest = rest; parts = f.parts; first = f.first; spells = spells; says = place.says };
  is_there = place.is_there;
}

pub one_more : {P : Type 0} (Names : List ℕ → P → Type 0) (ws : List (List ℕ)) (ps : List P) (w : List ℕ) (p : P) → EachNames Names ws ps → Names w p → EachNames Names (ws ++ w ∷ []) (ps ++ p ∷ [])
one_more Names [] [] w p n is = (is, tt)
one_more Names [] (q ∷ ps) w p n is = absurd n
one_more Names (v ∷ ws) [] w p n is = absurd n
one_more Names (v ∷ ws) (q ∷ ps) w p n is = (n.0, one_more Names ws ps w p n.1 is)

abbrev texts : List (Bor (List ℕ)) → List (List ℕ)
texts words = map (λ (w : Bor (List ℕ)). w.now) words

pub one_further : {P : Type 0} (Names : List ℕ → P → Type 0) (words : List (Bor (List ℕ))) (i : ℕ) (d : Bor (List ℕ)) (ps after : List P) (p : P) → i < length words
    → EachNames Names (take i (map (λ (w : Bor (List ℕ)). w.now) words)) ps → Names (get_or words i d).now p → after ≡ ps ++ p ∷ [] → EachNames Names (take (i + 1) (map (λ (w : Bor (List ℕ)). w.now) words)) after
one_further {P} Names words i d ps after p l n is e =
    let short : i < length (texts words) = omega (arith, length-map words (λ (w : Bor (List ℕ)). w.now)) in
    let step : take (suc i) (texts words) ≡ take i (texts words) ++ get_or (texts words) i [] ∷ [] = take-suc (texts words) i [] short in
    let word : get_or (texts words) i [] ≡ (get_or words i d).now = get_or-map (λ (w : Bor (List ℕ)). w.now) words i d [] l in
    let whole : take (i + 1) (texts words) ≡ take i (texts words) ++ (get_or words i d).now ∷ [] = ap (λ n. take n (texts words)) (add-one i) ∙ step ∙ ap (λ w. take i (texts words) ++ w ∷ []) word in
    subst (λ (xs : List (List ℕ)). EachNames Names xs after) (sym whole)
    (subst (λ (qs : List P). EachNames Names (take i (texts words) ++ (get_or words i d).now ∷ []) qs) (sym e) (one_more Names (take i (texts words)) ps (get_or words i d).now p n is))

pub all_named : {P : Type 0} (Names : List ℕ → P → Type 0) (words : List (Bor (List ℕ))) (i : ℕ) (ps : List P) → length words ≤ i → EachNames Names (take i (map (λ (w : Bor (List ℕ)). w.now) words)) ps
    → EachNames Names (map (λ (w : Bor (List ℕ)). w.now) words) ps
all_named Names words i ps l n = subst (λ (xs : List (List ℕ)). EachNames Names xs ps) (take_all i (texts words) (omega (arith, length-map words (λ (w : Bor (List ℕ)). w.now)))) n

-- the words before the one at a place name peers
pub stops_here : (words : List (Bor (List ℕ))) (i : ℕ) (d : Bor (List ℕ)) (ps : List Peer) → i < length words → NamePeers (take i (map (λ (w : Bor (List ℕ)). w.now) words)) ps → is_twice ps ≡ false
    → StopsAt (map (λ (w : Bor (List ℕ)). w.now) words) (get_or words i d).now ps
stops_here words i d ps l n once =
    let short : i < length (texts words) = omega (arith, length-map words (λ (w : Bor (List ℕ)). w.now)) in
    let word : get_or (texts words) i [] ≡ (get_or words i d).now = get_or-map (λ (w : Bor (List ℕ)). w.now) words i d [] l in
    record {
      first = take i (texts words);
      more = drop (suc i) (texts words);
      parts = sym (take-append-drop i (texts words)) ∙ ap (λ l. take i (texts words) ++ l) (drop-cons (texts words) i [] short) ∙ ap (λ w. take i (texts words) ++ w ∷ drop (suc i) (texts words)) word;
      named = n;
      once = once;
    }

-- where words name things, each of the words names one
pub named_at : {P : Type 0} (Names : List ℕ → P → Type 0) (words : List (Bor (List ℕ))) (i : ℕ) (d : Bor (List ℕ)) (ps : List P) → i < length words → EachNames Names (map (λ (w : Bor (List ℕ)). w.now) words) ps
    → (p : P) × Names (get_or words i d).now p
named_at Names [] i d ps l n = absurd (omega (arith, l))
named_at Names (w ∷ words) i d [] l n = absurd n
named_at Names (w ∷ words) zero d (p ∷ ps) l n = (p, n.0)
named_at Names (w ∷ words) (suc i) d (p ∷ ps) l n = named_at Names words i d ps (omega (arith, l)) n.1

-- and there are as many of these
pub as_many : {P : Type 0} (Names : List ℕ → P → Type 0) (words : List (List ℕ)) (ps : List P) → EachNames Names words ps → length words ≡ length ps
as_many Names [] [] n = refl
as_many Names [] (p ∷ ps) n = absurd n
as_many Names (w ∷ words) [] n = absurd n
as_many Names (w ∷ words) (p ∷ ps) n = ap suc (as_many Names words ps n.1)
