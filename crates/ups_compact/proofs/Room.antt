-- What is compacted is legal: as many acknowledgements at least were dropped as are put behind it.
use Rattle.std.proofs.Common.{◌≡◌, ℕ, suc, ◌+◌, ◌<◌, ◌≤◌, Bool, true, false, ◌||◌, cond, List, [], ◌∷◌, length, Option, None, Some, refl, sym, ap, subst, ◌∙◌, arith}
use Rattle.std.specs.Prelude.{nat_lt, nat_le, is_some}
use Rattle.std.specs.Str.{bytes_eq}
use Rattle.std.proofs.lemmas.Bool.Decides.{nat_tests}
use Rattle.std.proofs.lemmas.List.{append-nil}
use Rattle.ups_cycle.specs.declared.status.Status.TheVariants.{Success}
use Rattle.ups_life.specs.declared.entry.Entry.{Entry}
use Rattle.ups_life.specs.declared.event.Event.{Event}
use Rattle.ups_life.specs.declared.peer.Peer.{Peer}
use Rattle.ups_life.specs.declared.request.Reply.{Reply}
use Rattle.ups_life.specs.declared.request.Reply.TheVariants.{Status as Answered, AckAhead, AckStale}
use Rattle.ups_life.specs.Settings.{Settings}
use Rattle.ups_life.specs.Watching.{is_peer}
use Rattle.ups_life.specs.Events.{events, acked}
use Rattle.ups_life.specs.History.{accepts, acknowledged, decided, in_room, reply, legal}
use Rattle.ups_life.proofs.Texts.{same_text, text_is_itself}
use Rattle.ups_life.proofs.Accepted.{neither, differ}
use Rattle.ups_compact.specs.Compacting.{with_ack, with_acks, has_title_twice}
use Rattle.ups_compact.proofs.Accepting.{had_room, has_room, both, join}
use Rattle.ups_compact.proofs.Acked.{ack}

-- HOW MANY PEERS

-- how many of these titles pass a test
abbrev pub count : (List ℕ → Bool) → List Peer → ℕ
count p [] = 0
count p (x ∷ xs) = cond (p x.ae) (count p xs + 1) (count p xs)

more : (b c : Bool) → (b ≡ true → c ≡ true) → (n m : ℕ) → n ≤ m → cond b (n + 1) n ≤ cond c (m + 1) m
more true true h n m low = omega (arith, low)
more true false h n m low = let bad : false ≡ true = h refl in absurd cc
more false true h n m low = omega (arith, low)
more false false h n m low = low

pub count_more : (p q : List ℕ → Bool) → ((w : List ℕ) → p w ≡ true → q w ≡ true) → (ps : List Peer) → count p ps ≤ count q ps
count_more p q h [] = omega arith
count_more p q h (x ∷ xs) = more (p x.ae) (q x.ae) (h x.ae) (count p xs) (count q xs) (count_more p q h xs)

-- who has acknowledged some event
abbrev pub has_acked : {A : Type 0} → List (Entry A) → List ℕ → Bool
has_acked es w = nat_lt 0 (acked es w)

-- after an acknowledgement of ae
abbrev acked_then : List ℕ → ℕ → (List ℕ → ℕ) → List ℕ → Bool
acked_then ae n before w = nat_lt 0 (cond (bytes_eq ae w) n (before w))

apart : (u v : List ℕ) → bytes_eq u v ≡ false → bytes_eq v u ≡ false
apart u v h = at (bytes_eq v u) refl
  where
    at : (b : Bool) → bytes_eq v u ≡ b → b ≡ false
    at true is = absurd (differ (bytes_eq u v) h (ap (λ (x : List ℕ). bytes_eq u x) (same_text v u is) ∙ text_is_itself u))
    at false is = refl

none_more : (ae : List ℕ) (n : ℕ) (before : List ℕ → ℕ) (ps : List Peer) → is_peer ps ae ≡ false → count (acked_then ae n before) ps ≡ count (λ w. nat_lt 0 (before w)) ps
none_more ae n before [] h = refl
none_more ae n before (p ∷ ps) h =
    let none = neither (bytes_eq p.ae ae) (is_peer ps ae) h in
    ap (λ (b : Bool). cond (nat_lt 0 (cond b n (before p.ae))) (count (acked_then ae n before) ps + 1) (count (acked_then ae n before) ps)) (apart p.ae ae none.0)
    ∙ ap (λ (k : ℕ). cond (nat_lt 0 (before p.ae)) (k + 1) k) (none_more ae n before ps none.1)

pub one_more : (ae : List ℕ) (n : ℕ) (before : List ℕ → ℕ) (ps : List Peer) → has_title_twice ps ≡ false → count (acked_then ae n before) ps ≤ count (λ w. nat_lt 0 (before w)) ps + 1
one_more ae n before [] once = omega arith
one_more ae n before (p ∷ ps) once = at (bytes_eq ae p.ae) refl (one_more ae n before ps alone.1)
  where
    alone : (is_peer ps p.ae ≡ false) × (has_title_twice ps ≡ false)
    alone = neither (is_peer ps p.ae) (has_title_twice ps) once

    at_most : (b c : Bool) (k : ℕ) → cond b (k + 1) k ≤ cond c (k + 1) k + 1
    at_most true true k = omega arith
    at_most true false k = omega arith
    at_most false true k = omega arith
    at_most false false k = omega arith

    too : (b : Bool) (k m : ℕ) → k ≤ m + 1 → cond b (k + 1) k ≤ cond b (m + 1) m + 1
    too true k m low = omega (arith, low)
    too false k m low = low

    at : (b : Bool) → bytes_eq ae p.ae ≡ b → count (acked_then ae n before) ps ≤ count (λ w. nat_lt 0 (before w)) ps + 1
        → cond (nat_lt 0 (cond b n (before p.ae))) (count (acked_then ae n before) ps + 1) (count (acked_then ae n before) ps) ≤ cond (nat_lt 0 (before p.ae)) (count (λ w. nat_lt 0 (before w)) ps + 1) (count (λ w. nat_lt 0 (before w)) ps) + 1
    at true is rest =
        let same = none_more ae n before ps (ap (λ (v : List ℕ). is_peer ps v) (same_text ae p.ae is) ∙ alone.0) in
        subst (λ (k : ℕ). cond (nat_lt 0 n) (k + 1) k ≤ cond (nat_lt 0 (before p.ae)) (count (λ w. nat_lt 0 (before w)) ps + 1) (count (λ w. nat_lt 0 (before w)) ps) + 1) (sym same)
        (at_most (nat_lt 0 n) (nat_lt 0 (before p.ae)) (count (λ w. nat_lt 0 (before w)) ps))
    at false is rest = too (nat_lt 0 (before p.ae)) (count (acked_then ae n before) ps) (count (λ w. nat_lt 0 (before w)) ps) rest

pub none_has : (A : Type 0) (ps : List Peer) → count (has_acked {A = A} []) ps ≡ 0
none_has A [] = refl
none_has A (p ∷ ps) = none_has A ps

-- WHO ACKNOWLEDGES HAS DONE SO BEFORE

-- a legal history is within its limit
pub within_limit : {A : Type 0} (s : Settings) (es : List (Entry A)) → legal s es ≡ true → length es ≤ s.limit
within_limit s [] l = omega arith
within_limit s (e ∷ es) l =
    let h = both (accepts (reply s es e)) (legal s es) l in
    below (length es) s.limit (had_room (accepts (decided s es e e.request)) (nat_lt (length es) s.limit) (decided s es e e.request) refl h.0).1
  where
    below : (n m : ℕ) → nat_lt n m ≡ true → suc n ≤ m
    below n m h = grind (arith, nat_tests)

-- EACH ACKNOWLEDGEMENT IS ACCEPTED

abbrev done : (A : Type 0) → Reply A
done A = Answered Success

acceptable : (A : Type 0) (made before n : ℕ) → before ≡ 0 → n ≤ made → 0 < n → acknowledged made before n ≡ done A
acceptable A made before n none low some = at (nat_lt made n) refl (nat_le n before) refl
  where
    at : (b : Bool) → nat_lt made n ≡ b → (c : Bool) → nat_le n before ≡ c → cond b AckAhead (cond c AckStale (done A)) ≡ done A
    at true ahead c stale = absurd (grind (arith, nat_tests, ahead, low))
    at false ahead true stale = absurd (grind (arith, nat_tests, stale, none, some))
    at false ahead false stale = refl

accepted_ack : {A : Type 0} (caller moment : ℕ) (s : Settings) (es : List (Entry A)) (w : List ℕ) (n : ℕ) → legal s es ≡ true → acked es w ≡ 0 → n ≤ length (events s es w) → 0 < n → length es < s.limit
    → legal s (ack caller moment w n ∷ es) ≡ true
accepted_ack {A} caller moment s es w n l none low some room =
    join (accepts (in_room s es (acknowledged (length (events s es w)) (acked es w) n))) (legal s es)
    (ap (λ (x : Reply A). accepts (in_room s es x)) (acceptable A (length (events s es w)) (acked es w) n none low some)
    ∙ has_room true (nat_lt (length es) s.limit) (done A) refl refl (free (length es) s.limit room))
    l
  where
    free : (n m : ℕ) → n < m → nat_lt n m ≡ true
    free n m h = grind (arith, nat_tests)

or_true : (b : Bool) → b || true ≡ true
or_true true = refl
or_true false = refl

abbrev pub Can : {A : Type 0} → Settings → List (Entry A) → (List ℕ → Option ℕ) → Type 0
Can s es number = (w : List ℕ) (n : ℕ) → number w ≡ Some n → (n ≤ length (events s es w)) × (0 < n)

-- after the acknowledgement of p those of the peers behind it
pub legal_acks : {A : Type 0} (caller moment : ℕ) (s : Settings) (number : List ℕ → Option ℕ) (ps : List Peer) (es : List (Entry A)) → has_title_twice ps ≡ false → legal s es ≡ true → Can s es number
    → ((w : List ℕ) → is_peer ps w ≡ true → acked es w ≡ 0) → length es + count (λ w. is_some (number w)) ps ≤ s.limit → legal s (with_acks caller moment number ps es) ≡ true
legal_acks caller moment s number [] es once l can none room = l
legal_acks {A} caller moment s number (p ∷ ps) es once l can none room =
    at (number p.ae) refl room (λ next. legal_acks caller moment s number ps next alone.1)
  where
    alone : (is_peer ps p.ae ≡ false) × (has_title_twice ps ≡ false)
    alone = neither (is_peer ps p.ae) (has_title_twice ps) once

    other : (w : List ℕ) → is_peer ps w ≡ true → bytes_eq p.ae w ≡ false
    other w there = by (bytes_eq p.ae w) refl
      where
        by : (b : Bool) → bytes_eq p.ae w ≡ b → b ≡ false
        by true is = absurd (differ (is_peer ps p.ae) alone.0 (ap (λ (v : List ℕ). is_peer ps v) (same_text p.ae w is) ∙ there))
        by false is = refl

    at : (o : Option ℕ) → number p.ae ≡ o → length es + cond (is_some o) (count (λ w. is_some (number w)) ps + 1) (count (λ w. is_some (number w)) ps) ≤ s.limit
        → ((next : List (Entry A)) → legal s next ≡ true → Can s next number → ((w : List ℕ) → is_peer ps w ≡ true → acked next w ≡ 0) → length next + count (λ w. is_some (number w)) ps ≤ s.limit → legal s (with_acks caller moment number ps next) ≡ true)
        → legal s (with_acks caller moment number ps (with_ack caller moment p.ae o es)) ≡ true
    at None is enough later = later es l can (λ w there. none w (ap (λ (b : Bool). bytes_eq p.ae w || b) there ∙ or_true (bytes_eq p.ae w))) enough
    at (Some n) is enough later =
        let own = can p.ae n is in
        later (ack caller moment p.ae n ∷ es)
        (accepted_ack caller moment s es p.ae n l (none p.ae (ap (λ (b : Bool). b || is_peer ps p.ae) (text_is_itself p.ae))) own.0 own.1 (omega (arith, enough)))
        (λ w m h. (subst (λ (xs : List Event). m ≤ length xs) (sym (append-nil (events s es w))) (can w m h).0, (can w m h).1))
        (λ w there. ap (λ (b : Bool). cond b n (acked es w)) (other w there) ∙ none w (ap (λ (b : Bool). bytes_eq p.ae w || b) there ∙ or_true (bytes_eq p.ae w)))
        (omega (arith, enough))

pub length_acks : {A : Type 0} (caller moment : ℕ) (number : List ℕ → Option ℕ) (ps : List Peer) (es : List (Entry A)) → length (with_acks caller moment number ps es) ≡ length es + count (λ w. is_some (number w)) ps
length_acks caller moment number [] es = omega arith
length_acks {A} caller moment number (p ∷ ps) es = length_acks caller moment number ps (with_ack caller moment p.ae (number p.ae) es) ∙ at (number p.ae)
  where
    at : (o : Option ℕ) → length (with_ack caller moment p.ae o es) + count (λ w. is_some (number w)) ps ≡ length es + cond (is_some o) (count (λ w. is_some (number w)) ps + 1) (count (λ w. is_some (number w)) ps)
    at None = refl
    at (Some n) = omega arith
