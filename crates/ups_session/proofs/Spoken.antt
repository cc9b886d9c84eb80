-- What is said, PDU by PDU.
use Rattle.std.proofs.Common.{◌≡◌, ℕ, Bool, map, ◌+◌, ◌<◌, List, [], ◌∷◌, ◌++◌, length, take, drop, get_or, add-one, refl, sym, ap, subst, inl, inr, ◌∙◌, Result, Ok, Err, append_assoc, append-nil}
use Rattle.std.specs.List.{flat_map}
use Rattle.std.specs.Io.KnownBytes.{Appends}
use Rattle.std.proofs.KnownBytes.{Appends-nil, Appends-trans}
use Rattle.std.proofs.lemmas.List.{take-append-drop, map-append}
use Rattle.std.proofs.lemmas.Grind.{flat_map-append}
use Rattle.std.proofs.Math.Seq.{take-suc}
use Rattle.ups_life.specs.declared.request.Reply.{Reply}
use Rattle.ups_pdu.specs.declared.pdu.Pdu.{Pdu}
use Rattle.ups_pdu.specs.Written as pdus
use Rattle.ups_session.specs.declared.fault.SessionFault.{SessionFault}
use Rattle.ups_session.specs.declared.fault.SessionFault.TheVariants.{Memory}
use Rattle.ups_session.specs.declared.gate.GateCall.{GateCall}
use Rattle.ups_session.specs.declared.gate.GateCall.TheVariants.{Before, After}
use Rattle.ups_session.specs.Fold.{Asked, Visit, replied, wrote}
use Rattle.ups_session.specs.Session.{okay}
use Rattle.ups_session.specs.Tells.{Told, Tells}
use Rattle.ups_session.specs.WatchedIo.{Output}
use Rattle.ups_session.specs.Wire.{IsPrefix, Sent, pdu_bytes}
use Rattle.ups_session.specs.Visits.{calls_for, visit_ask, visit_moment, visit_reply, pdu_of, calls_of, asks_of, moments_of, replies_of, pdus_of, FallsShort, LeavesUnsent, Sends, SendsPdus}
use Rattle.ups_session.proofs.Telling.{Tells-nil, Tells-trans}

pub prefix_after : {X : Type 0} (front part all : List X) → IsPrefix part all → IsPrefix (front ++ part) (front ++ all)
prefix_after front part all (rest, e) = (rest, append_assoc front part rest ∙ ap (λ l. front ++ l) e)

pub prefix_of : {X : Type 0} (xs more : List X) → IsPrefix xs (xs ++ more)
prefix_of xs more = (more, refl)

pub prefix_trans : {X : Type 0} (xs ys zs : List X) → IsPrefix xs ys → IsPrefix ys zs → IsPrefix xs zs
prefix_trans xs ys zs (p, e) (q, f) = (p ++ q, sym (append_assoc xs p q) ∙ ap (λ l. l ++ q) e ∙ f)

pub calls-append : {A : Type 0} (front rest : List (Visit A)) → calls_of (front ++ rest) ≡ calls_of front ++ calls_of rest
calls-append front rest = flat_map-append calls_for front rest

pub asks-append : {A : Type 0} (front rest : List (Visit A)) → asks_of (front ++ rest) ≡ asks_of front ++ asks_of rest
asks-append front rest = flat_map-append visit_ask front rest

pub moments-append : {A : Type 0} (front rest : List (Visit A)) → moments_of (front ++ rest) ≡ moments_of front ++ moments_of rest
moments-append front rest = flat_map-append visit_moment front rest

pub replies-append : {A : Type 0} (front rest : List (Visit A)) → replies_of (front ++ rest) ≡ replies_of front ++ replies_of rest
replies-append front rest = flat_map-append visit_reply front rest

pub pdus-append : {A : Type 0} (front rest : List (Visit A)) → pdus_of (front ++ rest) ≡ pdus_of front ++ pdus_of rest
pdus-append front rest = flat_map-append pdu_of front rest

pdu_bytes-append : {A : Type 0} (front rest : List (Pdu A)) → pdu_bytes (front ++ rest) ≡ pdu_bytes front ++ pdu_bytes rest
pdu_bytes-append front rest = flat_map-append pdus.written_pdu front rest

pub bytes-append : {A : Type 0} (front rest : List (Visit A)) → pdu_bytes (pdus_of (front ++ rest)) ≡ pdu_bytes (pdus_of front) ++ pdu_bytes (pdus_of rest)
bytes-append front rest = ap pdu_bytes (pdus-append front rest) ∙ pdu_bytes-append (pdus_of front) (pdus_of rest)

-- behind PDUs that were sent
short_after : {A : Type 0} (front visits : List (Visit A)) (all sent : List ℕ) (fault : SessionFault) (failed : Bool) → all ≡ pdu_bytes (pdus_of front)
    → FallsShort fault failed visits sent → FallsShort fault failed (front ++ visits) (all ++ sent)
short_after {A} front visits all sent fault failed is_whole (inl (why, really, cut)) =
    let some : pdu_bytes (pdus_of (front ++ cut.front)) ≡ all ++ pdu_bytes (pdus_of cut.front) = bytes-append front cut.front ∙ ap (λ (l : List ℕ). l ++ pdu_bytes (pdus_of cut.front)) (sym is_whole) in
    inl (
      why,
      really,
      record {
        front = front ++ cut.front;
        pdu = cut.pdu;
        part = cut.part;
        last = ap (λ (l : List (Visit A)). front ++ l) cut.last ∙ sym (append_assoc front cut.front (wrote cut.pdu ∷ []));
        cut = cut.cut;
        bytes = ap (λ (l : List ℕ). all ++ l) cut.bytes ∙ sym (append_assoc all (pdu_bytes (pdus_of cut.front)) cut.part) ∙ ap (λ (l : List ℕ). l ++ cut.part) (sym some);
      },
    )
short_after front visits all sent fault failed is_whole (inr (why, is)) =
    inr (why, ap (λ (l : List ℕ). all ++ l) is ∙ ap (λ (l : List ℕ). l ++ pdu_bytes (pdus_of visits)) is_whole ∙ sym (bytes-append front visits))

unsent_after : {A : Type 0} (front visits due : List (Visit A)) → LeavesUnsent visits due → LeavesUnsent (front ++ visits) (front ++ due)
unsent_after {A} front visits due (unsent, e) = (unsent, append_assoc front visits (map wrote unsent) ∙ ap (λ (l : List (Visit A)). front ++ l) e)

abbrev pub whole : {Y : Type 0} → Y → Result Y SessionFault
whole y = Ok y

abbrev pub stopping : {Y : Type 0} → SessionFault → Result Y SessionFault
stopping e = Err e

-- all that was due was done, and then more
pub sends_on : {A Y Z : Type 0} (due visits more later : List (Visit A)) (sent then : List ℕ) (before failed : Bool) (y : Y) (r : Result Z SessionFault)
    → Sends due visits sent before (whole y) → Sends more later then failed r → Sends (due ++ more) (visits ++ later) (sent ++ then) failed r
sends_on {A} due visits more later sent then before failed y (Ok z) (is, all) (same, rest) = (
  ap (λ (l : List (Visit A)). l ++ later) is ∙ ap (λ (l : List (Visit A)). due ++ l) same,
  ap (λ (l : List ℕ). l ++ then) all ∙ ap (λ (l : List ℕ). pdu_bytes (pdus_of due) ++ l) rest ∙ sym (bytes-append due more),
)
sends_on {A} due visits more later sent then before failed y (Err e) (is, all) (first, short) = (
  subst (λ (l : List (Visit A)). LeavesUnsent (l ++ later) (due ++ more)) (sym is) (unsent_after due later more first),
  short_after visits later sent then e failed (all ∙ ap (λ (l : List (Visit A)). pdu_bytes (pdus_of l)) (sym is)) short,
)

-- not all of what was due was done, and so not all of more
sends_cut : {A : Type 0} (due visits : List (Visit A)) (more : List (Pdu A)) (sent : List ℕ) (failed : Bool) (e : SessionFault)
    → LeavesUnsent visits due × FallsShort e failed visits sent → LeavesUnsent visits (due ++ map wrote more) × FallsShort e failed visits sent
sends_cut {A} due visits more sent failed e ((unsent, is), short) = (
  (
    unsent ++ more,
    ap (λ (l : List (Visit A)). visits ++ l) (map-append wrote unsent more) ∙ sym (append_assoc visits (map wrote unsent) (map wrote more)) ∙ ap (λ (l : List (Visit A)). l ++ map wrote more) is,
  ),
  short,
)

-- the service gave a reply, and then this was done
pub sends_replied : {A Y : Type 0} (asked : Asked A) (moment : ℕ) (reply : Reply A) (due visits : List (Visit A)) (sent : List ℕ) (failed : Bool) (r : Result Y SessionFault)
    → Sends due visits sent failed r → Sends (replied asked moment reply ∷ due) (replied asked moment reply ∷ visits) sent failed r
sends_replied {A} asked moment reply due visits sent failed (Ok y) (is, all) = (ap (λ (l : List (Visit A)). replied asked moment reply ∷ l) is, all)
sends_replied {A} asked moment reply due visits sent failed (Err e) ((unsent, is), inl (why, really, cut)) = (
  (unsent, ap (λ (l : List (Visit A)). replied asked moment reply ∷ l) is),
  inl (
    why,
    really,
    record {
      front = replied asked moment reply ∷ cut.front;
      pdu = cut.pdu;
      part = cut.part;
      last = ap (λ (l : List (Visit A)). replied asked moment reply ∷ l) cut.last;
      cut = cut.cut;
      bytes = cut.bytes;
    },
  ),
)
sends_replied {A} asked moment reply due visits sent failed (Err e) ((unsent, is), inr (why, all)) = ((unsent, ap (λ (l : List (Visit A)). replied asked moment reply ∷ l) is), inr (why, all))

pub says_nothing : {A : Type 0} (o : Output) (t : Told) → SendsPdus {A = A} [] o o t t okay
says_nothing o t = record { visits = []; sent = []; timeless = refl; writes = Appends-nil o.written; tells = Tells-nil t; sends = (refl, refl) }

-- memory ran out before anything was said
pub says_lost : {A Y : Type 0} (said : List (Pdu A)) (o : Output) (t : Told) → SendsPdus said o o t t (stopping {Y = Y} Memory)
says_lost said o t = record { visits = []; sent = []; timeless = refl; writes = Appends-nil o.written; tells = Tells-nil t; sends = ((said, refl), inr (refl, refl)) }

sends_one : {A Y : Type 0} (pdu : Pdu A) (bytes sent : List ℕ) (failed : Bool) (r : Result Y SessionFault) → bytes ≡ pdus.written_pdu pdu → Sent bytes sent failed r → Sends (wrote pdu ∷ []) (wrote pdu ∷ []) sent failed r
sends_one pdu bytes sent failed (Ok y) is all = (refl, all ∙ is ∙ sym (append-nil (pdus.written_pdu pdu)))
sends_one pdu bytes sent failed (Err e) is (why, really, (rest, some, part)) =
    (([], refl), inl (why, really, record { front = []; pdu = pdu; part = sent; last = refl; cut = (rest, some, part ∙ is); bytes = refl }))

-- one PDU was written between two calls
pub says_one : {A Y : Type 0} (pdu : Pdu A) (o p : Output) (t v : Told) (bytes sent : List ℕ) (r : Result Y SessionFault) → bytes ≡ pdus.written_pdu pdu → Appends o.written p.written sent → Sent bytes sent p.failed r
    → Tells t v (Before ∷ After ∷ []) → SendsPdus (pdu ∷ []) o p t v r
says_one pdu o p t v bytes sent r is writes all told = record {
  visits = wrote pdu ∷ [];
  sent = sent;
  timeless = refl;
  writes = writes;
  tells = told;
  sends = sends_one pdu bytes sent p.failed r is all;
}

-- some PDUs were said, and then more
pub says_then : {A Y Z : Type 0} (said more : List (Pdu A)) (o p q : Output) (t u v : Told) (y : Y) (r : Result Z SessionFault) → SendsPdus said o p t u (whole y) → SendsPdus more p q u v r → SendsPdus (said ++ more) o q t v r
says_then {A} said more o p q t u v y r g h = record {
  visits = g.visits ++ h.visits;
  sent = g.sent ++ h.sent;
  timeless = moments-append g.visits h.visits ∙ ap (λ l. l ++ moments_of h.visits) g.timeless ∙ h.timeless;
  writes = Appends-trans o.written p.written q.written g.sent h.sent g.writes h.writes;
  tells = subst (λ (l : List GateCall). Tells t v l) (sym (calls-append g.visits h.visits)) (Tells-trans t u v (calls_of g.visits) (calls_of h.visits) g.tells h.tells);
  sends = subst (λ (l : List (Visit A)). Sends l (g.visits ++ h.visits) (g.sent ++ h.sent) q.failed r) (sym (map-append wrote said more))
      (sends_on (map wrote said) g.visits (map wrote more) h.visits g.sent h.sent p.failed q.failed y r g.sends h.sends);
}

-- not all of some PDUs was said, and so not all of more
pub says_cut : {A Y Z : Type 0} (said more : List (Pdu A)) (o p : Output) (t u : Told) (e : SessionFault) → SendsPdus said o p t u (stopping {Y = Y} e) → SendsPdus (said ++ more) o p t u (stopping {Y = Z} e)
says_cut {A} said more o p t u e g = record {
  visits = g.visits;
  sent = g.sent;
  timeless = g.timeless;
  writes = g.writes;
  tells = g.tells;
  sends = subst (λ (l : List (Visit A)). LeavesUnsent g.visits l × FallsShort e p.failed g.visits g.sent) (sym (map-append wrote said more)) (sends_cut (map wrote said) g.visits more g.sent p.failed e g.sends);
}

more : {X : Type 0} (xs : List X) (i : ℕ) (x : X) → i < length xs → x ≡ get_or xs i x → take (i + 1) xs ≡ take i xs ++ x ∷ []
more xs i x h is = rw (add-one i) (take-suc xs i x h) ∙ ap (λ y. take i xs ++ y ∷ []) (sym is)

each_next : {A X : Type 0} (f : X → List (Pdu A)) (xs : List X) (i : ℕ) (x : X) → i < length xs → x ≡ get_or xs i x → flat_map f (take (i + 1) xs) ≡ flat_map f (take i xs) ++ f x
each_next f xs i x h is = ap (flat_map f) (more xs i x h is) ∙ flat_map-append f (take i xs) (x ∷ []) ∙ ap (λ l. flat_map f (take i xs) ++ l) (append-nil (f x))

each_front : {A X : Type 0} (f : X → List (Pdu A)) (xs : List X) (i : ℕ) → flat_map f (take i xs) ++ flat_map f (drop i xs) ≡ flat_map f xs
each_front f xs i = sym (flat_map-append f (take i xs) (drop i xs)) ∙ ap (flat_map f) (take-append-drop i xs)

-- what is said of each of a list: of the next one after the first i
pub each_step : {A X : Type 0} (f : X → List (Pdu A)) (xs : List X) (i : ℕ) (x : X) (o p q : Output) (t u v : Told) → i < length xs → x ≡ get_or xs i x
    → SendsPdus (flat_map f (take i xs)) o p t u okay → SendsPdus (f x) p q u v okay → SendsPdus (flat_map f (take (i + 1) xs)) o q t v okay
each_step {A} f xs i x o p q t u v h is g then =
    subst (λ (l : List (Pdu A)). SendsPdus l o q t v okay) (sym (each_next f xs i x h is)) (says_then (flat_map f (take i xs)) (f x) o p q t u v tt okay g then)

-- not all of what is said of the next one was said
pub each_stop : {A X Y : Type 0} (f : X → List (Pdu A)) (xs : List X) (i : ℕ) (x : X) (o p q : Output) (t u v : Told) (e : SessionFault) → i < length xs → x ≡ get_or xs i x
    → SendsPdus (flat_map f (take i xs)) o p t u okay → SendsPdus (f x) p q u v (stopping {Y = Y} e) → SendsPdus (flat_map f xs) o q t v (stopping {Y = Y} e)
each_stop {A} {X} {Y} f xs i x o p q t u v e h is g then =
    let some = says_then (flat_map f (take i xs)) (f x) o p q t u v tt (stopping {Y = Y} e) g then in
    let first : SendsPdus (flat_map f (take (i + 1) xs)) o q t v (stopping {Y = Y} e) = subst (λ (l : List (Pdu A)). SendsPdus l o q t v (stopping {Y = Y} e)) (sym (each_next f xs i x h is)) some in
    subst (λ (l : List (Pdu A)). SendsPdus l o q t v (stopping {Y = Y} e)) (each_front f xs (i + 1)) (says_cut {Y = Y} {Z = Y} (flat_map f (take (i + 1) xs)) (flat_map f (drop (i + 1) xs)) o q t v e first)

-- of PDUs, each said by itself
pub pdus_step : {A : Type 0} (said : List (Pdu A)) (i : ℕ) (pdu : Pdu A) (o p q : Output) (t u v : Told) → i < length said → pdu ≡ get_or said i pdu
    → SendsPdus (take i said) o p t u okay → SendsPdus (pdu ∷ []) p q u v okay → SendsPdus (take (i + 1) said) o q t v okay
pdus_step {A} said i pdu o p q t u v h is g then =
    subst (λ (l : List (Pdu A)). SendsPdus l o q t v okay) (sym (more said i pdu h is)) (says_then (take i said) (pdu ∷ []) o p q t u v tt okay g then)

pub pdus_stop : {A Y : Type 0} (said : List (Pdu A)) (i : ℕ) (pdu : Pdu A) (o p q : Output) (t u v : Told) (e : SessionFault) → i < length said → pdu ≡ get_or said i pdu
    → SendsPdus (take i said) o p t u okay → SendsPdus (pdu ∷ []) p q u v (stopping {Y = Y} e) → SendsPdus said o q t v (stopping {Y = Y} e)
pdus_stop {A} {Y} said i pdu o p q t u v e h is g then =
    let some = says_then (take i said) (pdu ∷ []) o p q t u v tt (stopping {Y = Y} e) g then in
    let first : SendsPdus (take (i + 1) said) o q t v (stopping {Y = Y} e) = subst (λ (l : List (Pdu A)). SendsPdus l o q t v (stopping {Y = Y} e)) (sym (more said i pdu h is)) some in
    subst (λ (l : List (Pdu A)). SendsPdus l o q t v (stopping {Y = Y} e)) (take-append-drop (i + 1) said) (says_cut {Y = Y} {Z = Y} (take (i + 1) said) (drop (i + 1) said) o q t v e first)
