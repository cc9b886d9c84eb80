-- The world between two of the things that a session does.
use Rattle.std.proofs.Common.{◌≡◌, ℕ, Bool, true, false, List, [], ◌∷◌, ◌++◌, map, Option, None, Some, Result, Ok, Err, ◌⊎◌, inl, inr, refl, sym, ap, ◌∙◌, subst, append_assoc, append-nil}
use Rattle.std.specs.Io.KnownBytes.{Appends}
use Rattle.ups_life.specs.Settings.{Settings}
use Rattle.ups_pdu.specs.declared.pdu.Pdu.{Pdu}
use Rattle.ups_pdu.specs.Written.{written_pdu}
use Rattle.ups_service.specs.Law.{Others, Seen}
use Rattle.ups_session.specs.declared.fault.SessionFault.{SessionFault}
use Rattle.ups_session.specs.declared.gate.GateCall.{GateCall}
use Rattle.ups_session.specs.Fold.{Visit, replied, wrote}
use Rattle.ups_session.specs.Tells.{Told, AreAlways, Tells}
use Rattle.ups_session.specs.Visits.{calls_of, asks_of, moments_of, replies_of, pdus_of, IsCutShort, LeavesUnsent, Sends}
use Rattle.ups_session.specs.Wire.{IsPrefix, IsCut, pdu_bytes}
use Rattle.ups_session.specs.World.{World, world, ServesAll, Changes}
use Rattle.ups_session.proofs.Spoken.{calls-append, asks-append, replies-append, pdus-append, bytes-append}
use Rattle.ups_session.proofs.Telling.{Tells-nil, Tells-trans}

always_first : (m : Option ℕ) (x : GateCall) (ys : List GateCall) → AreAlways m (x ∷ ys) → AreAlways m (x ∷ [])
always_first None x ys p = tt
always_first (Some m) x ys p = (p.0, tt)

always_rest : (m : Option ℕ) (x : GateCall) (ys : List GateCall) → AreAlways m (x ∷ ys) → AreAlways m ys
always_rest None x ys p = tt
always_rest (Some m) x ys p = p.1

untrue : {X : Type 0} → true ≡ false → X
untrue e = absurd cc

empty_not : {X Y : Type 0} (y : Y) (ys : List Y) → [] ≡ y ∷ ys → X
empty_not y ys e = absurd cc

head_is : {Y : Type 0} (x y : Y) (xs ys : List Y) → x ∷ xs ≡ y ∷ ys → x ≡ y
head_is x y xs ys e = cc

tail_is : {Y : Type 0} (x y : Y) (xs ys : List Y) → x ∷ xs ≡ y ∷ ys → xs ≡ ys
tail_is x y xs ys e = cc

told_first : (a c : Told) (x : GateCall) (ys more : List GateCall) (all : Bool) → a.all ≡ all → c.calls ≡ a.calls ++ more → IsPrefix more (x ∷ ys) → (c.all ≡ true → (a.all ≡ true) × (more ≡ x ∷ ys)) → (a.all ≡ false → more ≡ [])
    → c.always ≡ a.always → AreAlways a.always (x ∷ ys) → (b : Told) × Tells a b (x ∷ []) × Tells b c ys
told_first a c x ys [] all is stays first every silent same always = (
  record { calls = a.calls; all = false; always = a.always },
  record {
    more = [];
    stays = sym (append-nil a.calls);
    first = (x ∷ [], refl);
    every = λ e. untrue (sym e);
    silent = λ e. refl;
    same = refl;
    always = always_first a.always x ys always;
  },
  record {
    more = [];
    stays = stays;
    first = (ys, refl);
    every = λ e. empty_not x ys (every e).1;
    silent = λ e. refl;
    same = same;
    always = always_rest a.always x ys always;
  },
)
told_first a c x ys (m ∷ ms) false is stays first every silent same always = empty_not m ms (sym (silent is))
told_first a c x ys (m ∷ ms) true is stays (rest, e) every silent same always = (
  record { calls = a.calls ++ x ∷ []; all = true; always = a.always },
  record {
    more = x ∷ [];
    stays = refl;
    first = ([], refl);
    every = λ f. (is, refl);
    silent = λ f. untrue (sym is ∙ f);
    same = refl;
    always = always_first a.always x ys always;
  },
  record {
    more = ms;
    stays = stays ∙ ap (λ (y : GateCall). a.calls ++ y ∷ ms) (head_is m x (ms ++ rest) ys e) ∙ sym (append_assoc a.calls (x ∷ []) ms);
    first = (rest, tail_is m x (ms ++ rest) ys e);
    every = λ f. (refl, tail_is m x ms ys (every f).1);
    silent = λ f. untrue f;
    same = same;
    always = always_rest a.always x ys always;
  },
)

-- what a gate told between these calls
told_between : (a c : Told) (xs ys : List GateCall) → Tells a c (xs ++ ys) → (b : Told) × Tells a b xs × Tells b c ys
told_between a c [] ys t = (a, Tells-nil a, t)
told_between a c (x ∷ xs) ys t =
    let (b, first, rest) = told_first a c x (xs ++ ys) t.more a.all refl t.stays t.first t.every t.silent t.same t.always in
    let (d, more, last) = told_between b c xs ys rest in
    (d, Tells-trans a b d (x ∷ []) xs first more, last)

-- what was written between these bytes
written_between : (old new : Option (List ℕ)) (xs ys : List ℕ) → Appends old new (xs ++ ys) → (mid : Option (List ℕ)) × Appends old mid xs × Appends mid new ys
written_between None new xs ys p = (None, tt, tt)
written_between (Some o) None xs ys p = absurd p
written_between (Some o) (Some n) xs ys p = (Some (o ++ xs), refl, p ∙ sym (append_assoc o xs ys))

-- what the service had seen between these visits
seen_between : {A : Type 0} (s : Settings) (o : Others) (c : ℕ) (seen after : Seen A) (front rest : List (Visit A)) → ServesAll s o c seen (asks_of (front ++ rest)) (moments_of (front ++ rest)) (replies_of (front ++ rest)) after
    → (between : Seen A) × ServesAll s o c seen (asks_of front) (moments_of front) (replies_of front) between × ServesAll s o c between (asks_of rest) (moments_of rest) (replies_of rest) after
seen_between s o c seen after [] rest p = (seen, refl, p)
seen_between s o c seen after (wrote pdu ∷ front) rest p = seen_between s o c seen after front rest p
seen_between s o c seen after (replied asked moment reply ∷ front) rest (then, serves, p) =
    let (between, first, last) = seen_between s o c then after front rest p in
    (between, (then, serves, first), last)

pub parted : {A : Type 0} (front rest : List (Visit A)) (sent more : List ℕ) (old new : World A) → Changes (front ++ rest) (sent ++ more) old new → (between : World A) × Changes front sent old between × Changes rest more between new
parted {A} front rest sent more old new c =
    let (told, telling, tells) = told_between old.told new.told (calls_of front) (calls_of rest) (subst (λ (l : List GateCall). Tells old.told new.told l) (calls-append front rest) c.tells) in
    let (written, writing, writes) = written_between old.output.written new.output.written sent more c.writes in
    let (seen, calling, calls) = seen_between old.settings old.others old.caller old.seen new.seen front rest c.calls in (
      world (record { written = written; failed = old.output.failed }) told old.settings old.others old.caller seen,
      record { settings = refl; others = refl; caller = refl; writes = writing; tells = telling; calls = calling },
      record { settings = c.settings; others = c.others; caller = c.caller; writes = writes; tells = tells; calls = calls },
    )

-- what comes before the last has all that comes before another
front_of : {Y : Type 0} (xs zs us : List Y) (y w : Y) → xs ++ y ∷ zs ≡ us ++ w ∷ [] → (vs : List Y) × (us ≡ xs ++ vs)
front_of [] zs us y w e = (us, refl)
front_of {Y} (x ∷ xs) zs [] y w e = absurd (some_left xs (tail_is x w (xs ++ y ∷ zs) [] e))
  where
    some_left : (l : List Y) → l ++ y ∷ zs ≡ [] → ⊥
    some_left [] f = empty_not y zs (sym f)
    some_left (m ∷ l) f = empty_not m (l ++ y ∷ zs) (sym f)
front_of {Y} (x ∷ xs) zs (u ∷ us) y w e =
    let (vs, is) = front_of xs zs us y w (tail_is x u (xs ++ y ∷ zs) (us ++ w ∷ []) e) in
    (vs, ap (λ (h : Y). h ∷ us) (sym (head_is x u (xs ++ y ∷ zs) (us ++ w ∷ []) e)) ∙ ap (λ (l : List Y). x ∷ l) is)

-- before a PDU each earlier one was written whole
whole_before : {A X : Type 0} (due visits front rest : List (Visit A)) (pdu : Pdu A) (sent : List ℕ) (failed : Bool) (r : Result X SessionFault) → Sends due visits sent failed r → visits ≡ front ++ wrote pdu ∷ rest
    → (more : List ℕ) × (sent ≡ pdu_bytes (pdus_of front) ++ more)
whole_before {A} due visits front rest pdu sent failed (Ok x) (is, all) parts =
    (pdu_bytes (pdus_of (wrote pdu ∷ rest)), all ∙ ap (λ (l : List (Visit A)). pdu_bytes (pdus_of l)) (sym is ∙ parts) ∙ bytes-append front (wrote pdu ∷ rest))
whole_before {A} due visits front rest pdu sent failed (Err fault) (left, inl (why, really, cut)) parts =
    let (behind, is) = front_of front rest cut.front (wrote pdu) (wrote cut.pdu) (sym parts ∙ cut.last) in (
      pdu_bytes (pdus_of behind) ++ cut.part,
      cut.bytes ∙ ap (λ (l : List ℕ). l ++ cut.part) (ap (λ (l : List (Visit A)). pdu_bytes (pdus_of l)) is ∙ bytes-append front behind) ∙ append_assoc (pdu_bytes (pdus_of front)) (pdu_bytes (pdus_of behind)) cut.part,
    )
whole_before {A} due visits front rest pdu sent failed (Err fault) (left, inr (why, all)) parts =
    (pdu_bytes (pdus_of (wrote pdu ∷ rest)), all ∙ ap (λ (l : List (Visit A)). pdu_bytes (pdus_of l)) parts ∙ bytes-append front (wrote pdu ∷ rest))

-- the world before a PDU is written
pub before_pdu : {A X : Type 0} (due visits front rest : List (Visit A)) (pdu : Pdu A) (sent : List ℕ) (old new : World A) (r : Result X SessionFault) → Changes visits sent old new → Sends due visits sent new.output.failed r → visits ≡ front ++ wrote pdu ∷ rest
    → (between : World A) × (more : List ℕ) × (sent ≡ pdu_bytes (pdus_of front) ++ more) × Changes front (pdu_bytes (pdus_of front)) old between × Changes (wrote pdu ∷ rest) more between new
before_pdu {A} due visits front rest pdu sent old new r c sends parts =
    let (more, bytes) = whole_before due visits front rest pdu sent new.output.failed r sends parts in
    let same : Changes (front ++ wrote pdu ∷ rest) (pdu_bytes (pdus_of front) ++ more) old new =
    subst (λ (l : List ℕ). Changes (front ++ wrote pdu ∷ rest) l old new) bytes (subst (λ (l : List (Visit A)). Changes l sent old new) parts c) in
    let (between, first, then) = parted front (wrote pdu ∷ rest) (pdu_bytes (pdus_of front)) more old new same in
    (between, more, bytes, first, then)

-- what was left undone: PDUs, and nothing else

none_asked : {A : Type 0} (said : List (Pdu A)) → asks_of (map wrote said) ≡ []
none_asked [] = refl
none_asked (pdu ∷ said) = none_asked said

none_replied : {A : Type 0} (said : List (Pdu A)) → replies_of (map wrote said) ≡ []
none_replied [] = refl
none_replied (pdu ∷ said) = none_replied said

all_written : {A : Type 0} (said : List (Pdu A)) → pdus_of (map wrote said) ≡ said
all_written [] = refl
all_written {A} (pdu ∷ said) = ap (λ (l : List (Pdu A)). pdu ∷ l) (all_written said)

left_unsent : {A : Type 0} (due visits : List (Visit A)) → LeavesUnsent visits due → (asks_of visits ≡ asks_of due) × (replies_of visits ≡ replies_of due) × IsPrefix (pdus_of visits) (pdus_of due)
left_unsent {A} due visits (unsent, is) = (
  sym (append-nil (asks_of visits)) ∙ ap (λ l. asks_of visits ++ l) (sym (none_asked unsent)) ∙ sym (asks-append visits (map wrote unsent)) ∙ ap (λ (l : List (Visit A)). asks_of l) is,
  sym (append-nil (replies_of visits)) ∙ ap (λ l. replies_of visits ++ l) (sym (none_replied unsent)) ∙ sym (replies-append visits (map wrote unsent)) ∙ ap (λ (l : List (Visit A)). replies_of l) is,
  (unsent, ap (λ l. pdus_of visits ++ l) (sym (all_written unsent)) ∙ sym (pdus-append visits (map wrote unsent)) ∙ ap (λ (l : List (Visit A)). pdus_of l) is),
)

short_bytes : {A : Type 0} (visits : List (Visit A)) (sent : List ℕ) → IsCutShort visits sent → IsCut sent (pdu_bytes (pdus_of visits))
short_bytes {A} visits sent c =
    let (rest, some, whole) = c.cut in (
      rest,
      some,
      ap (λ (l : List ℕ). l ++ rest) c.bytes ∙ append_assoc (pdu_bytes (pdus_of c.front)) c.part rest ∙ ap (λ (l : List ℕ). pdu_bytes (pdus_of c.front) ++ l) (whole ∙ sym (append-nil (written_pdu c.pdu)))
          ∙ sym (bytes-append c.front (wrote c.pdu ∷ [])) ∙ ap (λ (l : List (Visit A)). pdu_bytes (pdus_of l)) (sym c.last),
    )

-- the bytes of the PDUs that were begun, or a part of them
pub undone : {A X : Type 0} (due visits : List (Visit A)) (sent : List ℕ) (failed : Bool) (r : Result X SessionFault) → Sends due visits sent failed r
    → (asks_of visits ≡ asks_of due) × (replies_of visits ≡ replies_of due) × IsPrefix (pdus_of visits) (pdus_of due) × ((sent ≡ pdu_bytes (pdus_of visits)) ⊎ IsCut sent (pdu_bytes (pdus_of visits)))
undone {A} due visits sent failed (Ok x) (is, all) = (
  ap (λ (l : List (Visit A)). asks_of l) is,
  ap (λ (l : List (Visit A)). replies_of l) is,
  ([], append-nil (pdus_of visits) ∙ ap (λ (l : List (Visit A)). pdus_of l) is),
  inl (all ∙ ap (λ (l : List (Visit A)). pdu_bytes (pdus_of l)) (sym is)),
)
undone due visits sent failed (Err fault) (left, inl (why, really, cut)) = let (asks, replies, first) = left_unsent due visits left in (asks, replies, first, inr (short_bytes visits sent cut))
undone due visits sent failed (Err fault) (left, inr (why, all)) = let (asks, replies, first) = left_unsent due visits left in (asks, replies, first, inl all)
