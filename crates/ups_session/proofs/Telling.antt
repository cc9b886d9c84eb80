-- What a gate tells of the calls of it, one after the other.
use Rattle.std.proofs.Common.{◌≡◌, ℕ, Bool, true, false, cond, List, [], ◌∷◌, ◌++◌, Result, Ok, Err, Option, None, Some, refl, sym, ap, ◌∙◌, subst, append_assoc, append-nil}
use Rattle.std.specs.Prelude.{not, is_ok, is_err}
use Rattle.ups_session.specs.declared.gate.GateCall.{GateCall}
use Rattle.ups_session.specs.declared.gate.GateCall.TheVariants.{Before, Moment}
use Rattle.ups_session.specs.Wire.{IsPrefix}
use Rattle.ups_session.specs.Tells.{Told, AreAlways, told_calls, Tells, IsAnnounced, IsTimed}

always_none : (m : Option ℕ) → AreAlways m []
always_none None = tt
always_none (Some m) = tt

always_on : (m : Option ℕ) (xs ys : List GateCall) → AreAlways m xs → AreAlways m ys → AreAlways m (xs ++ ys)
always_on None xs ys p q = tt
always_on (Some m) [] ys p q = q
always_on (Some m) (x ∷ xs) ys p q = (p.0, always_on (Some m) xs ys p.1 q)

pub Tells-nil : (a : Told) → Tells a a []
Tells-nil a = record {
  more = [];
  stays = sym (append-nil a.calls);
  first = ([], refl);
  every = λ e. (e, refl);
  silent = λ e. refl;
  same = refl;
  always = always_none a.always;
}

first_on : (still : Bool) (ts us xs ys : List GateCall) → IsPrefix ts xs → IsPrefix us ys → (still ≡ true → ts ≡ xs) → (still ≡ false → us ≡ []) → IsPrefix (ts ++ us) (xs ++ ys)
first_on true ts us xs ys p (rest, e) all none = (rest, append_assoc ts us rest ∙ ap (λ l. ts ++ l) e ∙ ap (λ l. l ++ ys) (all refl))
first_on false ts us xs ys (rest, e) q all none =
    (rest ++ ys, ap (λ l. (ts ++ l) ++ (rest ++ ys)) (none refl) ∙ ap (λ l. l ++ (rest ++ ys)) (append-nil ts) ∙ sym (append_assoc ts rest ys) ∙ ap (λ l. l ++ ys) e)

silent_on : (still : Bool) (ts us : List GateCall) → ts ≡ [] → (still ≡ true → ⊥) → (still ≡ false → us ≡ []) → ts ++ us ≡ []
silent_on true ts us e never quiet = absurd (never refl)
silent_on false ts us e never quiet = ap (λ l. l ++ us) e ∙ quiet refl

pub Tells-trans : (a b c : Told) (xs ys : List GateCall) → Tells a b xs → Tells b c ys → Tells a c (xs ++ ys)
Tells-trans a b c xs ys p q = record {
  more = p.more ++ q.more;
  stays = q.stays ∙ ap (λ l. l ++ q.more) p.stays ∙ append_assoc a.calls p.more q.more;
  first = first_on b.all p.more q.more xs ys p.first q.first (λ e. (p.every e).1) q.silent;
  every = λ e.
      let (still, rest) = q.every e in
      let (began, some) = p.every still in
      (began, ap (λ l. l ++ q.more) some ∙ ap (λ l. xs ++ l) rest);
  silent = λ e. silent_on b.all p.more q.more (p.silent e) (λ still. clash a.all e (p.every still).0) q.silent;
  same = q.same ∙ p.same;
  always = always_on a.always xs ys p.always (subst (λ (m : Option ℕ). AreAlways m ys) p.same q.always);
}
  where
    clash : (b : Bool) → b ≡ false → b ≡ true → ⊥
    clash b e f = cc

last_told : (a b : Told) (call : GateCall) → Tells a b (call ∷ []) → b.all ≡ true → (front : List GateCall) × (b.calls ≡ front ++ call ∷ [])
last_told a b call t all = let (began, whole) = t.every all in (a.calls, t.stays ∙ ap (λ l. a.calls ++ l) whole)

-- it was told that a PDU is about to be written
pub announced : (a b : Told) → Tells a b (Before ∷ []) → IsAnnounced b
announced a b t = last_told a b Before t

-- it was told which moment was given
pub timed : (a b : Told) (moment : ℕ) → Tells a b (Moment moment ∷ []) → IsTimed moment b
timed a b moment t = last_told a b (Moment moment) t

lists_more : (calls : List GateCall) (call : GateCall) → Tells (told_calls calls true) (told_calls (calls ++ call ∷ []) true) (call ∷ [])
lists_more calls call = record {
  more = call ∷ [];
  stays = refl;
  first = ([], refl);
  every = λ e. (e, refl);
  silent = λ e. absurd (clash e);
  same = refl;
  always = tt;
}
  where
    clash : true ≡ false → ⊥
    clash e = cc

-- a call that isn't told
pub lists_no_more : (calls : List GateCall) (all : Bool) (call : GateCall) → Tells (told_calls calls all) (told_calls calls false) (call ∷ [])
lists_no_more calls all call = record {
  more = [];
  stays = sym (append-nil calls);
  first = (call ∷ [], refl);
  every = λ e. absurd (clash e);
  silent = λ e. refl;
  same = refl;
  always = tt;
}
  where
    clash : false ≡ true → ⊥
    clash e = cc

-- a call is told where there is room for it
pub recorded : {T E : Type 0} (r : Result T E) (calls new : List GateCall) (call : GateCall) (was over : Bool) → was ≡ false → new ≡ cond (is_ok r) (calls ++ call ∷ []) calls → over ≡ is_err r
    → Tells (told_calls calls (not was)) (told_calls new (not over)) (call ∷ [])
recorded (Ok x) calls new call was over first e f = rw (first, e, f) (lists_more calls call)
recorded (Err x) calls new call was over first e f = rw (first, e, f) (lists_no_more calls true call)

-- a gate that doesn't tell all of its calls tells nothing of one more
pub untold_call : (told : Told) (call : GateCall) → told.all ≡ false → AreAlways told.always (call ∷ []) → Tells told told (call ∷ [])
untold_call told call some always = record {
  more = [];
  stays = sym (append-nil told.calls);
  first = (call ∷ [], refl);
  every = λ e. absurd (clash told.all some e);
  silent = λ e. refl;
  same = refl;
  always = always;
}
  where
    clash : (b : Bool) → b ≡ false → b ≡ true → ⊥
    clash b e f = cc
