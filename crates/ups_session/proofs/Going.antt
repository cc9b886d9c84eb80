-- Parts of a session go on from one another.
use Rattle.std.proofs.Common.{◌≡◌, ℕ, List, [], ◌∷◌, ◌++◌, Result, Ok, Err, refl, sym, ap, ◌∙◌, subst, inr}
use Rattle.std.proofs.KnownBytes.{Appends-nil, Appends-trans}
use Rattle.ups_life.specs.Settings.{Settings}
use Rattle.ups_life.specs.declared.request.Reply.{Reply}
use Rattle.ups_session.specs.declared.fault.SessionFault.{SessionFault}
use Rattle.ups_session.specs.declared.fault.SessionFault.TheVariants.{Memory}
use Rattle.ups_session.specs.declared.gate.GateCall.{GateCall}
use Rattle.ups_session.specs.Tells.{Tells}
use Rattle.ups_session.specs.Visits.{calls_of, asks_of, moments_of, replies_of}
use Rattle.ups_session.specs.Fold.{Asked, Visit, Chain}
use Rattle.ups_service.specs.Law.{Others, Seen}
use Rattle.ups_session.specs.World.{World, ServesAll, Changes, IsDone, Performed}
use Rattle.ups_session.proofs.Chains.{chain_on, chain_none}
use Rattle.ups_session.proofs.Spoken.{prefix_after, prefix_of, prefix_trans, calls-append, asks-append, moments-append, replies-append, sends_on}
use Rattle.ups_session.proofs.Telling.{Tells-nil, Tells-trans}

pub ServesAll-append : {A : Type 0} (s : Settings) (o : Others) (c : ℕ) (s0 s1 s2 : Seen A) (us : List (Asked A)) (ms : List ℕ) (rs : List (Reply A)) (bs : List (Asked A)) (ns : List ℕ) (qs : List (Reply A))
    → ServesAll s o c s0 us ms rs s1 → ServesAll s o c s1 bs ns qs s2 → ServesAll s o c s0 (us ++ bs) (ms ++ ns) (rs ++ qs) s2
ServesAll-append {A} s o c s0 s1 s2 [] [] [] bs ns qs p q = subst (λ (seen : Seen A). ServesAll s o c seen bs ns qs s2) p q
ServesAll-append s o c s0 s1 s2 (a ∷ us) (m ∷ ms) (r ∷ rs) bs ns qs (mid, p, ps) q = (mid, p, ServesAll-append s o c mid s1 s2 us ms rs bs ns qs ps q)
ServesAll-append s o c s0 s1 s2 [] [] (r ∷ rs) bs ns qs p q = absurd p
ServesAll-append s o c s0 s1 s2 [] (m ∷ ms) [] bs ns qs p q = absurd p
ServesAll-append s o c s0 s1 s2 [] (m ∷ ms) (r ∷ rs) bs ns qs p q = absurd p
ServesAll-append s o c s0 s1 s2 (a ∷ us) [] [] bs ns qs p q = absurd p
ServesAll-append s o c s0 s1 s2 (a ∷ us) [] (r ∷ rs) bs ns qs p q = absurd p
ServesAll-append s o c s0 s1 s2 (a ∷ us) (m ∷ ms) [] bs ns qs p q = absurd p

pub ServesAll-more : {A : Type 0} (s t : Settings) (o p : Others) (c d : ℕ) (s0 s1 s2 : Seen A) (us : List (Asked A)) (ms : List ℕ) (rs : List (Reply A)) (bs : List (Asked A)) (ns : List ℕ) (qs : List (Reply A))
    → t ≡ s → p ≡ o → d ≡ c → ServesAll s o c s0 us ms rs s1 → ServesAll t p d s1 bs ns qs s2 → ServesAll s o c s0 (us ++ bs) (ms ++ ns) (rs ++ qs) s2
ServesAll-more {A} s t o p c d s0 s1 s2 us ms rs bs ns qs same shared one first then =
    let kept : ServesAll t p c s1 bs ns qs s2 = subst (λ (y : ℕ). ServesAll t p y s1 bs ns qs s2) one then in
    let alike : ServesAll t o c s1 bs ns qs s2 = subst (λ (y : Others). ServesAll t y c s1 bs ns qs s2) shared kept in
    ServesAll-append s o c s0 s1 s2 us ms rs bs ns qs first (subst (λ (x : Settings). ServesAll x o c s1 bs ns qs s2) same alike)

-- replies among some visits, and then among more
pub served_on : {A : Type 0} (s t : Settings) (o p : Others) (c d : ℕ) (s0 s1 s2 : Seen A) (front rest : List (Visit A)) → t ≡ s → p ≡ o → d ≡ c
    → ServesAll s o c s0 (asks_of front) (moments_of front) (replies_of front) s1 → ServesAll t p d s1 (asks_of rest) (moments_of rest) (replies_of rest) s2
    → ServesAll s o c s0 (asks_of (front ++ rest)) (moments_of (front ++ rest)) (replies_of (front ++ rest)) s2
served_on {A} s t o p c d s0 s1 s2 front rest same shared one first then =
    subst (λ (l : List (Asked A)). ServesAll s o c s0 l (moments_of (front ++ rest)) (replies_of (front ++ rest)) s2) (sym (asks-append front rest))
    (subst (λ (l : List ℕ). ServesAll s o c s0 (asks_of front ++ asks_of rest) l (replies_of (front ++ rest)) s2) (sym (moments-append front rest))
    (subst (λ (l : List (Reply A)). ServesAll s o c s0 (asks_of front ++ asks_of rest) (moments_of front ++ moments_of rest) l s2) (sym (replies-append front rest))
    (ServesAll-more s t o p c d s0 s1 s2 (asks_of front) (moments_of front) (replies_of front) (asks_of rest) (moments_of rest) (replies_of rest) same shared one first then)))

pub changes_on : {A : Type 0} (u v w : World A) (front rest : List (Visit A)) (sent then : List ℕ) → Changes front sent u v → Changes rest then v w → Changes (front ++ rest) (sent ++ then) u w
changes_on u v w front rest sent then g h = record {
  settings = h.settings ∙ g.settings;
  others = h.others ∙ g.others;
  caller = h.caller ∙ g.caller;
  writes = Appends-trans _ _ _ _ _ g.writes h.writes;
  tells = subst (λ (l : List GateCall). Tells u.told w.told l) (sym (calls-append front rest)) (Tells-trans u.told v.told w.told (calls_of front) (calls_of rest) g.tells h.tells);
  calls = served_on u.settings v.settings u.others v.others u.caller v.caller u.seen v.seen w.seen front rest g.settings g.others g.caller g.calls h.calls;
}

changes_none : {A : Type 0} (w : World A) → Changes [] [] w w
changes_none w = record { settings = refl; others = refl; caller = refl; writes = Appends-nil w.output.written; tells = Tells-nil w.told; calls = refl }

did_on : {A L X Y Z : Type 0} (Step : L → X → List (Visit A) → L → Type 0) (xs ys : List X) (from mid after : L) (u v w : World A) (y : Y) (r : Result Z SessionFault)
    → (g : Performed Step xs from mid u v (Ok y)) → (h : Performed Step ys mid after v w r) → IsDone h.end after (xs ++ h.some) (xs ++ ys) r
did_on Step xs ys from mid after u v w y (Ok z) g h = (h.did.0, ap (λ l. xs ++ l) h.did.1)
did_on Step xs ys from mid after u v w y (Err e) g h = prefix_after xs h.some ys h.did

-- some things happened whole, and then more
pub goes_on : {A L X Y Z : Type 0} (Step : L → X → List (Visit A) → L → Type 0) (xs ys : List X) (from mid after : L) (u v w : World A) (y : Y) (r : Result Z SessionFault)
    → Performed Step xs from mid u v (Ok y) → Performed Step ys mid after v w r → Performed Step (xs ++ ys) from after u w r
goes_on {A} {L} {X} Step xs ys from mid after u v w y r g h =
    let first : Chain Step xs from g.due mid = subst (λ (l : List X). Chain Step l from g.due mid) g.did.1 (subst (λ (l : L). Chain Step g.some from g.due l) g.did.0 g.ran) in
    record {
      some = xs ++ h.some;
      due = g.due ++ h.due;
      end = h.end;
      visits = g.visits ++ h.visits;
      sent = g.sent ++ h.sent;
      ran = chain_on Step xs h.some from mid h.end g.due h.due first h.ran;
      changes = changes_on u v w g.visits h.visits g.sent h.sent g.changes h.changes;
      did = did_on Step xs ys from mid after u v w y r g h;
      sends = sends_on g.due g.visits h.due h.visits g.sent h.sent v.output.failed w.output.failed y r g.sends h.sends;
    }

-- a fault, as a result
abbrev pub failing : {Y : Type 0} → SessionFault → Result Y SessionFault
failing e = Err e

-- it failed within some things, and so within more
pub goes_cut : {A L X Y Z : Type 0} (Step : L → X → List (Visit A) → L → Type 0) (xs ys : List X) (from mid after : L) (u v : World A) (e : SessionFault)
    → Performed Step xs from mid u v (failing {Y = Y} e) → Performed Step (xs ++ ys) from after u v (failing {Y = Z} e)
goes_cut Step xs ys from mid after u v e g = record {
  some = g.some;
  due = g.due;
  end = g.end;
  visits = g.visits;
  sent = g.sent;
  ran = g.ran;
  changes = g.changes;
  did = prefix_trans g.some xs (xs ++ ys) g.did (prefix_of xs ys);
  sends = g.sends;
}

-- nothing has happened
pub goes_nowhere : {A L X Y : Type 0} (Step : L → X → List (Visit A) → L → Type 0) (association : L) (w : World A) (y : Y) → Performed {X = X} Step [] association association w w (Ok y)
goes_nowhere Step association w y = record {
  some = [];
  due = [];
  end = association;
  visits = [];
  sent = [];
  ran = chain_none Step association;
  changes = changes_none w;
  did = (refl, refl);
  sends = (refl, refl);
}

-- memory ran out before anything happened
pub goes_short : {A L X Y : Type 0} (Step : L → X → List (Visit A) → L → Type 0) (all : List X) (association after : L) (w : World A) → Performed Step all association after w w (failing {Y = Y} Memory)
goes_short Step all association after w = record {
  some = [];
  due = [];
  end = association;
  visits = [];
  sent = [];
  ran = chain_none Step association;
  changes = changes_none w;
  did = (all, refl);
  sends = (([], refl), inr (refl, refl));
}
