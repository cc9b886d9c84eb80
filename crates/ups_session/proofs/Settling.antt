-- How a reaction is settled, and what an indication comes to then.
use Rattle.std.proofs.Common.{◌≡◌, ℕ, List, [], ◌∷◌, map, refl, sym, ap, ◌∙◌, append-nil, subst, Some, None, Result, Ok, Err, OnOk}
use Rattle.std.specs.Io.KnownBytes.{Appends}
use Rattle.ups_pdu.specs.declared.pdu.Pdu.{Pdu}
use Rattle.ups_life.specs.Settings.{Settings}
use Rattle.ups_life.specs.declared.request.Reply.{Reply}
use Rattle.ups_service.specs.Law.{Others, Seen}
use Rattle.ups_session.specs.declared.fault.SessionFault.{SessionFault}
use Rattle.ups_session.specs.declared.gate.GateCall.TheVariants.{Moment}
use Rattle.ups_session.specs.Fold.{Asked, Indication, Visit, replied, wrote, Reaction, Side, Happens}
use Rattle.ups_session.specs.declared.effect.Effect.{Effect}
use Rattle.ups_session.specs.Party.{said_by, awaited_by, reaction_with}
use Rattle.ups_session.specs.Settled.{IsSettled}
use Rattle.ups_session.specs.Visits.{calls_of, asks_of, moments_of, replies_of}
use Rattle.ups_session.specs.WatchedIo.{Output}
use Rattle.ups_session.specs.World.{World, ServesAll, SendsAlone, AsksOnce, IsDone, Performed}
use Rattle.ups_session.proofs.Chains.{chain_one}
use Rattle.ups_session.specs.declared.fault.SessionFault.TheVariants.{Memory}
use Rattle.ups_session.proofs.Spoken.{stopping, says_lost, sends_replied}
use Rattle.ups_session.proofs.Telling.{Tells-trans}

-- the service stands for the same as before
ServesAll-at : {A : Type 0} (s t : Settings) (o p : Others) (k l : ℕ) (seen after : Seen A) (asks : List (Asked A)) (moments : List ℕ) (replies : List (Reply A)) → t ≡ s → p ≡ o → l ≡ k
    → ServesAll t p l seen asks moments replies after → ServesAll s o k seen asks moments replies after
ServesAll-at {A} s t o p k l seen after asks moments replies same shared one is =
    subst (λ (x : Settings). ServesAll x o k seen asks moments replies after) same
    (subst (λ (x : Others). ServesAll t x k seen asks moments replies after) shared (subst (λ (x : ℕ). ServesAll t p x seen asks moments replies after) one is))

-- visits without a moment are without a reply
served_none : {A : Type 0} (s : Settings) (o : Others) (k : ℕ) (seen : Seen A) (visits : List (Visit A)) → moments_of visits ≡ [] → ServesAll s o k seen (asks_of visits) (moments_of visits) (replies_of visits) seen
served_none s o k seen [] none = refl
served_none s o k seen (wrote pdu ∷ visits) none = served_none s o k seen visits none
served_none s o k seen (replied asked moment reply ∷ visits) none = absurd (clash none)
  where
    clash : {l : List ℕ} → moment ∷ l ≡ [] → ⊥
    clash e = cc

-- nothing is asked, and what is due is said, or a beginning of it
pub settled_said : {A L W Y : Type 0} (side : Side A L W) (reaction : Reaction A L W) (after : L) (u v : World A) (r : Result Y SessionFault)
    → reaction.waiting ≡ None → OnOk r (reaction.association ≡ after) → SendsAlone reaction.send u v r → IsSettled side reaction after u v r
settled_said {A} side reaction after u v r silent done (is, same) = record {
  replies = [];
  due = map wrote reaction.send;
  end = reaction.association;
  visits = is.visits;
  sent = is.sent;
  settles = (silent, refl, refl);
  changes = record {
    settings = ap (λ (w : World A). w.settings) same;
    others = ap (λ (w : World A). w.others) same;
    caller = ap (λ (w : World A). w.caller) same;
    writes = is.writes;
    tells = is.tells;
    calls = subst (λ (seen : Seen A). ServesAll u.settings u.others u.caller u.seen (asks_of is.visits) (moments_of is.visits) (replies_of is.visits) seen) (sym (ap (λ (w : World A). w.seen) same)) (served_none u.settings u.others u.caller u.seen is.visits is.timeless);
  };
  did = done;
  sends = is.sends;
}

-- memory ran out before it was said
pub settled_lost : {A L W Y : Type 0} (side : Side A L W) (reaction : Reaction A L W) (after : L) (u : World A) → reaction.waiting ≡ None → IsSettled side reaction after u u (stopping {Y = Y} Memory)
settled_lost side reaction after u silent = settled_said side reaction after u u (stopping Memory) silent tt (says_lost reaction.send u.output u.told, refl)

pub on_ok : {L Y : Type 0} (l : L) (r : Result Y SessionFault) → OnOk r (l ≡ l)
on_ok l (Ok y) = refl
on_ok l (Err e) = tt

-- something is asked, and then what the reply comes to
pub settled_asked : {A L W Y : Type 0} (side : Side A L W) (association after : L) (waiting : W) (q : Reply A) (next : Reaction A L W) (u v w : World A) (r : Result Y SessionFault)
    → AsksOnce (side.asked waiting) q u v → side.OnReply association waiting q next → IsSettled side next after v w r
    → IsSettled side (record { association = association; send = []; waiting = Some waiting }) after u w r
settled_asked {A} side association after waiting q next u v w r (m, asked, same) hears is =
    let (then, serves, last) = asked.calls in
    let more = subst (λ (seen : Seen A). ServesAll v.settings v.others v.caller seen (asks_of is.visits) (moments_of is.visits) (replies_of is.visits) w.seen) last is.changes.calls in record {
      replies = q ∷ is.replies;
      due = replied (side.asked waiting) m q ∷ is.due;
      end = is.end;
      visits = replied (side.asked waiting) m q ∷ is.visits;
      sent = is.sent;
      settles = (waiting, m, next, is.due, refl, hears, is.settles, refl);
      changes = record {
        settings = is.changes.settings ∙ asked.settings;
        others = is.changes.others ∙ asked.others;
        caller = is.changes.caller ∙ asked.caller;
        writes = subst (λ (o : Output). Appends o.written w.output.written is.sent) same is.changes.writes;
        tells = Tells-trans u.told v.told w.told (Moment m ∷ []) (calls_of is.visits) asked.tells is.changes.tells;
        calls = (
          then,
          serves,
          ServesAll-at u.settings v.settings u.others v.others u.caller v.caller then w.seen (asks_of is.visits) (moments_of is.visits) (replies_of is.visits) asked.settings asked.others asked.caller more,
        );
      };
      did = is.did;
      sends = sends_replied (side.asked waiting) m q is.due is.visits is.sent w.output.failed r is.sends;
    }

did_one : {A L Y : Type 0} (end after : L) (h : Indication A) (r : Result Y SessionFault) → OnOk r (end ≡ after) → IsDone end after (h ∷ []) (h ∷ []) r
did_one end after h (Ok y) e = (e, refl)
did_one end after h (Err e) t = ([], append-nil (h ∷ []))

-- an indication, whose reaction is settled
pub performed_settled : {A L W Y : Type 0} (side : Side A L W) (from after : L) (h : Indication A) (reaction : Reaction A L W) (u v : World A) (r : Result Y SessionFault)
    → side.Reacts from h reaction → IsSettled side reaction after u v r → Performed (Happens side) (h ∷ []) from after u v r
performed_settled side from after h reaction u v r reacts is = record {
  some = h ∷ [];
  due = is.due;
  end = is.end;
  visits = is.visits;
  sent = is.sent;
  ran = chain_one (Happens side) h from is.end is.due (reaction, is.replies, reacts, is.settles);
  changes = is.changes;
  did = did_one is.end after h r is.did;
  sends = is.sends;
}

-- an effect that only says something
pub settled_effect : {A L W C Y : Type 0} (side : Side A L W) (waits : C → W) (after : L) (effect : Effect A C) (said : List (Pdu A)) (u v : World A) (r : Result Y SessionFault)
    → awaited_by waits effect ≡ None → said_by effect ≡ said → SendsAlone said u v r → IsSettled side (reaction_with waits after effect) after u v r
settled_effect {A} side waits after effect said u v r silent says is =
    settled_said side (reaction_with waits after effect) after u v r silent (on_ok after r) (subst (λ (l : List (Pdu A)). SendsAlone l u v r) (sym says) is)
