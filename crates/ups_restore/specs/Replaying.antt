-- The outcome of replaying entries. Histories here are as they are shown, oldest entry first.
use Rattle.std.specs.Prelude.{◌≡◌, ◌≢◌, ◌<◌, ◌+◌, false, List, [], ◌∷◌, ◌++◌, length, map, All}
use Rattle.ups_cycle.specs.declared.status.Status.TheVariants.{ResourceLimitation}
use Rattle.ups_life.specs.declared.entry.Entry.{Entry}
use Rattle.ups_life.specs.declared.request.Reply.TheVariants.{Status as Answered}
use Rattle.ups_life.specs.Limits.{last_moment}
use Rattle.ups_life.specs.Settings.{Settings, IsMoment}
use Rattle.ups_life.specs.Steps.{past}
use Rattle.ups_life.specs.History.{accepts, reply}
use Rattle.ups_restore.specs.declared.fault.Refusal.{Refusal}
use Rattle.ups_restore.specs.declared.fault.Refusal.TheVariants.{BadMoment, Refused, NoRoom}
use Rattle.ups_restore.specs.declared.fault.ReplayFault.{ReplayFault}
use Rattle.ups_restore.specs.declared.fault.RestoreFault.{RestoreFault}
use Rattle.ups_restore.specs.declared.fault.RestoreRefusal.{RestoreRefusal}
use Rattle.ups_restore.specs.declared.fault.RestoreRefusal.TheVariants as restoring
use Rattle.ups_journal.specs.declared.fault.RecordFault.TheVariants as records
use Rattle.ups_journal.specs.declared.record.Record.{Record}
use Rattle.ups_journal.specs.Columns.{recorded}
use Rattle.ups_journal.specs.Writable.{IsWritableEntry}
use Rattle.ups_service.specs.Law.{is_legal, OrLacking}

-- why an entry is not entered after a history: its moment is too late; it is not accepted there, for another reason than lack
-- of room; or the reply is 0213, either because it is due there, or because memory ran out although the due reply accepts it
abbrev pub IsRefusal : {A : Type 0} → Settings → List (Entry A) → Entry A → Refusal → Type 0
IsRefusal s history e BadMoment = last_moment < e.moment
IsRefusal s history e Refused = (accepts (reply s (past history) e) ≡ false) × (reply s (past history) e ≢ Answered ResourceLimitation)
IsRefusal s history e NoRoom = OrLacking ResourceLimitation (reply s (past history) e) (Answered ResourceLimitation)

-- the entries before this place were entered, and the one at this place was not
pub record StopsReplayAt {A : Type 0} (s : Settings) (history entries : List (Entry A)) (fault : ReplayFault) (after : List (Entry A)) : Type 0 where
  pub front : List (Entry A)
  pub entry : Entry A
  pub rest : List (Entry A)
  pub parts : entries ≡ front ++ entry ∷ rest
  pub place : fault.place ≡ length front
  pub entered : after ≡ history ++ front
  pub why : IsRefusal s after entry fault.refusal

-- the only reason is lack of memory or room
abbrev pub IsWant : RestoreRefusal → Type 0
IsWant (restoring.Record fault) = fault ≡ records.Memory
IsWant (restoring.Entry refusal) = refusal ≡ NoRoom

-- the record is that of an entry that is refused after a history
abbrev pub IsRefusedFor : {A : Type 0} → Settings → List (Entry A) → Record A → Refusal → Type 0
IsRefusedFor {A} s history stored refusal = (e : Entry A) × IsWritableEntry e × (recorded e ≡ stored) × IsRefusal s history e refusal

-- why a record is not entered after a history: it is the record of no entry, or memory ran out; or its entry is refused there
abbrev pub IsFailure : {A : Type 0} → Settings → List (Entry A) → Record A → RestoreRefusal → Type 0
IsFailure {A} s history stored (restoring.Record fault) = fault ≢ records.Memory → (e : Entry A) → IsWritableEntry e → recorded e ≡ stored → ⊥
IsFailure s history stored (restoring.Entry refusal) = IsRefusedFor s history stored refusal

-- the record is that of an entry that is accepted after a history
pub record IsRecordOf {A : Type 0} (s : Settings) (history : List (Entry A)) (stored : Record A) (e : Entry A) : Type 0 where
  pub writable : IsWritableEntry e
  pub is : recorded e ≡ stored
  pub moment : IsMoment e.moment
  pub legal : is_legal s (history ++ e ∷ [])

-- the records are those of entries that continue a history legally
pub record AreOf {A : Type 0} (s : Settings) (history : List (Entry A)) (stored : List (Record A)) (es : List (Entry A)) : Type 0 where
  pub writable : All (λ (e : Entry A). IsWritableEntry e) es
  pub are : map recorded es ≡ stored
  pub moments : All (λ (e : Entry A). IsMoment e.moment) es
  pub legal : is_legal s (history ++ es)

-- the history is continued by entries whose records these are
abbrev pub GoesOnBy : {A : Type 0} → List (Entry A) → List (Record A) → List (Entry A) → Type 0
GoesOnBy {A} history stored after = (es : List (Entry A)) × (map recorded es ≡ stored) × (after ≡ history ++ es)

-- the records before this one were entered, and this one was not
pub record StopsAtRecord {A : Type 0} (s : Settings) (history : List (Entry A)) (stored : List (Record A)) (fault : RestoreFault) (after : List (Entry A)) : Type 0 where
  pub front : List (Record A)
  pub here : Record A
  pub rest : List (Record A)
  pub parts : stored ≡ front ++ here ∷ rest
  pub number : fault.number ≡ length front + 1
  pub operation : fault.operation ≡ here.request.operation
  pub entered : GoesOnBy history front after
  pub why : IsFailure s after here fault.refusal
