-- What leaves a connection, and what it rests on.
use Rattle.std.specs.Prelude.{◌≡◌, ◌≤◌, ℕ, List, [], ◌∷◌, ◌++◌, All, take, Option, option_map, Result, Ok, Err}
use Rattle.ups_ledger.specs.Backed.{IsBacked}
use Rattle.ups_pdu.specs.declared.pdu.Pdu.TheVariants.{Abort}
use Rattle.ups_pdu.specs.Written.{written_pdu}

-- Bytes that left at one write: with the number of entries that they rest on, and the number of those committed then; or
-- those of an A-ABORT, which rests on none.
pub data Departed : Type 0 where
  departed_on : ℕ → ℕ → List ℕ → Departed
  departed_abort : List ℕ → Departed

-- an A-ABORT by the service provider, for no specified reason (PS3.8 section 9.3.8)
abbrev pub abort_bytes : List ℕ
abort_bytes = written_pdu {A = Unit {0}} (Abort 2 0)

-- a beginning of an A-ABORT
abbrev pub IsAborting : Departed → Type 0
IsAborting (departed_on rests kept bytes) = ⊥
IsAborting (departed_abort bytes) = (rest : List ℕ) × (bytes ++ rest ≡ abort_bytes)

-- It rests on no more entries than were committed, and what is to hold once that many are committed holds. Or it is an
-- A-ABORT.
abbrev pub IsBackedBy : (ℕ → Type 0) → Departed → Type 0
IsBackedBy had (departed_on rests kept bytes) = (rests ≤ kept) × IsBacked had kept
IsBackedBy had (departed_abort bytes) = IsAborting (departed_abort bytes)

-- this has left, if that is told
abbrev pub LeavesMore : Option (List Departed) → List Departed → Option (List Departed) → Type 0
LeavesMore old more new = new ≡ option_map (λ (l : List Departed). l ++ more) old

-- at one write, the first bytes of these left, which rest on so many entries; or it failed, and nothing left
abbrev pub LeavesOnce : {E : Type 0} → Option (List Departed) → ℕ → ℕ → List ℕ → Result ℕ E → Option (List Departed) → Type 0
LeavesOnce old rests kept bytes (Ok count) new = LeavesMore old (departed_on rests kept (take count bytes) ∷ []) new
LeavesOnce old rests kept bytes (Err fault) new = new ≡ old

-- all that has left since rests on what was committed then
pub record HasLeft (had : ℕ → Type 0) (old new : Option (List Departed)) : Type 0 where
  pub more : List Departed
  pub leaves : LeavesMore old more new
  pub backed : All (IsBackedBy had) more
