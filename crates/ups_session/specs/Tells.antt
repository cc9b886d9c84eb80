-- The record that a gate keeps of its calls.
use Rattle.std.specs.Prelude.{◌≡◌, ℕ, Bool, true, false, List, [], ◌∷◌, ◌++◌, Option, None, Some}
use Rattle.std.specs.List.{AllByRecursion}
use Rattle.ups_session.specs.declared.gate.GateCall.{GateCall}
use Rattle.ups_session.specs.declared.gate.GateCall.TheVariants.{Before, After, Moment}
use Rattle.ups_session.specs.Wire.{IsPrefix}

-- the calls that the gate recorded, in order; whether they are all of them; and the moment that it always gives, if
-- it gives only one
pub record Told : Type 0 where
  pub calls : List GateCall
  pub all : Bool
  pub always : Option ℕ

-- the record of a clock, which records no calls
abbrev pub untold : Told
untold = record { calls = []; all = false; always = None }

-- the record of a gate that recorded these calls: all of its calls, or the first of them
abbrev pub told_calls : List GateCall → Bool → Told
told_calls calls all = record { calls = calls; all = all; always = None }

-- a call gives no moment, or this one
abbrev pub IsAlways : ℕ → GateCall → Type 0
IsAlways moment Before = Unit {0}
IsAlways moment After = Unit {0}
IsAlways moment (Moment m) = m ≡ moment

abbrev pub AreAlways : Option ℕ → List GateCall → Type 0
AreAlways None made = Unit {0}
AreAlways (Some moment) made = AllByRecursion (λ c. IsAlways moment c) made

-- These calls were made, and the first of them, or all, were recorded. What was recorded stays so. After a call that
-- was not recorded none is.
pub record Tells (before later : Told) (made : List GateCall) : Type 0 where
  pub more : List GateCall
  pub stays : later.calls ≡ before.calls ++ more
  pub first : IsPrefix more made
  pub every : later.all ≡ true → (before.all ≡ true) × (more ≡ made)
  pub silent : before.all ≡ false → more ≡ []
  pub same : later.always ≡ before.always
  pub always : AreAlways before.always made

-- if the gate records every call, the last one was that a PDU is about to be written
abbrev pub IsAnnounced : Told → Type 0
IsAnnounced told = told.all ≡ true → (front : List GateCall) × (told.calls ≡ front ++ Before ∷ [])

-- if the gate records every call, the last one gave this moment
abbrev pub IsTimed : ℕ → Told → Type 0
IsTimed moment told = told.all ≡ true → (front : List GateCall) × (told.calls ≡ front ++ Moment moment ∷ [])
