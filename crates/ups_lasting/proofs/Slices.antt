-- Slices one after another.
use Rattle.std.proofs.Common.{◌∙◌, inl, inr}
use Rattle.std.specs.Prelude.{Result, Ok, Err, OnOk, IfOk}
use Rattle.ups_lasting.specs.declared.draft_ledger.DraftLedger.{Ghosts}
use Rattle.ups_lasting.specs.Slices.{Stays}

module _ {L : Type 0} (g : Ghosts L) where
  pub stays_then : (a b c : L) → Stays g a b → Stays g b c → Stays g a c
  stays_then a b c x y = record {
    same = λ k. y.same k ∙ x.same (y.sound k);
    sound = λ k. x.sound (y.sound k);
    first = λ k. x.first (y.first k);
    crash = λ first rs can. elim (y.crash first rs can) [
      | inl before ↦ x.crash (y.first first) rs before
      | inr both ↦ inr (x.sound both.0, both.1 ∙ x.same both.0)
    ];
  }

-- what follows from what a result says
pub on_ok : {T E : Type 0} (P Q : Type 0) (r : Result T E) → (P → Q) → OnOk r P → OnOk r Q
on_ok P Q (Ok x) f p = f p
on_ok P Q (Err e) f p = tt

pub if_ok : {T E : Type 0} (P Q : T → Type 0) (r : Result T E) → ((x : T) → P x → Q x) → IfOk r P → IfOk r Q
if_ok P Q (Ok x) f p = f x p
if_ok P Q (Err e) f p = tt
