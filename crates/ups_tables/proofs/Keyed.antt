-- The steps that the tables hold are those of the definitions.
use Rattle.std.proofs.Common.{◌≡◌, ℕ, Bool, true, false, cond, List, [], ◌∷◌, Option, None, Some, refl, sym, ap, ◌∙◌}
use Rattle.std.specs.Option.{option_map}
use Rattle.std.specs.Str.{bytes_eq}
use Rattle.ups_life.specs.declared.entry.Entry.{Entry}
use Rattle.ups_life.specs.Settings.{Settings}
use Rattle.ups_life.specs.Steps.{past}
use Rattle.ups_life.proofs.Texts.{same_text}
use Rattle.ups_keep.proofs.Waiting.{other_text}
use Rattle.ups_tables.specs.declared.rows.HeldStep.{HeldStep}
use Rattle.ups_tables.specs.HeldSteps.{held_steps, step_at, row_in, holder_in}
use Rattle.ups_steps.specs.declared.held.HeldRow.{HeldRow}
use Rattle.ups_tables.specs.declared.tables.Tables.{Tables}
use Rattle.ups_tables.specs.Held.{held_at}
use Rattle.ups_tables.specs.Keyed.{step_with_held, as_step, as_steps, row_held, holder_held}
use Rattle.ups_tables.specs.Stands.{Stands, entries_of}

steps_back : {A : Type 0} (hs : List (HeldStep A)) → as_steps (entries_of hs) ≡ hs
steps_back [] = refl
steps_back (h ∷ hs) = ap (λ l. h ∷ l) (steps_back hs)

pub steps_kept : {A : Type 0} (s : Settings) (history : List (Entry A)) (t : Tables A) → Stands s history t → as_steps t.steps.entries ≡ held_steps s (past history)
steps_kept s history t st = ap as_steps st.steps ∙ steps_back (held_steps s (past history))

-- what is found under a UID
pub found_at : {A : Type 0} (u : List ℕ) (es : List (List ℕ × HeldRow A)) → option_map (step_with_held u) (held_at u es) ≡ step_at u (as_steps es)
found_at u [] = refl
found_at {A} u (e ∷ es) = by (bytes_eq u e.0) refl (found_at u es)
  where
    by : (b : Bool) → bytes_eq u e.0 ≡ b → option_map (step_with_held u) (held_at u es) ≡ step_at u (as_steps es) → option_map (step_with_held u) (cond b (Some e.1) (held_at u es)) ≡ cond (bytes_eq e.0 u) (Some (as_step e)) (step_at u (as_steps es))
    by true is rest = ap (λ v. Some (step_with_held v e.1)) (same_text u e.0 is) ∙ sym (ap (λ b. cond b (Some (as_step e)) (step_at u (as_steps es))) (other_text e.0 u ∙ is))
    by false is rest = rest ∙ sym (ap (λ b. cond b (Some (as_step e)) (step_at u (as_steps es))) (other_text e.0 u ∙ is))

-- the row of what is found, and who has claimed it
pub row_found : {A : Type 0} (u : List ℕ) (es : List (List ℕ × HeldRow A)) → row_held (held_at u es) ≡ row_in u (as_steps es)
row_found {A} u es = by (held_at u es) ∙ ap (option_map (λ (h : HeldStep A). h.row)) (found_at u es)
  where
    by : (o : Option (HeldRow A)) → row_held o ≡ option_map (λ (h : HeldStep A). h.row) (option_map (step_with_held u) o)
    by None = refl
    by (Some h) = refl

pub holder_found : {A : Type 0} (u : List ℕ) (es : List (List ℕ × HeldRow A)) → holder_held (held_at u es) ≡ holder_in (step_at u (as_steps es))
holder_found {A} u es = by (held_at u es) ∙ ap holder_in (found_at u es)
  where
    by : (o : Option (HeldRow A)) → holder_held o ≡ holder_in (option_map (step_with_held u) o)
    by None = refl
    by (Some h) = refl
