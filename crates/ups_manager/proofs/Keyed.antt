-- What is found in the tables, by the UID of a step or the title of a peer.
use Rattle.std.proofs.Common.{◌≡◌, ℕ, ◌<◌, suc, List, [], ◌∷◌, length, map, Option, Some, Result, Ok, Err, IfOk, Vec, refl, sym, ap, subst, ◌∙◌}
use Rattle.std.specs.Map.{keys_of}
use Rattle.std.specs.Option.{option_map}
use Rattle.ups_life.specs.declared.entry.Entry.{Entry}
use Rattle.ups_life.specs.declared.peer.Peer.{Peer}
use Rattle.ups_life.specs.Settings.{Settings}
use Rattle.ups_life.specs.Steps.{past}
use Rattle.ups_life.specs.Watching.{held}
use Rattle.ups_tables.specs.declared.rows.HeldStep.{HeldStep}
use Rattle.ups_tables.specs.HeldSteps.{held_step, step_at}
use Rattle.ups_steps.specs.declared.held.HeldRow.{HeldRow}
use Rattle.ups_tables.specs.declared.tables.Tables.{Tables}
use Rattle.ups_tables.specs.Held.{held_at}
use Rattle.ups_tables.specs.Keyed.{step_with_held, as_steps}
use Rattle.ups_tables.specs.Places.{place_of_title}
use Rattle.ups_tables.specs.Stands.{Stands}
use Rattle.ups_tables.proofs.Keyed.{steps_kept, found_at}
use Rattle.ups_tables.proofs.Titled.{place_within}
use Rattle.ups_manager.proofs.Matches.{uids_are}

-- A STEP

-- what was looked up is the step of the definitions
pub is_found : {A : Type 0} (u : List ℕ) (es : List (List ℕ × HeldRow A)) (o : Option (HeldRow A)) → o ≡ held_at u es → option_map (step_with_held u) o ≡ step_at u (as_steps es)
is_found u es o is = ap (option_map (step_with_held u)) is ∙ found_at u es

-- the UIDs of the table are those of the steps held
keys_are : {A : Type 0} (es : List (List ℕ × HeldRow A)) → keys_of es ≡ map (λ (h : HeldStep A). h.step) (as_steps es)
keys_are [] = refl
keys_are (e ∷ es) = ap (λ l. e.0 ∷ l) (keys_are es)

pub keys_held_are : {A : Type 0} (s : Settings) (history : List (Entry A)) (t : Tables A) → Stands s history t → keys_of t.steps.entries ≡ held s (past history)
keys_held_are s history t st = keys_are t.steps.entries ∙ uids_are s (past history) (as_steps t.steps.entries) (as_steps t.steps.entries) (steps_kept s history t st) refl

pub keys_if_ok : {A E : Type 0} (s : Settings) (history : List (Entry A)) (t : Tables A) (r : Result (Vec (List ℕ) A) E) → Stands s history t → IfOk r (λ v. v.items ≡ keys_of t.steps.entries) → IfOk r (λ v. v.items ≡ held s (past history))
keys_if_ok s history t (Ok v) st is = is ∙ keys_held_are s history t st
keys_if_ok s history t (Err e) st is = is

-- A PEER

-- there is a queue at the place of a peer
pub queue_fits : {A : Type 0} (s : Settings) (history : List (Entry A)) (t : Tables A) (peers : List Peer) (w : List ℕ) (o : Option ℕ) → Stands s history t → peers ≡ s.peers → o ≡ place_of_title peers w → (p : ℕ) → o ≡ Some p → p < length t.queues
queue_fits s history t peers w o st named is p at =
    subst (λ (n : ℕ). p < n) (sym (st.fits.queues ∙ st.peers)) (place_within s.peers w p (ap (λ (ps : List Peer). place_of_title ps w) (sym named) ∙ sym is ∙ at))
