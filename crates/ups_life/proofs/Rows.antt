-- What is held of a step, and what is answered of the steps, after one more entry.
use Rattle.std.proofs.Common.{◌≡◌, ℕ, ◌<◌, ◌≤◌, ◌+◌, Bool, true, false, List, [], ◌∷◌, ◌++◌, length, take, get_or, map, filter, Option, None, Some, refl, sym, ap, ◌∙◌}
use Rattle.std.specs.Prelude.{if◌then◌else◌}
use Rattle.std.specs.Option.{option_or, option_map}
use Rattle.std.proofs.lemmas.List.{take_more, take_all, map-append}
use Rattle.std.proofs.lemmas.List.Elements.{filter-append}
use Rattle.ups_dataset.specs.Data.{El, answer}
use Rattle.ups_match.specs.Matching.{KeySet, is_match}
use Rattle.ups_life.specs.declared.entry.Entry.{Entry}
use Rattle.ups_life.specs.declared.row.Row.{Row}
use Rattle.ups_life.specs.Settings.{Settings}
use Rattle.ups_life.specs.Steps.{Claim, past, is_on, taken, claim, row, row_of, row_after}
use Rattle.ups_life.specs.Watching.{held}
use Rattle.ups_life.proofs.Past.{past-push}

-- the Transaction UID of the last claim
claimed_uid : {A : Type 0} (e : Entry A) (o : Option (List ℕ)) (before : Option Claim)
    → option_map (λ (c : Claim). c.transaction) (option_or (option_map (λ uid. record { holder = record { caller = e.caller; ae = e.ae }; transaction = uid }) o) before)
    ≡ option_or o (option_map (λ (c : Claim). c.transaction) before)
claimed_uid e None before = refl
claimed_uid e (Some uid) before = refl

-- what is held of a step after an entry: on the step, or on another
next_by : {A : Type 0} (s : Settings) (e : Entry A) (es : List (Entry A)) (u : List ℕ) (b : Bool) → is_on u e.request ≡ b
    → row_of s (e ∷ es) u ≡ (if b then row_after s.offset e.moment (row_of s es u) e.request else row_of s es u)
next_by s e es u true on = rw (on, claimed_uid e (taken e.request) (claim es u)) refl
next_by s e es u false off = rw off refl

pub past_more : {A : Type 0} (history : List (Entry A)) (i : ℕ) (e : Entry A) → i < length history → e ≡ get_or history i e → past (take (i + 1) history) ≡ e ∷ past (take i history)
past_more history i e low is = ap past (take_more history i e low ∙ ap (λ x. take i history ++ x ∷ []) (sym is)) ∙ past-push (take i history) e

-- the same, of the entries that a loop has gone through
pub row_step : {A : Type 0} (s : Settings) (history : List (Entry A)) (i : ℕ) (e : Entry A) (u : List ℕ) (before after : Row A) → i < length history → e ≡ get_or history i e
    → before ≡ row_of s (past (take i history)) u → after ≡ (if is_on u e.request then row_after s.offset e.moment before e.request else before)
    → after ≡ row_of s (past (take (i + 1) history)) u
row_step s history i e u before after low is was step =
    step
    ∙ ap (λ r. if is_on u e.request then row_after s.offset e.moment r e.request else r) was
    ∙ sym (next_by s e (past (take i history)) u (is_on u e.request) refl)
    ∙ ap (λ es. row_of s es u) (sym (past_more history i e low is))

-- what these steps are answered, of which those that match are told
abbrev pub answers : {A : Type 0} → Settings → List (Entry A) → KeySet → List (List ℕ) → List (List El)
answers s es keys us = map (λ r. answer r keys.attributes) (filter (is_match keys) (map (row s es) us))

answers_joined : {A : Type 0} (s : Settings) (es : List (Entry A)) (keys : KeySet) (us vs : List (List ℕ)) → answers s es keys (us ++ vs) ≡ answers s es keys us ++ answers s es keys vs
answers_joined s es keys us vs =
    ap (λ (l : List (List El)). map (λ r. answer r keys.attributes) (filter (is_match keys) l)) (map-append (row s es) us vs)
    ∙ ap (map (λ (r : List El). answer r keys.attributes)) (filter-append (is_match keys) (map (row s es) us) (map (row s es) vs))
    ∙ map-append (λ r. answer r keys.attributes) (filter (is_match keys) (map (row s es) us)) (filter (is_match keys) (map (row s es) vs))

-- one more step is answered for
pub answers_step : {A : Type 0} (s : Settings) (es : List (Entry A)) (keys : KeySet) (steps : List (List ℕ)) (i : ℕ) (u : List ℕ) (before after : List (List El)) → i < length steps → u ≡ get_or steps i u
    → before ≡ answers s es keys (take i steps) → after ≡ before ++ answers s es keys (u ∷ []) → after ≡ answers s es keys (take (i + 1) steps)
answers_step s es keys steps i u before after low is was step =
    step
    ∙ ap (λ l. l ++ answers s es keys (u ∷ [])) was
    ∙ sym (answers_joined s es keys (take i steps) (u ∷ []))
    ∙ ap (answers s es keys) (sym (take_more steps i u low ∙ ap (λ x. take i steps ++ x ∷ []) (sym is)))

pub answers_end : {A : Type 0} (s : Settings) (es : List (Entry A)) (keys : KeySet) (steps : List (List ℕ)) (i : ℕ) (found : List (List El)) → length steps ≤ i → found ≡ answers s es keys (take i steps) → steps ≡ held s es
    → found ≡ answers s es keys (held s es)
answers_end s es keys steps i found all was is = was ∙ ap (answers s es keys) (take_all i steps all ∙ is)
