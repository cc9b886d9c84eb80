-- What is found among the candidates of the index is what the class of a query holds.
use Rattle.std.proofs.Common.{◌≡◌, ℕ, suc, ℤ, ◌+◌, ◌<◌, ◌≤◌, arith, drop, Bool, true, false, ◌||◌, cond, List, [], ◌∷◌, ◌++◌, length, map, filter, take, get_or, Option, None, Some, refl, sym, ap, ◌∙◌}
use Rattle.std.specs.List.{list_any, filter_map, cons_option}
use Rattle.std.specs.Option.{option_map, option_to_list}
use Rattle.std.specs.Str.{bytes_eq}
use Rattle.std.proofs.lemmas.List.{take_more, map-append, length-append, length-take, take-append-drop}
use Rattle.std.proofs.lemmas.List.Elements.{filter-append, filter_map-append}
use Rattle.ups_dataset.specs.Data.{El, elements_of, answer}
use Rattle.ups_match.specs.Class.{first_key, meets_first, all, class}
use Rattle.ups_match.specs.Matching.{KeySet, is_match}
use Rattle.ups_match.proofs.Class.{found_in_class}
use Rattle.ups_index.specs.Indexed.{Contents, indexed_class}
use Rattle.ups_index.specs.Stored.{values_of_row}
use Rattle.ups_index.proofs.Found.{attributes_under, AreOnce, candidates_are_class}
use Rattle.ups_life.specs.declared.entry.Entry.{Entry}
use Rattle.ups_life.specs.declared.row.Row.{Row}
use Rattle.ups_life.specs.Settings.{Settings}
use Rattle.ups_life.specs.Distinct.{Distinct}
use Rattle.ups_life.specs.Steps.{row}
use Rattle.ups_life.specs.Watching.{held}
use Rattle.ups_life.specs.Worklist.{rows, worklist}
use Rattle.ups_tables.specs.declared.rows.HeldStep.{HeldStep}
use Rattle.ups_tables.specs.HeldSteps.{held_step, held_steps, attributes_in, step_at, row_in}
use Rattle.ups_service.specs.Asked.{asked_rows}
use Rattle.ups_rows.specs.Answering.{answers_among}
use Rattle.ups_steps.specs.declared.held.HeldRow.{HeldRow}
use Rattle.ups_steps.specs.Held.{attributes_held}
use Rattle.ups_tables.specs.Keyed.{as_steps}
use Rattle.ups_manager.specs.Finding.{attributes_of, attributes_at}
use Rattle.ups_manager.specs.Indexing.{uids_in, indexed, IsIndexed}
use Rattle.ups_manager.proofs.Matches.{filter_alike}

-- THE ROWS OF THE CANDIDATES

-- steps with their attributes
abbrev pairs : {A : Type 0} → List (HeldStep A) → List (List ℕ × List El)
pairs {A} hs = map (λ (h : HeldStep A). (h.step, h.row.attributes)) hs

attributes_in_pairs : {A : Type 0} (hs : List (HeldStep A)) (u : List ℕ) → attributes_under (pairs hs) u ≡ attributes_at hs u
attributes_in_pairs [] u = refl
attributes_in_pairs {A} (h ∷ hs) u = here (bytes_eq h.step u) (attributes_in_pairs hs u)
  where
    here : (b : Bool) → attributes_under (pairs hs) u ≡ attributes_at hs u → cond b (Some h.row.attributes) (attributes_under (pairs hs) u) ≡ attributes_of (option_map (λ (k : HeldStep A). k.row) (cond b (Some h) (step_at u hs)))
    here true rest = refl
    here false rest = rest

any_pair : {A : Type 0} (u : List ℕ) (hs : List (HeldStep A)) → list_any (λ (q : List ℕ × List El). bytes_eq q.0 u) (pairs hs) ≡ list_any (λ v. bytes_eq v u) (uids_in hs)
any_pair u [] = refl
any_pair u (h ∷ hs) = ap (λ (b : Bool). bytes_eq h.step u || b) (any_pair u hs)

pairs_once : {A : Type 0} (hs : List (HeldStep A)) → Distinct (uids_in hs) → AreOnce (pairs hs)
pairs_once [] once = tt
pairs_once (h ∷ hs) (none, once) = (any_pair h.step hs ∙ none, pairs_once hs once)

indexed_pairs : {A : Type 0} (offset : ℤ) (hs : List (HeldStep A)) → map (λ r. (r.0, values_of_row offset r.1)) (pairs hs) ≡ map (indexed offset) hs
indexed_pairs offset [] = refl
indexed_pairs offset (h ∷ hs) = ap (λ l. indexed offset h ∷ l) (indexed_pairs offset hs)

attributes_pairs : {A : Type 0} (hs : List (HeldStep A)) → map (λ r. r.1) (pairs hs) ≡ attributes_in hs
attributes_pairs [] = refl
attributes_pairs (h ∷ hs) = ap (λ (l : List (List El)). h.row.attributes ∷ l) (attributes_pairs hs)

alike : {X Y : Type 0} (f g : X → Option Y) (xs : List X) → ((x : X) → f x ≡ g x) → filter_map f xs ≡ filter_map g xs
alike f g [] same = refl
alike {X} {Y} f g (x ∷ xs) same = ap (λ (o : Option Y). cons_option o (filter_map f xs)) (same x) ∙ ap (λ (l : List Y). cons_option (g x) l) (alike f g xs same)

candidates_rows : {A : Type 0} (configured : ℤ) (keys : KeySet) (hs : List (HeldStep A)) → Distinct (uids_in hs)
    → filter_map (attributes_at hs) (indexed_class (first_key configured keys) (map (indexed configured) hs)) ≡ class configured keys (attributes_in hs)
candidates_rows configured keys hs once =
    sym (alike (attributes_under (pairs hs)) (attributes_at hs) _ (attributes_in_pairs hs))
    ∙ ap (λ l. filter_map (attributes_under (pairs hs)) (indexed_class (first_key configured keys) l)) (sym (indexed_pairs configured hs))
    ∙ candidates_are_class configured keys (pairs hs) (pairs_once hs once)
    ∙ ap (class configured keys) (attributes_pairs hs)

rows_of : {A : Type 0} (s : Settings) (es : List (Entry A)) (us : List (List ℕ)) → attributes_in (map (held_step s es) us) ≡ map (row s es) us
rows_of s es [] = refl
rows_of s es (u ∷ us) = ap (λ (l : List (List El)). row s es u ∷ l) (rows_of s es us)

-- they are the class of the query
pub asked_are : {A : Type 0} (index : Contents) (keys : KeySet) (hs : List (HeldStep A)) (candidates lent : List (List ℕ)) → index.steps ≡ map (indexed index.offset) hs → Distinct (uids_in hs)
    → candidates ≡ indexed_class (first_key index.offset keys) index.steps → lent ≡ candidates → filter_map (attributes_at hs) lent ≡ class index.offset keys (attributes_in hs)
asked_are {A} index keys hs candidates lent is once found same =
    ap (filter_map (attributes_at hs)) (same ∙ found ∙ ap (indexed_class (first_key index.offset keys)) is) ∙ candidates_rows index.offset keys hs once

-- where it has no indexed key, they are all
pub class_of_all : (offset : ℤ) (keys : KeySet) (rs : List (List El)) → first_key offset keys ≡ all → rs ≡ class offset keys rs
unfolding class
class_of_all offset keys [] none = refl
class_of_all offset keys (r ∷ rs) none =
    ap (λ (l : List (List El)). r ∷ l) (class_of_all offset keys rs none)
    ∙ sym (ap (λ (b : Bool). cond b (r ∷ class offset keys rs) (class offset keys rs)) (ap (λ first. meets_first keys.offset first (elements_of r)) none))

-- the rows that the table shares
pub held_attributes : {A : Type 0} (es : List (List ℕ × HeldRow A)) → attributes_held es ≡ attributes_in (as_steps es)
held_attributes [] = refl
held_attributes (e ∷ es) = ap (λ (l : List (List El)). e.1.row.attributes ∷ l) (held_attributes es)

-- by the history
pub class_by_history : {A : Type 0} (s : Settings) (es : List (Entry A)) (offset : ℤ) (keys : KeySet) (hs : List (HeldStep A)) → hs ≡ held_steps s es → offset ≡ s.offset → class offset keys (attributes_in hs) ≡ asked_rows s es keys
class_by_history s es offset keys hs kept zone = ap (λ (o : ℤ). class o keys (attributes_in hs)) zone ∙ ap (class s.offset keys) (ap attributes_in kept ∙ rows_of s es (held s es))

-- what a manager's index has is what is looked up in its tables
pub index_is : {A : Type 0} (s : Settings) (es : List (Entry A)) (index : Contents) (hs : List (HeldStep A)) → IsIndexed s es index → hs ≡ held_steps s es → index.steps ≡ map (indexed index.offset) hs
index_is s es index hs is kept = is.steps ∙ ap (map (indexed s.offset)) (sym kept) ∙ ap (λ (o : ℤ). map (indexed o) hs) (sym is.offset)

-- and what is answered by them is the worklist, by a test that says what the rules say
pub answered_worklist : {A : Type 0} (says : List El → Bool) (s : Settings) (es : List (Entry A)) (keys : KeySet) → ((r : List El) → says r ≡ is_match keys r) → answers_among says keys.attributes (asked_rows s es keys) ≡ worklist s es keys
answered_worklist says s es keys same =
    ap (map (λ r. answer r keys.attributes)) (filter_alike says (is_match keys) (asked_rows s es keys) same ∙ found_in_class s.offset keys (rows s es))

-- ONE MORE CANDIDATE

rows_more : {A : Type 0} (hs : List (HeldStep A)) (us : List (List ℕ)) (i : ℕ) (u : List ℕ) → i < length us → u ≡ get_or us i u
    → filter_map (attributes_at hs) (take (i + 1) us) ≡ filter_map (attributes_at hs) (take i us) ++ option_to_list (attributes_at hs u)
rows_more hs us i u low is =
    ap (filter_map (attributes_at hs)) (take_more us i u low ∙ ap (λ (v : List ℕ). take i us ++ v ∷ []) (sym is))
    ∙ filter_map-append (attributes_at hs) (take i us) (u ∷ [])
    ∙ ap (λ (l : List (List El)). filter_map (attributes_at hs) (take i us) ++ l) (one (attributes_at hs u))
  where
    one : {X : Type 0} (o : Option X) → cons_option o [] ≡ option_to_list o
    one None = refl
    one (Some x) = refl

-- its row is looked up
pub asked_more : {A : Type 0} (hs : List (HeldStep A)) (us : List (List ℕ)) (i : ℕ) (u : List ℕ) (o : Option (Row A)) → i < length us → u ≡ get_or us i u → o ≡ row_in u hs
    → filter_map (attributes_at hs) (take (i + 1) us) ≡ filter_map (attributes_at hs) (take i us) ++ option_to_list (attributes_of o)
asked_more {A} hs us i u o low is found =
    rows_more hs us i u low is ∙ ap (λ (p : Option (Row A)). filter_map (attributes_at hs) (take i us) ++ option_to_list (attributes_of p)) (sym found)
