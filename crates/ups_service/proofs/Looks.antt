-- The rows that a reply rests on are all that it takes.
use Rattle.std.proofs.Common.{◌≡◌, ℕ, true, List, [], map, Option, None, Some, refl, ap, true≢false, sym}
use Rattle.std.specs.Option.{option_map, option_to_list}
use Rattle.ups_dataset.specs.declared.tag.Tag.{Tag}
use Rattle.ups_dataset.specs.Data.{answer}
use Rattle.ups_match.proofs.Class.{found_in_class}
use Rattle.ups_life.specs.declared.entry.Entry.{Entry}
use Rattle.ups_life.specs.declared.row.Row.{Row}
use Rattle.ups_life.specs.declared.request.Ask.{Ask}
use Rattle.ups_life.specs.declared.request.Ask.TheVariants.{Do, Get, Find, Pending}
use Rattle.ups_life.specs.declared.request.Reply.TheVariants.{Sets as Found}
use Rattle.ups_life.specs.Settings.{Settings}
use Rattle.ups_life.specs.History.{shown_of}
use Rattle.ups_life.specs.Steps.{past}
use Rattle.ups_life.specs.Watching.{known}
use Rattle.ups_life.specs.Worklist.{rows}
use Rattle.ups_life.specs.declared.request.Reply.{Reply}
use Rattle.ups_service.specs.Law.{reply_to, entered}
use Rattle.ups_service.specs.Looking.{is_look, rows_for, reply_from, shown_first}

pub shown_as : {A : Type 0} (row : Option (Row A)) (listed : List Tag) → shown_first {A = A} (option_to_list (option_map (λ (r : Row A). r.attributes) row)) listed ≡ shown_of row listed
shown_as None listed = refl
shown_as (Some r) listed = refl

-- THE REPLY BY THE ROWS IS THE REPLY BY THE HISTORY
pub looks_right : {A : Type 0} (s : Settings) (history : List (Entry A)) (caller : ℕ) (ae : List ℕ) (moment : ℕ) (ask : Ask A) → is_look ask ≡ true → reply_from (rows_for s history ask) ask ≡ reply_to s history caller ae moment ask
looks_right s history caller ae moment (Do request) look = absurd (true≢false (sym look))
looks_right s history caller ae moment (Get step listed) look = shown_as (known s (past history) step) listed
looks_right s history caller ae moment (Find keys) look = ap Found (ap (map (λ r. answer r keys.attributes)) (found_in_class s.offset keys (rows s (past history))))
looks_right s history caller ae moment (Pending max) look = absurd (true≢false (sym look))

-- and a look enters nothing
pub look_enters_nothing : {A : Type 0} (caller : ℕ) (ae : List ℕ) (moment : ℕ) (ask : Ask A) (reply : Reply A) → is_look ask ≡ true → entered caller ae moment ask reply ≡ []
look_enters_nothing caller ae moment (Do request) reply look = absurd (true≢false (sym look))
look_enters_nothing caller ae moment (Get step listed) reply look = refl
look_enters_nothing caller ae moment (Find keys) reply look = refl
look_enters_nothing caller ae moment (Pending max) reply look = absurd (true≢false (sym look))
