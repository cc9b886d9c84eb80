-- Requests of a store that are read once more, of which those are entered that are kept for some steps.
use Rattle.std.specs.Prelude.{◌≡◌, ℕ, ◌≤◌, Bool, true, false, List, [], ◌∷◌, ◌++◌, length}
use Rattle.std.specs.declared.alloc.Global.{Global}
use Rattle.sqlite_trees.specs.declared.store.Store.{Ghosts}
use Rattle.ups_life.specs.declared.entry.Entry.{Entry}
use Rattle.ups_journal.specs.Columns.{recorded}
use Rattle.ups_journal.specs.Writable.{IsWritableEntry}
use Rattle.ups_life.specs.History.{legal}
use Rattle.ups_life.specs.Settings.{Settings}
use Rattle.ups_life.specs.Steps.{past}
use Rattle.ups_compact.specs.Compacting.{left_for}
use Rattle.ups_store.specs.declared.reading.Replay.{Replay}
use Rattle.ups_store.specs.declared.request.StoredRequest.{StoredRequest}
use Rattle.ups_store.specs.Shown.{all_of, given_out}

module _ {S : Type 0} {g : Ghosts S} where
  -- the next request was given, and the entry whose record it is was entered if it is kept for these steps, as those before it were,
  -- unless there are more than `most` now; or all have been given
  abbrev pub CarriesNext : Replay S g → Replay S g → Settings → List (List ℕ) → List (Entry Global) → List (Entry Global) → ℕ → Bool → Type 0
  CarriesNext old new s steps before after most false = (all_of new ≡ all_of old) × (given_out new ≡ given_out old) × (given_out new ≡ all_of new) × (after ≡ before)
  CarriesNext old new s steps before after most true = (all_of new ≡ all_of old)
      × ((request : StoredRequest) × (given_out new ≡ given_out old ++ request ∷ [])
      × ((e : Entry Global) → IsWritableEntry e → recorded e ≡ request.asked → length after ≤ most
      → (es : List (Entry Global)) → legal s (e ∷ es) ≡ true → past before ≡ left_for s steps es → past after ≡ left_for s steps (e ∷ es)))
