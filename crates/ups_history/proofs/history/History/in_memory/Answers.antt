use Rattle.std.proofs.Common.{arith, length-append}
use Rattle.std.proofs.lemmas.Map.Entries.{length-keys_of}
use Rattle.indexmap.specs.IndexMap.{keys}
use Rattle.ups_history.specs.Kept.{joined, places_from}
use Rattle.ups_history.proofs.Places.{length-places_from}
use Rattle.ups_history.proofs.history.History.in_memory.Goals as goal

pub returns : goal.returns
returns g c =
    let h = c.self.inside in
    let all = length-append (joined h.gone.items) h.recent.items in
    let kept = length-append (places_from h.aside_from h.aside.items) (keys h.older) in
    let places = length-places_from h.aside_from h.aside.items in
    let older = length-keys_of h.older.entries in
    rw (← c.self.view_is) (omega (arith, all, kept, places, older, c.self.invariant.counted, h.recent.ok.0, h.aside.ok.0, c.len.ensures, c.len-2.ensures, c.len-3.ensures.len, c.saturating_add.ensures, c.saturating_add-2.ensures))
