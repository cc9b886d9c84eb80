-- What requests say, without the runs in which they were entered.
use Rattle.std.proofs.Common.{◌≡◌, ℕ, List, [], ◌∷◌, ◌++◌, map, refl, sym, ap, ◌∙◌}
use Rattle.std.specs.Prelude.{take, drop}
use Rattle.std.proofs.lemmas.List.{map-append, take-map, drop-map}
use Rattle.std.specs.declared.alloc.Global.{Global}
use Rattle.ups_journal.specs.declared.record.Record.{Record}
use Rattle.ups_store.specs.declared.request.StoredRequest.{StoredRequest}
use Rattle.ups_store.specs.Rows.{stored_in_run}
use Rattle.ups_start.specs.Started.{said}

pub said_entered : (run : ℕ) (records : List (Record Global)) → said (map (stored_in_run run) records) ≡ records
said_entered run [] = refl
said_entered run (r ∷ rs) = ap (λ (l : List (Record Global)). r ∷ l) (said_entered run rs)

-- with more records behind them
pub said_more : (old new : List StoredRequest) (run : ℕ) (records : List (Record Global)) → new ≡ old ++ map (stored_in_run run) records → said new ≡ said old ++ records
said_more old new run records is = ap said is ∙ (map-append (λ r. r.asked) old (map (stored_in_run run) records) ∙ ap (λ (l : List (Record Global)). said old ++ l) (said_entered run records))

-- some of them from a place on
pub said_within : (all some : List StoredRequest) (from most : ℕ) → some ≡ take most (drop from all) → said some ≡ take most (drop from (said all))
said_within all some from most is =
    ap said is ∙ (sym (take-map (λ (r : StoredRequest). r.asked) most (drop from all)) ∙ ap (take most) (sym (drop-map (λ (r : StoredRequest). r.asked) from all)))
