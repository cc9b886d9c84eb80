-- Records behind as many as were committed.
use Rattle.std.proofs.Common.{◌≡◌, ℕ, ◌-◌, List, ◌++◌, length, take, ap, ◌∙◌, append_assoc, arith}
use Rattle.std.specs.Prelude.{drop}
use Rattle.std.proofs.lemmas.List.{length-drop, take-append-drop, take_all}
use Rattle.std.specs.declared.alloc.Global.{Global}
use Rattle.ups_journal.specs.declared.record.Record.{Record}
use Rattle.ups_ledger.specs.Behind.{AreBehind}
use Rattle.ups_start.specs.declared.front.Front.{Front}
use Rattle.ups_start.specs.Reopened.{HasBehind, AreBehindSame}

pub behind_all : (old new records : List (Record Global)) (count : ℕ) → length old ≡ count → new ≡ old ++ records → AreBehind new count records
behind_all old new records count many is = record { front = old; many = many; are = is }

-- the first of them were there, and the rest was added
pub behind_rest : (old new records : List (Record Global)) (committed : Front) (there : ℕ) → HasBehind old committed records there → new ≡ old ++ take (length records - there) (drop there records) → AreBehindSame new committed records
behind_rest old new records committed there has is =
    let rest : take (length records - there) (drop there records) ≡ drop there records = take_all (length records - there) (drop there records) (omega (arith, length-drop there records)) in
    record {
      front = has.front;
      same = has.same;
      are =
          is
          ∙ (ap (λ (l : List (Record Global)). old ++ l) rest
          ∙ (ap (λ (l : List (Record Global)). l ++ drop there records) has.are
          ∙ (append_assoc has.front (take there records) (drop there records) ∙ ap (λ (l : List (Record Global)). has.front ++ l) (take-append-drop there records))));
    }
