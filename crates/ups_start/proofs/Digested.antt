-- The digest of records behind others.
use Rattle.std.proofs.Common.{◌≡◌, ℕ, ◌+◌, List, [], ◌++◌, length, take, sym, subst, ap, ◌∙◌, arith}
use Rattle.std.proofs.lemmas.List.{length-append, append-nil, take_all}
use Rattle.std.proofs.lemmas.List.Sums.{fold-append}
use Rattle.std.specs.declared.alloc.Global.{Global}
use Rattle.ups_journal.specs.declared.record.Record.{Record}
use Rattle.ups_store.specs.Digest.{digest_with, digest_after, digest_of}
use Rattle.ups_ledger.specs.Behind.{AreBehind}
use Rattle.ups_start.specs.declared.front.Front.{Front}
use Rattle.ups_start.specs.Front.{AreFront, front_with}
use Rattle.ups_start.specs.declared.shelf.DraftFront.{DraftFront}
use Rattle.ups_start.specs.declared.shelf.DraftFront.TheVariants.{Unknown, Known, InDoubt}
use Rattle.ups_start.specs.Reopened.{HasBehind, AreBehindSame}
use Rattle.ups_start.specs.Shelved.{AreKnown}

-- records behind others
pub digest_behind : (old records : List (Record Global)) (digest : ℕ) → digest_of old ≡ digest → digest_of (old ++ records) ≡ digest_after digest records
digest_behind old records digest is = fold-append digest_with 0 old records ∙ ap (λ (d : ℕ). digest_after d records) is

-- the front with these records behind it
pub front_behind : (old new records : List (Record Global)) (front : Front) → AreFront old front → new ≡ old ++ records → AreFront new (front_with front records)
front_behind old new records front was is = record {
  many = ap length is ∙ (length-append old records ∙ ap (λ (n : ℕ). n + length records) was.many);
  same = ap digest_of is ∙ digest_behind old records front.digest was.same;
}

-- records behind the front that was committed are as many as the front has with these behind it, with its digest
pub front_of_behind : (all records : List (Record Global)) (front : Front) → AreBehindSame all front records → AreFront all (front_with front records)
front_of_behind all records front behind = front_behind behind.front all records front behind.same behind.are

-- the same records have the same front
pub front_same : (old new : List (Record Global)) (front : Front) → AreFront old front → new ≡ old → AreFront new front
front_same old new front was is = subst (λ (rs : List (Record Global)). AreFront rs front) (sym is) was

-- nothing is behind them
pub front_alone : (all : List (Record Global)) (front : Front) (there : ℕ) → HasBehind all front [] there → AreFront all front
front_alone all front there has = front_same has.front all front has.same (has.are ∙ none)
  where
    none : has.front ++ take there [] ≡ has.front
    none = ap (λ (rs : List (Record Global)). has.front ++ rs) (take_all there [] (omega arith)) ∙ append-nil has.front

-- they are behind as many as were committed
pub are_behind : (all records : List (Record Global)) (front : Front) → AreBehindSame all front records → AreBehind all front.count records
are_behind all records front behind = record { front = behind.front; many = behind.same.many; are = behind.are }

-- nothing is known of them
pub nothing_known : (drafts : List (Record Global)) → AreKnown drafts Unknown
nothing_known drafts front is = cc

pub doubt_known : (drafts : List (Record Global)) (doubtful : Front) → AreKnown drafts (InDoubt doubtful)
doubt_known drafts doubtful front is = cc

-- what is known of the drafts is known of the same ones
pub known_same : (old new : List (Record Global)) (known : DraftFront) → AreKnown old known → new ≡ old → AreKnown new known
known_same old new known was is = subst (λ (rs : List (Record Global)). AreKnown rs known) (sym is) was
