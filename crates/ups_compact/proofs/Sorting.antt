-- UIDs that are put in order a few at a time.
use Rattle.std.proofs.Common.{◌≡◌, ◌≤◌, ℕ, ◌+◌, Bool, true, false, ◌||◌, List, length, take, drop, refl, ap, sym, ◌∙◌}
use Rattle.std.proofs.lemmas.List.Folds.{list_any-append}
use Rattle.std.proofs.Math.Seq.{take-add}
use Rattle.std.specs.Str.{bytes_eq}
use Rattle.std.specs.BTreeSet.{BTreeSet}
use Rattle.std.specs.declared.vec.Vec.{Vec}
use Rattle.ups_match.specs.Uids.{has_uid}
use Rattle.ups_life.specs.Watching.{is_among}
use Rattle.ups_compact.specs.Sorting.{AreSorted}

or_turned : (a b : Bool) → (a || b) ≡ (b || a)
or_turned true true = refl
or_turned true false = refl
or_turned false true = refl
or_turned false false = refl

-- one of the first steps, or of those behind them
among_more : (uid : List ℕ) (steps : List (List ℕ)) (n k : ℕ) → is_among uid (take (n + k) steps) ≡ (is_among uid (take n steps) || is_among uid (take k (drop n steps)))
among_more uid steps n k = ap (is_among uid) (take-add n k steps) ∙ list_any-append (λ v. bytes_eq v uid) (take n steps) (take k (drop n steps))

pub sorted_more : {Z : Type 0} (old new : BTreeSet (Vec ℕ Z)) (n k m : ℕ) (steps part : List (List ℕ)) → m ≡ n + k → m ≤ length steps → part ≡ take k (drop n steps)
    → ((uid : List ℕ) → has_uid new uid ≡ (is_among uid part || has_uid old uid)) → AreSorted old n steps → AreSorted new m steps
sorted_more old new n k m steps part sum low is put a = record {
  within = low;
  are = λ uid.
      put uid ∙ (ap (λ (p : List (List ℕ)). is_among uid p || has_uid old uid) is
      ∙ (ap (λ (b : Bool). is_among uid (take k (drop n steps)) || b) (a.are uid)
      ∙ (or_turned (is_among uid (take k (drop n steps))) (is_among uid (take n steps))
      ∙ (sym (among_more uid steps n k) ∙ ap (λ (x : ℕ). is_among uid (take x steps)) (sym sum)))));
}
