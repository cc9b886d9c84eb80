use Rattle.std.proofs.Common.{ℕ, inl, inr}
use Rattle.std.specs.Prelude.{Contains}
use Rattle.std.proofs.lemmas.List.Sorted.{Contains-permutation, IsNonDecreasingBy-from_sort}
use Rattle.ups_index.proofs.slots.places_of.Goals as goal

pub returns-clause-sorted : goal.returns-clause-sorted
returns-clause-sorted g c = IsNonDecreasingBy-from_sort (λ (n : ℕ). n) _ c.sort_unstable.ensures.sorted

pub returns-clause-has : goal.returns-clause-has
returns-clause-has g c number place h low high =
    let found : Contains c.add_places.new.places.items place = elim (c.runs-run.ensures number place h low high) [
      | inl x ↦ c.in_ok-add_places.ensures.keeps place (c.in_ok-add_run.ensures.has number place x)
      | inr y ↦ c.in_ok-add_places.ensures.has number place y low high
    ] in
    Contains-permutation _ _ place c.sort_unstable.ensures.permutation found
