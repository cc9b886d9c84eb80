use Rattle.std.proofs.lemmas.List.Sorted.{IsNonDecreasingBy-from_sort}
use Rattle.ups_dataset.proofs.Listings.{tags_more, numbers_more, lists_all}
use Rattle.ups_dataset.proofs.listing.sorted_numbers.Goals as goal

pub loop-tag-preserved : goal.loop-tag-preserved
loop-tag-preserved g c = record {
  fit = tags_more c.args.tags.now c.loop-tag.tag-index _ c.loop-tag-test.true c.loop-tag.invariant.fit c.number_of.ensures.fits;
  same = rw (c.in_ok-push.ensures.items, c.number_of.ensures.number) (numbers_more c.args.tags.now c.loop-tag.tag-index _ c.loop-tag.numbers.items c.loop-tag-test.true c.loop-tag.invariant.same);
}

pub returns : goal.returns
returns g c =
    lists_all c.args.tags.now c.loop-tag.tag-index c.loop-tag.numbers.items c.sort.new.self.items c.loop-tag-test.false c.loop-tag.invariant.fit c.loop-tag.invariant.same
    c.in_ok-sort.ensures.permutation (IsNonDecreasingBy-from_sort (λ x. x) c.sort.new.self.items c.in_ok-sort.ensures.sorted)
