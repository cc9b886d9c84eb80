use Rattle.std.proofs.Common.{◌∙◌, rules}
use Rattle.std.specs.List.Sorted.{IsBinarySearchResult}
use Rattle.std.specs.Ordering.{nat_cmp}
use Rattle.ups_dataset.specs.Tag.{number}
use Rattle.ups_dataset.proofs.Listings.{found_number, listed_by}
use Rattle.ups_dataset.proofs.listing.is_listed.Goals as goal

pub returns : goal.returns
returns c = λ tags lists.
    let place : IsBinarySearchResult (λ y. nat_cmp y (number c.args.tag)) c.args.numbers.now c.binary_search.result = rw c.number.ensures at c.binary_search.ensures.position in
    c.is_ok.ensures.value ∙ found_number c.args.numbers.now (number c.args.tag) c.binary_search.result place c.requires
    ∙ listed_by c.args.tag tags c.args.numbers.now (record { group = search rules; element = search rules }) lists
