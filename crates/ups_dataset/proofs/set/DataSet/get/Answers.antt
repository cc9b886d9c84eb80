use Rattle.std.proofs.Common.{◌≡◌, rules, arith, true, false, length, map, ap}
use Rattle.ups_dataset.specs.View.{element_view}
use Rattle.ups_dataset.specs.Data.{place_in, stands_at}
use Rattle.ups_dataset.proofs.Places.{stands_within}
use Rattle.ups_dataset.proofs.Halves.{got_none, got_some}
use Rattle.ups_dataset.proofs.set.DataSet.get.Goals as goal

pub returns-then-not-stands_at : goal.returns-then-not-stands_at
returns-then-not-stands_at g c =
    let place : c.place_of-place.result ≡ place_in c.args.tag (map element_view c.self.inside.elements.items) = rw c.deref.ensures.value at c.place_of-place.ensures in
    let stands : stands_at c.args.tag c.place_of-place.result (map element_view c.self.inside.elements.items) ≡ false = search rules in
    rw (← c.self.view_is) (got_none c.args.tag c.self.inside.elements.items c.place_of-place.result place c.self.invariant.is stands)

pub index-requires : goal.index-requires
index-requires g c =
    let stands : stands_at c.args.tag c.place_of-place.result (map element_view c.self.inside.elements.items) ≡ true = search rules in
    omega (arith, stands_within c.args.tag c.self.inside.elements.items c.place_of-place.result stands, c.deref.ensures.len, ap length c.deref.ensures.value)

pub returns : goal.returns
returns g c =
    let stands : stands_at c.args.tag c.place_of-place.result (map element_view c.self.inside.elements.items) ≡ true = search rules in
    rw (← c.self.view_is) (got_some c.args.tag c.self.inside.elements.items c.place_of-place.result c.index.result.now c.index.ensures c.self.invariant.is stands)
