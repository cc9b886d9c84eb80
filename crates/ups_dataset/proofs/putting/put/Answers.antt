use Rattle.std.proofs.Common.{◌≡◌, rules, arith, true, false, map, length, ap}
use Rattle.ups_dataset.specs.View.{element_view}
use Rattle.ups_dataset.specs.Data.{place_in, stands_at}
use Rattle.ups_dataset.proofs.Places.{put_over, put_between, place_within, stands_within}
use Rattle.ups_dataset.proofs.putting.put.Goals as goal

pub index_mut-requires : goal.index_mut-requires
index_mut-requires g c =
    let stands : stands_at c.args.element.tag c.place_of-place.result (map element_view c.args.elements.now.items) ≡ true = search rules in
    omega (arith, stands_within c.args.element.tag c.args.elements.now.items c.place_of-place.result stands, c.deref.ensures.len, ap length c.deref.ensures.value)

pub returns-then-stands_at-clause-ok : goal.returns-then-stands_at-clause-ok
returns-then-stands_at-clause-ok g c =
    let place : c.place_of-place.result ≡ place_in c.args.element.tag (map element_view c.args.elements.now.items) = search rules in
    let stands : stands_at c.args.element.tag (place_in c.args.element.tag (map element_view c.args.elements.now.items)) (map element_view c.args.elements.now.items) ≡ true = search rules in
    rw place (put_over c.args.elements.now.items c.args.element stands)

pub insert-requires : goal.insert-requires
insert-requires g c =
    let place : c.place_of-place.result ≡ place_in c.args.element.tag (map element_view c.args.elements.now.items) = search rules in
    omega (arith, place, place_within c.args.element.tag c.args.elements.now.items, c.deref.ensures.len, ap length c.deref.ensures.value)

pub returns-clause-ok : goal.returns-clause-ok
returns-clause-ok g c =
    let place : c.place_of-place.result ≡ place_in c.args.element.tag (map element_view c.args.elements.now.items) = search rules in
    let stands : stands_at c.args.element.tag (place_in c.args.element.tag (map element_view c.args.elements.now.items)) (map element_view c.args.elements.now.items) ≡ false = search rules in
    rw (c.in_ok-insert.ensures.items, place) (put_between 0 c.args.elements.now.items c.args.element (record { group = search rules; element = search rules }) c.requires stands)
