use Rattle.std.proofs.Common.{◌≡◌, rules, sym, ◌∙◌, false, length, nat_lt}
use Rattle.ups_dataset.specs.Tag.{is_tag}
use Rattle.ups_dataset.proofs.Places.{stands_here, stands_past}
use Rattle.ups_dataset.proofs.putting.stands_at.Goals as goal

pub returns-then-place-elements : goal.returns-then-place-elements
returns-then-place-elements g c =
    let same : c.eq.result ≡ is_tag c.index-elements-place.result.tag c.args.tag = search rules in
    same ∙ sym (stands_here c.args.tag c.args.elements.now c.args.place c.index-elements-place.result c.if-place-elements.true c.index-elements-place.is)

pub returns-else-place-elements : goal.returns-else-place-elements
returns-else-place-elements g c =
    let past : nat_lt c.args.place (length c.args.elements.now) ≡ false = search rules in
    past ∙ sym (stands_past c.args.tag c.args.elements.now c.args.place c.if-place-elements.false)
