-- Equal tags.
use Rattle.std.proofs.Common.{◌≡◌, true, ◌&&◌, ◌==◌, arith}
use Rattle.ups_dataset.specs.declared.tag.Tag.{Tag}
use Rattle.ups_dataset.specs.Tag.{is_tag}

pub same_tags : (s t u : Tag) → is_tag s t ≡ true → is_tag s u ≡ is_tag t u
same_tags s t u e =
    let groups : s.group ≡ t.group = grind (arith, e) in
    let elements : s.element ≡ t.element = grind (arith, e) in
    (λ i. (groups i == u.group) && (elements i == u.element))
