use Rattle.std.proofs.Common.{refl, rules}
use Rattle.ups_pdu.specs.Item.{contents}
use Rattle.ups_pdu.proofs.Filling.{filled_from_items, items_of_filled}
use Rattle.ups_pdu.proofs.Contents.{never}
use Rattle.ups_pdu.specs.Lengths.{AnyContent, AreFilled}
use Rattle.ups_pdu.proofs.user.user_parts.Goals as goal

pub returns-then-not-items_fill : goal.returns-then-not-items_fill
returns-then-not-items_fill c = λ m u w r v is. let filled : AreFilled AnyContent c.args.content.now = (is.items, filled_from_items _ is.items is.each) in search rules

pub returns-in_err-implementation_version : goal.returns-in_err-implementation_version
returns-in_err-implementation_version c =
    rw c.from_residual-in_err-implementation_version.ensures
    (λ m u w r v is. c.in_err-implementation_version.ensures (contents 0x55 is.items) (record { items = is.items; each = is.each; are = refl }) v is.implementation_version)

pub returns-then-not-are_all : goal.returns-then-not-are_all
returns-then-not-are_all c = λ m u w r v is.
    let all = c.are_all.ensures (contents 0x54 is.items) (record { items = is.items; each = is.each; are = refl }) in
    let t = all.1 (r, is.each_role) in
    never _ t c.if-not-are_all.true

pub returns : goal.returns
returns c =
    let filled : AreFilled AnyContent c.args.content.now = search rules in
    let each = items_of_filled AnyContent c.args.content.now filled.0 filled.1 in
    let all = c.are_all.ensures (contents 0x54 filled.0) (record { items = filled.0; each = each; are = refl }) in
    let roles = all.0 (search rules) in (
      roles.0,
      record {
        items = filled.0;
        each = each;
        stated = c.in_ok-stated.stated;
        maximum_length = c.in_ok-stated.ensures (contents 0x51 filled.0) (record { items = filled.0; each = each; are = refl });
        or_none = c.unwrap_or.ensures;
        implementation_class = c.in_ok-implementation_class.ensures (contents 0x52 filled.0) (record { items = filled.0; each = each; are = refl });
        asynchronous_window = c.in_ok-asynchronous_window.ensures (contents 0x53 filled.0) (record { items = filled.0; each = each; are = refl });
        each_role = roles.1;
        implementation_version = c.in_ok-implementation_version.ensures (contents 0x55 filled.0) (record { items = filled.0; each = each; are = refl });
      },
    )
