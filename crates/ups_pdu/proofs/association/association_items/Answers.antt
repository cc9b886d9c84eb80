use Rattle.std.proofs.Common.{◌≡◌, refl, rules, sym, ◌∙◌, ap, length, arith, Some, []}
use Rattle.ups_pdu.specs.Item.{contents}
use Rattle.ups_pdu.specs.Lengths.{AnyContent, AreFilled}
use Rattle.ups_pdu.proofs.Filling.{filled_from_items, items_of_filled}
use Rattle.ups_pdu.proofs.Contents.{some_contents, some_things}
use Rattle.ups_pdu.proofs.association.association_items.Goals as goal

pub returns-then-not-items_fill : goal.returns-then-not-items_fill
returns-then-not-items_fill g c = λ uid contexts user s. let filled : AreFilled AnyContent c.args.bytes.now = (s.items, filled_from_items _ s.items s.each) in search rules

pub returns-in_err-optional_content : goal.returns-in_err-optional_content
returns-in_err-optional_content g c =
    rw c.from_residual-in_err-optional_content.ensures
    (λ uid contexts user s. c.in_err-optional_content.ensures (contents 0x50 s.items) (record { items = s.items; each = s.each; are = refl }) (Some user) s.user_information)

pub returns-in_err-user_information : goal.returns-in_err-user_information
returns-in_err-user_information g c =
    rw c.from_residual-in_err-user_information.ensures
    (λ uid contexts user s.
    let none : contents 0x50 s.items ≡ [] = rw c.in_err-user_information.was at (c.in_ok-optional_content.ensures (contents 0x50 s.items) (record { items = s.items; each = s.each; are = refl })) in
    omega (arith, ap length none, ap length s.user_information))

pub returns-then-not-has : goal.returns-then-not-has
returns-then-not-has g c = λ uid contexts user s.
    let t = (c.has.ensures (contents c.args.kind s.items) (record { items = s.items; each = s.each; are = refl })).1 (some_contents g.T.Spelled.spells _ contexts s.each_context s.some) in
    cc

pub returns-then-not-are_all : goal.returns-then-not-are_all
returns-then-not-are_all g c = λ uid contexts user s.
    let t = (c.are_all.ensures (contents c.args.kind s.items) (record { items = s.items; each = s.each; are = refl })).1 (contexts, s.each_context) in
    cc

pub returns : goal.returns
returns g c =
    let filled : AreFilled AnyContent c.args.bytes.now = search rules in
    let each = items_of_filled AnyContent c.args.bytes.now filled.0 filled.1 in
    let contexts = (c.are_all.ensures (contents c.args.kind filled.0) (record { items = filled.0; each = each; are = refl })).0 c.if-not-are_all.false in (
      contexts.0,
      record {
        items = filled.0;
        each = each;
        only = sym (c.has_only.ensures filled.0 each) ∙ c.if-not-has_only.false;
        application_context = c.in_ok-application_context.ensures (contents 0x10 filled.0) (record { items = filled.0; each = each; are = refl });
        each_context = contexts.1;
        some = some_things g.T.Spelled.spells _ contexts.0 contexts.1 ((c.has.ensures (contents c.args.kind filled.0) (record { items = filled.0; each = each; are = refl })).0 c.if-not-has.false);
        ids = (c.ids_differ.ensures (contents c.args.kind filled.0) (record { items = filled.0; each = each; are = refl })).0 c.if-not-ids_differ.false;
        user_information = rw c.in_ok-user_information.was at (c.in_ok-optional_content.ensures (contents 0x50 filled.0) (record { items = filled.0; each = each; are = refl }));
      },
    )
