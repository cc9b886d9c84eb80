use Rattle.std.proofs.Common.{refl, rules, sym, ◌∙◌}
use Rattle.ups_pdu.specs.Identifier.{SpellsUid}
use Rattle.ups_pdu.specs.Item.{contents}
use Rattle.ups_pdu.specs.Lengths.{AnyContent, AreFilled}
use Rattle.ups_pdu.proofs.Filling.{filled_from_items, items_of_filled}
use Rattle.ups_pdu.proofs.Contents.{some_contents, some_things}
use Rattle.ups_pdu.proofs.context.abstract_syntax_of.Goals as goal

pub returns-then-not-items_fill : goal.returns-then-not-items_fill
returns-then-not-items_fill c = λ uid uids s. let filled : AreFilled AnyContent c.args.text.now = (s.items, filled_from_items _ s.items s.each) in search rules

pub returns-then-not-has : goal.returns-then-not-has
returns-then-not-has c = λ uid uids s.
    let t = (c.has.ensures (contents 0x40 s.items) (record { items = s.items; each = s.each; are = refl })).1 (some_contents SpellsUid _ uids s.transfer_syntaxes s.some) in
    cc

pub returns-then-not-are_all : goal.returns-then-not-are_all
returns-then-not-are_all c = λ uid uids s.
    let t = (c.are_all.ensures (contents 0x40 s.items) (record { items = s.items; each = s.each; are = refl })).1 (uids, s.transfer_syntaxes) in
    cc

pub returns : goal.returns
returns c =
    let filled : AreFilled AnyContent c.args.text.now = search rules in
    let each = items_of_filled AnyContent c.args.text.now filled.0 filled.1 in
    let uids = (c.are_all.ensures (contents 0x40 filled.0) (record { items = filled.0; each = each; are = refl })).0 c.if-not-are_all.false in (
      uids.0,
      record {
        items = filled.0;
        each = each;
        only = sym (c.has_only.ensures filled.0 each) ∙ c.if-not-has_only.false;
        abstract_syntax = c.in_ok-uid.ensures (contents 0x30 filled.0) (record { items = filled.0; each = each; are = refl });
        transfer_syntaxes = uids.1;
        some = some_things SpellsUid _ uids.0 uids.1 ((c.has.ensures (contents 0x40 filled.0) (record { items = filled.0; each = each; are = refl })).0 c.if-not-has.false);
      },
    )
