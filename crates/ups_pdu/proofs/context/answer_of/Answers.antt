use Rattle.std.proofs.Common.{refl, rules, sym, ◌∙◌}
use Rattle.std.specs.Option.{option_copied}
use Rattle.ups_pdu.specs.Item.{contents}
use Rattle.ups_pdu.specs.Lengths.{AnyContent, AreFilled}
use Rattle.ups_pdu.proofs.Filling.{filled_from_items, items_of_filled}
use Rattle.ups_pdu.proofs.ContextWays.{refused_content}
use Rattle.ups_pdu.proofs.context.answer_of.Goals as goal

pub returns-then-not-items_fill : goal.returns-then-not-items_fill
returns-then-not-items_fill c = λ answer s. let filled : AreFilled AnyContent c.args.text.now = (s.items, filled_from_items _ s.items s.each) in search rules

pub returns-then-outcome-eq0 : goal.returns-then-outcome-eq0
returns-then-outcome-eq0 c =
    let filled : AreFilled AnyContent c.args.text.now = search rules in
    let each = items_of_filled AnyContent c.args.text.now filled.0 filled.1 in
    record {
      items = filled.0;
      each = each;
      only = sym (c.has_only.ensures filled.0 each) ∙ c.if-not-has_only.false;
      is = (c.if-outcome-eq0.true, c.in_ok-uid.ensures (contents 0x40 filled.0) (record { items = filled.0; each = each; are = refl }));
    }

pub returns-in_err-optional_content : goal.returns-in_err-optional_content
returns-in_err-optional_content c =
    rw c.from_residual-in_err-optional_content.ensures
    (λ answer s.
    let content = refused_content _ _ answer s.is c.if-outcome-eq0.false in
    c.in_err-optional_content.ensures (contents 0x40 s.items) (record { items = s.items; each = s.each; are = refl }) content.0 content.1)

pub returns : goal.returns
returns c =
    let filled : AreFilled AnyContent c.args.text.now = search rules in
    let each = items_of_filled AnyContent c.args.text.now filled.0 filled.1 in
    record {
      items = filled.0;
      each = each;
      only = sym (c.has_only.ensures filled.0 each) ∙ c.if-not-has_only.false;
      is = (refl, c.if-outcome-eq0.false, option_copied c.in_ok-optional_content.field-0, c.in_ok-optional_content.ensures (contents 0x40 filled.0) (record { items = filled.0; each = each; are = refl }));
    }
