use Rattle.std.proofs.Common.{sym, ◌∙◌}
use Rattle.ups_assoc.proofs.Steps.{feeds_failed, feeds_unknown, feeds_err, feeds_more, feeds_whole}
use Rattle.ups_assoc.proofs.assembling.Assembler.feed.Goals as goal

pub returns-then-has_failed-clause-feeds : goal.returns-then-has_failed-clause-feeds
returns-then-has_failed-clause-feeds g c =
    let failed = sym c.has_failed.ensures ∙ c.if-has_failed.true in
    rw (c.replace-begun.ensures.after, ← c.self.view_is, ← c.replace-begun.ensures.value) (feeds_failed g.row.A.Denot c.self.inside.ids.items c.replace-begun.result c.args.pdv failed)

pub returns-then-not-contains-clause-feeds : goal.returns-then-not-contains-clause-feeds
returns-then-not-contains-clause-feeds g c =
    let failed = sym c.has_failed.ensures ∙ c.if-has_failed.false in
    let among = rw c.as_slice.ensures.value at (sym c.contains.ensures.value ∙ c.if-not-contains.true) in
    rw (c.replace-begun.ensures.after, ← c.self.view_is, ← c.replace-begun.ensures.value) (feeds_unknown g.row.A.Denot c.self.inside.ids.items c.replace-begun.result c.args.pdv failed among)

pub returns-in-Err-clause-feeds : goal.returns-in-Err-clause-feeds
returns-in-Err-clause-feeds g c =
    let failed = sym c.has_failed.ensures ∙ c.if-has_failed.false in
    let among = rw c.as_slice.ensures.value at (sym c.contains.ensures.value ∙ c.if-not-contains.false) in
    rw (c.replace-begun.ensures.after, ← c.self.view_is, ← c.replace-begun.ensures.value)
    (feeds_err g.row.A.Denot c.self.inside.ids.items c.replace-begun.result c.args.pdv c.in-Err.fault failed among c.in-Err.ensures)

pub returns-in-Ok-More-clause-feeds : goal.returns-in-Ok-More-clause-feeds
returns-in-Ok-More-clause-feeds g c =
    let failed = sym c.has_failed.ensures ∙ c.if-has_failed.false in
    let among = rw c.as_slice.ensures.value at (sym c.contains.ensures.value ∙ c.if-not-contains.false) in
    let ends = rw c.in-Ok-More.field-0-is at c.in-Ok-More.ensures in
    rw (← c.self.view_is, ← c.replace-begun.ensures.value) (feeds_more g.row.A.Denot c.self.inside.ids.items c.replace-begun.result c.args.pdv c.in-Ok-More.begun failed among ends)

pub returns-in-Ok-Whole-clause-feeds : goal.returns-in-Ok-Whole-clause-feeds
returns-in-Ok-Whole-clause-feeds g c =
    let failed = sym c.has_failed.ensures ∙ c.if-has_failed.false in
    let among = rw c.as_slice.ensures.value at (sym c.contains.ensures.value ∙ c.if-not-contains.false) in
    let ends = rw c.in-Ok-Whole.field-0-is at c.in-Ok-Whole.ensures in
    rw (← c.self.view_is, ← c.replace-begun.ensures.value) (feeds_whole g.row.A.Denot c.self.inside.ids.items c.replace-begun.result c.args.pdv c.in-Ok-Whole.message failed among ends)
