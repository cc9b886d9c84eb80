use Rattle.std.proofs.Common.{rules, tests}
use Rattle.std.proofs.lemmas.Iterator.Search.{any_from_yields_List}
use Rattle.std.proofs.lemmas.Iterator.Splits.{YieldsList-from_slice_split}
use Rattle.ups_pdu.specs.Padding.{without_padding}
use Rattle.ups_match.specs.Likeness.{is_like}
use Rattle.ups_match.specs.Values.{is_backslash}
use Rattle.ups_match.proofs.texts.is_any_like.Goals as goal

pub returns : goal.returns
returns c =
    any_from_yields_List (λ value. is_like c.args.pattern.now (without_padding value)) _ _ c.any.result c.any.ensures.ran
    (YieldsList-from_slice_split _ is_backslash c.args.stored.now c.split.ensures.rest c.split.ensures.done c.split.ensures.closure (λ x b q k. search (rules, tests)))
    (λ x b q k. search (rules, tests))
