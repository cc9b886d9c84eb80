use Rattle.std.proofs.Common.{rules, tests}
use Rattle.std.specs.Str.{bytes_eq}
use Rattle.std.proofs.lemmas.Iterator.Search.{any_from_yields_List}
use Rattle.std.proofs.lemmas.Iterator.Splits.{YieldsList-from_slice_split}
use Rattle.ups_pdu.specs.Padding.{without_padding}
use Rattle.ups_match.specs.Values.{is_backslash, any_value}
use Rattle.ups_match.proofs.texts.shares_uid.Goals as goal

pub returns : goal.returns
returns c =
    any_from_yields_List (λ uid. any_value (bytes_eq (without_padding uid)) c.args.stored.now) _ _ c.any.result c.any.ensures.ran
    (YieldsList-from_slice_split _ is_backslash c.args.key.now c.split.ensures.rest c.split.ensures.done c.split.ensures.closure (λ x b q k. search (rules, tests)))
    (λ x b q k. search (rules, tests))
