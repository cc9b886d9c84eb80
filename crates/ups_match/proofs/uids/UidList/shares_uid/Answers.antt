use Rattle.std.proofs.Common.{◌∙◌, rules, tests}
use Rattle.std.specs.Str.{bytes_eq}
use Rattle.std.proofs.lemmas.Iterator.Search.{any_from_yields_List}
use Rattle.std.proofs.lemmas.Iterator.Splits.{YieldsList-from_slice_split}
use Rattle.ups_pdu.specs.Padding.{without_padding}
use Rattle.ups_match.specs.Values.{any_value, is_backslash}
use Rattle.ups_match.proofs.UidSets.{shares_found}
use Rattle.ups_match.proofs.uids.UidList.shares_uid.Goals as goal

pub returns : goal.returns
returns g c =
    any_from_yields_List (λ value. any_value (bytes_eq (without_padding value)) c.args.self.now) _ _ c.any.result c.any.ensures.ran
    (YieldsList-from_slice_split _ is_backslash c.args.stored.now c.split.ensures.rest c.split.ensures.done c.split.ensures.closure (λ x b q k. search (rules, tests)))
    (λ x b q k. search (rules, tests))
    ∙ shares_found c.args.self.now c.args.stored.now
