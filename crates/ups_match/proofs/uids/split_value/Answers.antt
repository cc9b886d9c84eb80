use Rattle.std.proofs.lemmas.List.{nil_from_length}
use Rattle.std.proofs.Common.{[], ap}
use Rattle.std.specs.List.{slice_split}
use Rattle.ups_match.specs.Values.{is_backslash}
use Rattle.ups_match.proofs.UidSets.{behind_first_value, first_of_values}
use Rattle.ups_match.proofs.uids.split_value.Goals as goal

pub returns-in-Some-clause-values : goal.returns-in-Some-clause-values
returns-in-Some-clause-values c =
    first_of_values c.args.text.now c.split_at.result.0.now c.split_at.result.1.now c.value_len.result (slice_split is_backslash c.in-Some.others.now) c.value_len.ensures.value c.split_at.ensures.front c.split_at.ensures.back (ap behind_first_value c.in-Some.ensures.cases.0)

pub returns-in-None-clause-values : goal.returns-in-None-clause-values
returns-in-None-clause-values c =
    first_of_values c.args.text.now c.split_at.result.0.now c.split_at.result.1.now c.value_len.result [] c.value_len.ensures.value c.split_at.ensures.front c.split_at.ensures.back (ap behind_first_value (nil_from_length c.split_at.result.1.now c.in-None.ensures.cases))
