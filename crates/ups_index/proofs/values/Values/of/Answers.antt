use Rattle.std.proofs.Common.{◌++◌, ◌∙◌, ap, flat_map, map, w16}
use Rattle.std.proofs.lemmas.Int.{to_z-of_z}
use Rattle.ups_dataset.specs.Data.{elements_of}
use Rattle.ups_match.specs.IndexedKeys.{indexed_keys}
use Rattle.ups_index.specs.Kept.{text_view}
use Rattle.ups_index.specs.Stored.{texts_under, values_of_row}
use Rattle.ups_index.proofs.values.Values.of.Goals as goal

pub returns : goal.returns
unfolding values_of_row
returns g c =
    let texts = c.in_ok-put_all.ensures ∙ ap (λ t. map text_view t ++ flat_map (texts_under (elements_of c.args.row.now)) indexed_keys) c.in_ok-texts.ensures.items in
    let start = rw (to_z-of_z w16 c.args.offset c.ranges.offset) at c.start_of-start.ensures in
    (λ i. record { texts = texts i; start = start i })
