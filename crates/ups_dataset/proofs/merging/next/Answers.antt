use Rattle.std.proofs.Common.{◌≡◌, ◌<◌, ◌≤◌, rules, true, false}
use Rattle.ups_dataset.specs.Tag.{number, is_tag}
use Rattle.ups_dataset.proofs.Merges.{first_and_rest, no_first, only_below, only_above, lower_first, same_first, higher_first}
use Rattle.ups_dataset.proofs.merging.next.Goals as goal

pub returns-in_default : goal.returns-in_default
returns-in_default g c = only_below _ _ _ _ (no_first c.args.above.now c.in_default.len_below) (first_and_rest c.args.below.now c.lower-item.result c.in-len1-up-below.len_at_least c.lower-item.is) c.requires.below_rises

pub returns-in_default-below-2 : goal.returns-in_default-below-2
returns-in_default-below-2 g c = only_above _ _ _ _ (first_and_rest c.args.above.now c.upper-item.result c.in-len1-up.len_at_least c.upper-item.is) (no_first c.args.below.now c.in_default-below-2.len_below) c.requires.above_rises

pub returns-then-number : goal.returns-then-number
returns-then-number g c =
    let less : number c.lower-item-2.result.tag < number c.upper-item.result.tag = search rules in
    lower_first _ _ _ _ _ _ (first_and_rest c.args.above.now c.upper-item.result c.in-len1-up.len_at_least c.upper-item.is) (first_and_rest c.args.below.now c.lower-item-2.result c.in-len1-up-below-2.len_at_least c.lower-item-2.is) less c.requires.above_rises c.requires.below_rises

pub returns-then-eq : goal.returns-then-eq
returns-then-eq g c =
    let same : is_tag c.lower-item-2.result.tag c.upper-item.result.tag ≡ true = search rules in
    same_first _ _ _ _ _ _ (first_and_rest c.args.above.now c.upper-item.result c.in-len1-up.len_at_least c.upper-item.is) (first_and_rest c.args.below.now c.lower-item-2.result c.in-len1-up-below-2.len_at_least c.lower-item-2.is) same c.requires.above_rises c.requires.below_rises

pub returns : goal.returns
returns g c =
    let other : is_tag c.lower-item-2.result.tag c.upper-item.result.tag ≡ false = search rules in
    let le : number c.upper-item.result.tag ≤ number c.lower-item-2.result.tag = search rules in
    higher_first _ _ _ _ _ _ (first_and_rest c.args.above.now c.upper-item.result c.in-len1-up.len_at_least c.upper-item.is) (first_and_rest c.args.below.now c.lower-item-2.result c.in-len1-up-below-2.len_at_least c.lower-item-2.is) other le c.requires.above_rises c.requires.below_rises
