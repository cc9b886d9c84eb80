use Rattle.std.proofs.Common.{◌≡◌, false, w16, arith, rules, sym, ◌∙◌}
use Rattle.std.proofs.lemmas.Int.{to_z-of_z}
use Rattle.ups_dataset.specs.Data.{elements_of}
use Rattle.ups_match.proofs.KeyWalks.{element_weight, no_match_here, value_at_is}
use Rattle.ups_match.proofs.matching.+matching.Goals as goal

pub all_match-key_matches-requires : goal.all_match-key_matches-requires
all_match-key_matches-requires g t c = λ κs within. (omega (arith, c.decreases, element_weight c.elements-key-items.result.now c.args.keys.now c.loop-key.key-index c.key-item.result c.elements-key-items.ensures (search rules) c.key-item.is), within)

pub all_match-returns-then-not-key_matches : goal.all_match-returns-then-not-key_matches
all_match-returns-then-not-key_matches g t c =
    let fails : c.key_matches.result ≡ false = search rules in
    let key = rw (to_z-of_z w16 c.args.offset c.ranges.offset) at c.key_matches.ensures in
    no_match_here c.args.offset (elements_of c.args.row.now) c.elements-key-items.result.now c.loop-key.key-index c.key-item.result c.loop-key-test.true c.key-item.is (sym key ∙ fails) ∙ (rw (to_z-of_z w16 c.args.offset c.ranges.offset) at c.loop-key.invariant)

pub stored_item_matches-returns-in_default : goal.stored_item_matches-returns-in_default
stored_item_matches-returns-in_default g t c = rw (value_at_is c.args.tag c.args.row.now, c.in_default.ensures)

pub stored_item_matches-returns-in-Bytes : goal.stored_item_matches-returns-in-Bytes
stored_item_matches-returns-in-Bytes g t c = rw (value_at_is c.args.tag c.args.row.now, c.in-Some.ensures, c.in-Bytes.is)

pub stored_item_matches-returns-in-Items : goal.stored_item_matches-returns-in-Items
stored_item_matches-returns-in-Items g t c =
    let same : c.deref.result.now ≡ c.in-Items.sets.items = search rules in
    rw (value_at_is c.args.tag c.args.row.now, c.in-Some.ensures, c.in-Items.is)
    (rw (to_z-of_z w16 c.args.offset c.ranges.offset, same) at c.any_item.ensures)
