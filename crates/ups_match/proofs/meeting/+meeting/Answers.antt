use Rattle.std.proofs.Common.{◌≡◌, false, w16, arith, rules, sym, ◌∙◌}
use Rattle.std.proofs.lemmas.Int.{to_z-of_z}
use Rattle.ups_dataset.specs.Data.{elements_of}
use Rattle.ups_match.proofs.KeyWalks.{value_at_is}
use Rattle.ups_match.proofs.PreparedWalks.{none_met, not_met_here, prepared_weight}
use Rattle.ups_match.proofs.meeting.+meeting.Goals as goal

pub is_met-returns-in_default : goal.is_met-returns-in_default
is_met-returns-in_default g t c =
    let none = rw c.tag.ensures at c.in_default.ensures in
    rw (value_at_is c.args.key.now.tag c.args.row.now, none) (none_met c.args.offset c.args.key.now.tag c.args.key.now.value)

pub is_met-returns-in-Uids-Bytes : goal.is_met-returns-in-Uids-Bytes
is_met-returns-in-Uids-Bytes g t c =
    let found = rw c.tag.ensures at c.in-Some.ensures in
    rw (value_at_is c.args.key.now.tag c.args.row.now, found, c.in-Uids-Bytes.is-0, c.in-Uids-Bytes.is-1)
    (rw (to_z-of_z w16 c.args.offset c.ranges.offset, c.rule.ensures, c.as_slice.ensures) at c.is_met.ensures)

pub is_met-returns-in-Text-Bytes : goal.is_met-returns-in-Text-Bytes
is_met-returns-in-Text-Bytes g t c =
    let found = rw c.tag.ensures at c.in-Some.ensures in
    rw (value_at_is c.args.key.now.tag c.args.row.now, found, c.in-Text-Bytes.is-0, c.in-Text-Bytes.is-1)
    (rw (to_z-of_z w16 c.args.offset c.ranges.offset, c.rule-in-Text-Bytes.ensures, c.as_slice-in-Text-Bytes.ensures.value, c.as_slice-in-Text-Bytes-2.ensures) at c.is_text_met.ensures)

pub is_met-returns-in-Item-Items : goal.is_met-returns-in-Item-Items
is_met-returns-in-Item-Items g t c =
    let same : c.deref.result.now ≡ c.in-Item-Items.sets.items = search rules in
    let found = rw c.tag.ensures at c.in-Some.ensures in
    rw (value_at_is c.args.key.now.tag c.args.row.now, found, c.in-Item-Items.is-0, c.in-Item-Items.is-1)
    (rw (to_z-of_z w16 c.args.offset c.ranges.offset, same) at c.any_meets.ensures)

pub is_met-returns-in_default-2 : goal.is_met-returns-in_default-2
is_met-returns-in_default-2 g t c =
    let found = rw c.tag.ensures at c.in-Some.ensures in
    rw (value_at_is c.args.key.now.tag c.args.row.now, found, c.in_default-2.is-0, c.in_default-2.is-1)

pub is_met-returns-in_default-2-2 : goal.is_met-returns-in_default-2-2
is_met-returns-in_default-2-2 g t c =
    let found = rw c.tag.ensures at c.in-Some.ensures in
    rw (value_at_is c.args.key.now.tag c.args.row.now, found, c.in_default-2.is-0, c.in_default-2.is-1)

pub is_met-returns-in_default-2-3 : goal.is_met-returns-in_default-2-3
is_met-returns-in_default-2-3 g t c =
    let found = rw c.tag.ensures at c.in-Some.ensures in
    rw (value_at_is c.args.key.now.tag c.args.row.now, found, c.in_default-2.is-0, c.in_default-2.is-1)

pub meets_all-is_met-requires : goal.meets_all-is_met-requires
meets_all-is_met-requires g t c = λ κs within. (omega (arith, c.decreases, prepared_weight c.keys-key-items.result.now c.args.keys.now c.loop-key.key-index c.key-item.result c.keys-key-items.ensures (search rules) c.key-item.is), within)

pub meets_all-returns-then-not-is_met : goal.meets_all-returns-then-not-is_met
meets_all-returns-then-not-is_met g t c =
    let fails : c.is_met.result ≡ false = search rules in
    let key = rw (to_z-of_z w16 c.args.offset c.ranges.offset) at c.is_met.ensures in
    not_met_here c.args.offset (elements_of c.args.row.now) c.keys-key-items.result.now c.loop-key.key-index c.key-item.result c.loop-key-test.true c.key-item.is (sym key ∙ fails) ∙ (rw (to_z-of_z w16 c.args.offset c.ranges.offset) at c.loop-key.invariant)
