use Rattle.std.proofs.Common.{arith, rules, refl, None, Some}
use Rattle.ups_match.proofs.KeyWalks.{element_weight}
use Rattle.ups_match.proofs.PreparedWalks.{one_more, are_all}
use Rattle.ups_match.proofs.preparing.+preparing.Goals as goal
use Rattle.ups_match.proofs.preparing.+preparing.Goals.{prepare_keys-in-Some+in_ok-push, prepare_keys-in_default}

pub prepare_keys-prepare_key-requires : goal.prepare_keys-prepare_key-requires
prepare_keys-prepare_key-requires g t c = λ κs within. (omega (arith, c.decreases, element_weight c.elements-key-items.result.now c.args.keys.now c.loop-key.key-index c.key-item.result c.elements-key-items.ensures (search rules) c.key-item.is), within)

pub prepare_keys-loop-key-preserved : goal.prepare_keys-loop-key-preserved
prepare_keys-loop-key-preserved g t c =
    elim c.match-branch-2.branch [
      | prepare_keys-in-Some+in_ok-push w ↦
          one_more c.elements-key-items.result.now c.loop-key.key-index c.key-item.result c.args.keys.now (Some w.in-Some.value) c.loop-key.prepared.items c.match-branch-2.prepared.items
          c.loop-key.invariant c.loop-key-test.true c.key-item.is (rw w.in-Some.is at c.in_ok-value.ensures) (rw w.prepared-is (rw w.of.ensures at w.in_ok-push.ensures.items))
      | prepare_keys-in_default w ↦
          one_more c.elements-key-items.result.now c.loop-key.key-index c.key-item.result c.args.keys.now None c.loop-key.prepared.items c.match-branch-2.prepared.items
          c.loop-key.invariant c.loop-key-test.true c.key-item.is (rw w.in_default.is at c.in_ok-value.ensures) (rw w.prepared-is refl)
    ]

pub prepare_keys-returns : goal.prepare_keys-returns
prepare_keys-returns g t c =
    let same = are_all c.elements-key-items.result.now c.loop-key.key-index c.args.keys.now c.loop-key.prepared.items c.loop-key.invariant c.loop-key-test.false in
    rw c.from_vec.ensures record { same = same }
