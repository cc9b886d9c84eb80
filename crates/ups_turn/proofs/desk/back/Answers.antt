use Rattle.std.proofs.Common.{◌≡◌, None, sym, rules}
use Rattle.ups_turn.proofs.Closes.{taken_alone, not_some_none, not_none}
use Rattle.ups_turn.proofs.desk.back.Goals.{in_default-via-in-Some+in_default, in_default-via-in_default}
use Rattle.ups_turn.proofs.desk.back.Goals as goal

pub unreachable-requires : goal.unreachable-requires
unreachable-requires g c =
    let slots = c.args.refused.slots in
    let manager = c.requires.0 in
    let is = taken_alone slots.items slots.len manager c.pop.result c.requires.1 (sym slots.ok.0) c.pop.ensures.value in
    elim c.in_default.branch [
      | in_default-via-in-Some+in_default w ↦ (let none : w.in_default.field-0 ≡ None = search rules in not_some_none manager c.pop.result w.in_default.field-0 is w.in_default.is none)
      | in_default-via-in_default w ↦ not_none manager c.pop.result is w.in_default.is
    ]
