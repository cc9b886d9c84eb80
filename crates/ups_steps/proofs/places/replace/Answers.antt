use Rattle.std.proofs.Common.{Some, true≢false, sym, ap, ◌∙◌}
use Rattle.std.specs.Prelude.{is_some}
use Rattle.ups_steps.specs.Places.{held_in}
use Rattle.ups_steps.proofs.Covering.{set_is_insert}
use Rattle.ups_steps.proofs.Placing.{held_by, found, replaced}
use Rattle.ups_steps.proofs.places.replace.Goals as goal

pub unreachable-requires : goal.unreachable-requires
unreachable-requires g c =
    true≢false (sym c.requires ∙ ap is_some (sym (found c.args.step c.args.places.now.entries c.len.ensures.unique) ∙ ap held_by (sym c.in_default.ensures.value)))

pub returns-clause-steps : goal.returns-clause-steps
returns-clause-steps g c = ap held_in (c.get_mut.follows.holds (Some c.args.held)).0 ∙ replaced c.args.step c.args.held c.args.places.now.entries c.len.ensures.unique c.requires

pub returns-clause-covers : goal.returns-clause-covers
returns-clause-covers g c =
    λ right. c.forget.ensures c.args.places.now.entries (Some c.args.held) ((c.get_mut.follows.holds (Some c.args.held)).0 ∙ set_is_insert c.args.step (Some c.args.held) c.in-Some.place.now c.args.places.now.entries (sym c.in-Some.ensures.value)) right
