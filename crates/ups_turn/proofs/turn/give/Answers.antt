use Rattle.std.proofs.Common.{ℕ, ◌∷◌, List, Option, None, sym, ap, ◌∙◌}
use Rattle.atomic_table.specs.Table.{rest}
use Rattle.ups_service.specs.State.{State}
use Rattle.ups_turn.proofs.Turns.{may_decide, may_serve}
use Rattle.ups_turn.proofs.turn.give.Goals as goal

pub exchange-requires : goal.exchange-requires
exchange-requires g c =
    let holds = c.requires.may.holds in
    (c.requires.table.0, (None, holds ∙ ap (λ (r : List (ℕ × Option (State g.row.A.Denot))). (0, None) ∷ r) (sym (ap rest holds))))

pub count_entered-requires-clause-may : goal.count_entered-requires-clause-may
count_entered-requires-clause-may g c = may_decide _ _ c.args.manager c.args.count c.requires.may c.exchange.ensures.3

pub serve-served-requires-clause-may : goal.serve-served-requires-clause-may
serve-served-requires-clause-may g c = may_serve _ _ _ c.args.manager c.args.count c.requires.may c.exchange.ensures.3 c.count_entered.ensures.decided
