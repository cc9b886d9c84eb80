use Rattle.std.proofs.Common.{◌∙◌, ◌<◌, ◌≤◌, ◌^◌, [], ◌∷◌, ◌++◌, length, ap, sym, subst, arith, Some}
use Rattle.ups_service.specs.State.{State}
use Rattle.ups_service.specs.Law.{is_legal}
use Rattle.ups_turn.proofs.Opens.{begins}
use Rattle.ups_turn.proofs.desk.Desk.with_seats.Goals as goal

pub new-requires : goal.new-requires
new-requires g c =
    let e = c.of.ensures in
    let n : c.from.result ≤ 1024 = let f = c.from.ensures in let r = c.requires in omega arith in
    let small : c.args.manager.settings.limit < 2 ^ 64 = let l = c.limit-limit.ensures in let r = c.limit-limit.type_inv in omega arith in
    begins (record { manager = c.of.result.value; seats = c.from.result }) _ _ (subst (λ (m : State _). is_legal m.settings m.history) (sym e) c.entries-count.ensures.legal) (subst (λ (m : State _). m.settings.limit < 2 ^ 64) (sym e) small) n
    (ap (λ k. k ∷ 0 ∷ 0 ∷ []) (c.entries-count.ensures.count ∙ ap (λ (m : State _). length m.history) (sym e)))
    (c.push_reserved.ensures.items ∙ (λ j. c.in-Ok-with_capacity.ensures.items j ++ Some (sym e j) ∷ []))

pub back-requires : goal.back-requires
back-requires g c = (c.args.manager, c.in-Err.ensures.err ∙ c.push_reserved.ensures.items ∙ (λ j. c.in-Ok-with_capacity.ensures.items j ++ Some c.args.manager ∷ []))
