use Rattle.std.proofs.Common.{ℕ, length, subst, sym}
use Rattle.ups_life.specs.Steps.{past}
use Rattle.ups_service.specs.Asked.{asked_rows, IsAsked}
use Rattle.ups_manager.proofs.manager.Manager.find_noted.Goals as goal

pub returns-clause-asked : goal.returns-clause-asked
returns-clause-asked g c =
    let n = length (asked_rows c.args.self.now.settings (past c.args.self.now.history) c.args.keys.now) in
    subst (λ (k : ℕ). IsAsked k n c.count.result c.find-reply.result) c.new-probe.ensures
    (subst (λ (k : ℕ). IsAsked c.new-probe.result.count n k c.find-reply.result) (sym c.count.ensures) c.find-reply.ensures.asked)
