use Rattle.std.proofs.Common.{ℤ, Ok, subst, w16}
use Rattle.std.proofs.lemmas.Int.{to_z-of_z}
use Rattle.ups_requests.specs.Asking.{Asks}
use Rattle.ups_requests.proofs.Determined.{asks_for}
use Rattle.ups_requests.proofs.telling.requested.Goals as goal

pub returns-in-Do : goal.returns-in-Do
returns-in-Do g c =
    asks_for c.bytes_spell_one_set.ensures c.args.offset c.args.operation.now c.args.data_set.now c.in-Do.request
    (subst (λ a. Asks c.args.offset c.args.operation.now c.args.data_set.now (Ok a)) c.in-Do.is
    (subst (λ (z : ℤ). Asks z c.args.operation.now c.args.data_set.now (Ok c.in_ok-ask.ask)) (to_z-of_z w16 c.args.offset c.ranges.offset) c.in_ok-ask.ensures))
