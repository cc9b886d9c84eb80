use Rattle.std.proofs.Common.{List, ℕ, subst}
use Rattle.ups_pdu.specs.Identifier.{SpellsUid}
use Rattle.ups_pdu.proofs.UserWays.{one_role}
use Rattle.ups_pdu.proofs.role.RoleSpelled.spelled_by.Goals as goal

pub returns-in_err-sop_class : goal.returns-in_err-sop_class
returns-in_err-sop_class c =
    rw c.from_residual-in_err-sop_class.ensures
    (λ role s.
    let same = one_role _ _ _ _ _ _ _ s.is c.in_ok-text.ensures in
    c.in_err-sop_class.ensures role.sop_class (subst (λ (t : List ℕ). SpellsUid t role.sop_class) same.0 s.sop_class))
