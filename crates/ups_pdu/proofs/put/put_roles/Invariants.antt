use Rattle.std.proofs.Common.{◌≡◌, ◌++◌, take}
use Rattle.std.specs.List.{flat_map}
use Rattle.ups_pdu.specs.Written.{written_item, role_content}
use Rattle.ups_pdu.proofs.put.put_roles.Given as goal

abbrev pub invariant-loop-role : goal.invariant-loop-role
invariant-loop-role g l = l.out.items ≡ l.fn.out.items ++ flat_map (λ r. written_item 0x54 (role_content r)) (take l.role-index l.roles)
