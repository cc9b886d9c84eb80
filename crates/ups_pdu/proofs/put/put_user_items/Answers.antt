use Rattle.ups_pdu.proofs.put.put_user_items.Goals as goal

pub put_item-requires-in-Some-implementation_version : goal.put_item-requires-in-Some-implementation_version
put_item-requires-in-Some-implementation_version g c =
    rw c.as_slice-in-Some-implementation_version.ensures ((rw c.in-Some-implementation_version.is at c.requires.implementation_version).0)
