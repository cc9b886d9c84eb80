use Rattle.ups_pdu.proofs.Contents.{has_some, not_nil}
use Rattle.ups_pdu.proofs.item.has.Goals as goal

pub returns : goal.returns
returns c = λ found h. rw c.is_some.ensures (has_some _ found _ (c.next_of.ensures.next found h) (λ x n. not_nil _ _ _ found n))
