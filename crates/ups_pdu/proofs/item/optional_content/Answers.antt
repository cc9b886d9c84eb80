use Rattle.std.proofs.Common.{◌∷◌, ◌∙◌, ap, List, ℕ}
use Rattle.ups_pdu.proofs.Contents.{not_optional}
use Rattle.ups_pdu.proofs.item.optional_content.Goals as goal

pub returns-in-None : goal.returns-in-None
returns-in-None c = λ found h.
    let n = c.in-Some.ensures.next found h in
    n.parts ∙ ap (λ (l : List (List ℕ)). c.in-Some.content.now ∷ l) (c.in-None.ensures.next n.others n.has)

pub returns-in-Some-next_of : goal.returns-in-Some-next_of
returns-in-Some-next_of c = λ found h o e.
    let n = c.in-Some.ensures.next found h in
    not_optional _ _ _ _ _ found n (c.in-Some-next_of.ensures.next n.others n.has) o e
