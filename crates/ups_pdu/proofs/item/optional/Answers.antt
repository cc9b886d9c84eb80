use Rattle.std.proofs.Common.{◌∷◌, []}
use Rattle.ups_pdu.proofs.Contents.{optional_content_of, one_unspelled, spelled_at}
use Rattle.ups_pdu.proofs.item.optional.Goals as goal

pub returns-in_err-content : goal.returns-in_err-content
returns-in_err-content g c =
    rw c.from_residual.ensures
    (λ found h o s. let content = optional_content_of g.T.Spelled.spells found o s in c.in_err-content.ensures found h content.0 content.1)

pub returns-in_default : goal.returns-in_default
returns-in_default g c = λ found h. spelled_at g.T.Spelled.spells found [] [] (rw c.in_default.is at (c.in_ok-content.ensures found h)) tt

pub returns-in_err-x : goal.returns-in_err-x
returns-in_err-x g c =
    rw c.from_residual-in_err-x.ensures
    (λ found h o s. one_unspelled g.T.Spelled.spells found c.in-Some.content.now (rw c.in-Some.is at (c.in_ok-content.ensures found h)) c.in_err-x.ensures o s)

pub returns : goal.returns
returns g c = λ found h.
    spelled_at g.T.Spelled.spells found (c.in-Some.content.now ∷ []) (c.in_ok-x.x ∷ []) (rw c.in-Some.is at (c.in_ok-content.ensures found h)) (c.in_ok-x.ensures, tt)
