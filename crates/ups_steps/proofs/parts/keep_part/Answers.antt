use Rattle.std.proofs.Common.{sym, subst, arith}
use Rattle.ups_steps.specs.Parts.{PartsCover}
use Rattle.ups_steps.proofs.Covering.{covers_made, covers_more}
use Rattle.ups_steps.proofs.parts.keep_part.Goals as goal

pub returns-then-k-len-clause-covers : goal.returns-then-k-len-clause-covers
returns-then-k-len-clause-covers g c = λ places is right. covers_made c.args.k c.args.parts.now.items places c.args.part is right

pub returns-clause-covers : goal.returns-clause-covers
returns-clause-covers g c =
    λ places is right. subst (λ ps. PartsCover ps places) (sym c.in_ok-push.ensures.items) (covers_more c.args.k c.args.parts.now.items places c.args.part (omega (arith, c.if-k-len.false, c.len.ensures, c.requires)) is right)
