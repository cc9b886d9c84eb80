use Rattle.std.proofs.Common.{arith}
use Rattle.ups_dimse.proofs.AttributeTags.{some_tags, tags_end}
use Rattle.ups_dimse.proofs.elements.tags_in.Goals as goal

pub returns-in_err-push-clause-there : goal.returns-in_err-push-clause-there
returns-in_err-push-clause-there g c = some_tags c.args.bytes.now (λ k l. omega (arith, c.type_inv.bytes k)) c.requires

pub returns-clause-read : goal.returns-clause-read
returns-clause-read g c = rw c.from_vec.ensures (tags_end _ _ c.loop-tag.rest.now c.loop-tag.invariant c.in_default.ensures)

pub returns-clause-there : goal.returns-clause-there
returns-clause-there g c = (c.loop-tag.tags.items, tags_end _ _ c.loop-tag.rest.now c.loop-tag.invariant c.in_default.ensures)
