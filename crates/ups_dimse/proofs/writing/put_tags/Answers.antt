use Rattle.std.proofs.Common.{rules}
use Rattle.ups_dimse.proofs.Sizes.{tags_more, held_more, tags_written}
use Rattle.ups_dimse.proofs.writing.put_tags.Goals as goal

pub loop-tag-preserved : goal.loop-tag-preserved
loop-tag-preserved g c = (
  tags_more _ _ _ c.args.tags.now c.loop-tag.tag-index _ (search rules) c.loop-tag.invariant.0 c.in_ok-put_tag.ensures.wrote,
  held_more c.args.tags.now c.loop-tag.tag-index _ (search rules) c.loop-tag.invariant.1 c.in_ok-put_tag.ensures.held,
)

pub returns-clause-wrote : goal.returns-clause-wrote
returns-clause-wrote g c = tags_written c.args.number c.args.tags.now _ c.put_header.new.out.items _ c.loop-tag.tag-index (search rules) (search rules) (search rules) c.loop-tag.invariant.0
