use Rattle.std.proofs.Common.{sym, ◌∙◌}
use Rattle.ups_pdu.specs.Identifier.{SpellsUid}
use Rattle.ups_journal.proofs.Unpadded.{spells_itself}
use Rattle.ups_journal.proofs.Same.{another}
use Rattle.ups_journal.proofs.texts.uid_in.Goals as goal

pub returns-then-ne : goal.returns-then-ne
returns-then-ne c = λ is.
    let s : SpellsUid c.args.text.now c.args.text.now = spells_itself c.args.text.now is in
    another c.as_bytes.result.now c.args.text.now c.ne.result c.ne.ensures c.if-ne.true (c.as_bytes.ensures.bytes ∙ (c.in_ok-uid.ensures.parts ∙ sym s.parts))
