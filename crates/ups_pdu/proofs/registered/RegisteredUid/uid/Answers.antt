use Rattle.std.proofs.Common.{◌∙◌, ap}
use Rattle.ups_pdu.specs.Padding.{without_padding}
use Rattle.ups_pdu.proofs.RegisteredUids.{without_padding-text_of}
use Rattle.ups_pdu.proofs.registered.RegisteredUid.uid.Goals as goal

pub returns : goal.returns
returns c = c.in-Some.ensures.parts ∙ ap without_padding c.text.ensures ∙ without_padding-text_of c.args.self
