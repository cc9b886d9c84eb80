use Rattle.std.proofs.Common.{◌≡◌, drop}
use Rattle.ups_dataset.specs.Dictionary.{vr_in}
use Rattle.ups_dataset.proofs.dictionary.vr_in.Given as goal

abbrev pub invariant-loop-attribute : goal.invariant-loop-attribute
invariant-loop-attribute l = vr_in l.attributes l.tag ≡ vr_in (drop l.attribute-index l.attributes) l.tag
