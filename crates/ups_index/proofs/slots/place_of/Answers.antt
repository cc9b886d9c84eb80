use Rattle.std.proofs.Common.{◌∙◌, ap}
use Rattle.ups_index.specs.Numbers.{step_number}
use Rattle.ups_index.proofs.Placed.{place_either}
use Rattle.ups_index.proofs.slots.place_of.Goals as goal

pub returns-in-None : goal.returns-in-None
returns-in-None g c =
    place_either c.args.slots.now.slots c.args.step c.args.steps.now.posts c.runs-run.result.0 c.runs-run.result.1.now c.step_number-number.result c.requires (c.step_number-number.ensures ∙ ap step_number c.as_bytes.ensures.bytes)
    c.runs-run.ensures c.in-None.ensures c.place_among.result c.place_among.ensures
