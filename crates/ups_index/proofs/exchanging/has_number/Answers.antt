use Rattle.std.proofs.Common.{◌≢◌, List, ℕ}
use Rattle.ups_dataset.specs.declared.tag.Tag.{Tag}
use Rattle.ups_index.specs.Numbers.{text_number}
use Rattle.ups_index.proofs.Exchanged.{one_more, all_of}
use Rattle.ups_index.proofs.exchanging.has_number.Goals as goal

pub loop-stored-preserved : goal.loop-stored-preserved
loop-stored-preserved g c =
    one_more (λ (s : Tag × List ℕ). text_number s.0 s.1 ≢ c.args.number) c.args.texts.now c.loop-stored.stored-index c.stored-item.result c.loop-stored-test.true c.stored-item.is c.loop-stored.invariant
    (c.has_this_number.ensures c.if-has_this_number.false)

pub returns : goal.returns
returns g c = λ _. all_of (λ (s : Tag × List ℕ). text_number s.0 s.1 ≢ c.args.number) c.args.texts.now c.loop-stored.stored-index c.loop-stored-test.false c.loop-stored.invariant
