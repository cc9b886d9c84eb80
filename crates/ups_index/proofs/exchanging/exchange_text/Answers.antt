use Rattle.ups_index.specs.Numbers.{text_number}
use Rattle.ups_index.proofs.exchanging.exchange_text.Goals as goal

pub returns-clause-keeps : goal.returns-clause-keeps
returns-clause-keeps g c = λ n other apart h. c.add_text.ensures.keeps n other (c.drop_at.ensures.keeps n other apart h)

pub returns-clause-spares : goal.returns-clause-spares
returns-clause-spares g c = λ stored h x. c.add_text.ensures.keeps (text_number stored.0 stored.1) c.args.place (c.drop_at.ensures.spares stored h x)
