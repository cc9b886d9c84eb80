use Rattle.ups_requests.proofs.asking.message.Goals as goal

pub returns-clause-holds : goal.returns-clause-holds
returns-clause-holds g c = λ said. absurd (c.is_colon_first.ensures.other c.if-is_colon_first.false said)
