use Rattle.ups_requests.proofs.Exacting.{behind_first, not_behind, none_behind}
use Rattle.ups_requests.proofs.exact.is_colon_fourth.Goals as goal

pub returns-in-Some-clause-colon : goal.returns-in-Some-clause-colon
returns-in-Some-clause-colon c = λ is. behind_first _ _ _ _ c.in-Some.ensures.word (c.is_colon_third.ensures.colon is)

pub returns-in-Some-clause-other : goal.returns-in-Some-clause-other
returns-in-Some-clause-other c = λ is. not_behind _ _ _ _ c.in-Some.ensures.word (c.is_colon_third.ensures.other is)

pub returns-in-None-clause-other : goal.returns-in-None-clause-other
returns-in-None-clause-other c = λ is. none_behind _ _ c.in-None.ensures.word
