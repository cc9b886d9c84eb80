use Rattle.ups_turn.proofs.Owns.{call_adds, observing_adds_none, learning_adds_none, all_have_own}
use Rattle.ups_turn.proofs.laws.a_history_has_what_each_pass_entered.Goals as goal

pub returns-clause-called : goal.returns-clause-called
returns-clause-called g c = call_adds

pub returns-clause-observed : goal.returns-clause-observed
returns-clause-observed g c = observing_adds_none

pub returns-clause-learned : goal.returns-clause-learned
returns-clause-learned g c = learning_adds_none

pub returns-clause-closed : goal.returns-clause-closed
returns-clause-closed g c = all_have_own
