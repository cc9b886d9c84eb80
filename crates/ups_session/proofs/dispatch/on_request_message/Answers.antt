use Rattle.std.proofs.Common.{sym, ◌∙◌}
use Rattle.ups_session.specs.Dispatch.{answered_at_once, asking}
use Rattle.ups_session.proofs.dispatch.on_request_message.Goals as goal

pub returns-in_ok-respond_at_once-in-Ok-Answer-clause-effect : goal.returns-in_ok-respond_at_once-in-Ok-Answer-clause-effect
returns-in_ok-respond_at_once-in-Ok-Answer-clause-effect g c =
    let named = rw c.as_slice.ensures at (sym c.context_at.ensures ∙ c.in-Some.is) in
    let seen = rw c.in-Ok-Answer.field-0-is at c.in-Ok-Answer.ensures.dispatches in
    rw named (answered_at_once c.in-Ok-Answer.status, seen, c.in_ok-respond_at_once-in-Ok-Answer.ensures.effect)

pub returns-in_ok-await_reply-in-Ok-Question-clause-effect : goal.returns-in_ok-await_reply-in-Ok-Question-clause-effect
returns-in_ok-await_reply-in-Ok-Question-clause-effect g c =
    let named = rw c.as_slice.ensures at (sym c.context_at.ensures ∙ c.in-Some.is) in
    let seen = rw c.in-Ok-Question.field-0-is at c.in-Ok-Question.ensures.dispatches in
    rw named (asking c.in-Ok-Question.ask, seen, c.in_ok-await_reply-in-Ok-Question.ensures.effect)
