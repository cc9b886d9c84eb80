use Rattle.std.proofs.Common.{◌≡◌, ℕ, ◌<◌, List, get_or, ap, ◌∙◌}
use Rattle.ups_pdu.specs.declared.associate.AnsweredContext.{AnsweredContext}
use Rattle.ups_pdu.specs.declared.associate.ContextAnswer.{ContextAnswer}
use Rattle.ups_pdu.specs.declared.associate.ProposedContext.{ProposedContext}
use Rattle.ups_assoc.specs.Contexts.{context_answer, answered}
use Rattle.ups_assoc.proofs.Different.{all_push}
use Rattle.ups_assoc.proofs.Going.{map_next}
use Rattle.ups_assoc.proofs.negotiating.answers_to.Goals as goal

answer_is : {A : Type 0} (proposed : List (ProposedContext A)) (i : ℕ) (x : ProposedContext A) (a : ContextAnswer) (answer : AnsweredContext) → answer ≡ record { id = x.id; answer = a } → a ≡ context_answer x → x ≡ get_or proposed i x → answer ≡ answered (get_or proposed i x)
answer_is {A} proposed i x a answer made is here =
    made ∙ ap (λ (b : ContextAnswer). record { id = x.id; answer = b }) is ∙ ap (λ (p : ProposedContext A). answered p) here

pub loop-context-preserved : goal.loop-context-preserved
loop-context-preserved g c = (
  map_next (λ (p : ProposedContext g.row.A.Denot). answered p) c.args.proposed.now c.loop-context.context-index c.context-item.result c.answer_at.result c.loop-context.answers.items c.push.new.self.items c.loop-context-test.true
      (answer_is c.args.proposed.now c.loop-context.context-index c.context-item.result c.context_answer.result c.answer_at.result c.answer_at.ensures.answer c.context_answer.ensures c.context-item.is) c.loop-context.invariant.0 c.in_ok-push.ensures.items,
  rw c.in_ok-push.ensures.items (all_push (λ (x : AnsweredContext). x.id < 256) c.loop-context.answers.items c.answer_at.result c.loop-context.invariant.1 c.answer_at.ensures.small),
)
