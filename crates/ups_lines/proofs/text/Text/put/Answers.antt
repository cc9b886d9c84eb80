use Rattle.std.proofs.Common.{◌≡◌, ◌++◌, ℕ, List, sym, ◌∙◌, subst, rules}
use Rattle.std.specs.Prelude.{OnOk}
use Rattle.ups_lines.proofs.Decoding.{bare, none_read, one_read, all_read}
use Rattle.ups_lines.proofs.text.Text.put.Goals as goal

pub returns-then-not-has_escapes : goal.returns-then-not-has_escapes
returns-then-not-has_escapes g c = λ bytes is.
    subst (λ (l : List ℕ). OnOk c.extend_from_slice.result (c.extend_from_slice.new.self.items ≡ c.args.out.now.items ++ l))
    (bare bytes c.args.self.written.now (sym c.has_escapes.ensures ∙ c.if-not-has_escapes.true) is) (search rules)

pub loop-front-init : goal.loop-front-init
loop-front-init g c = none_read _ _

pub loop-front-preserved : goal.loop-front-preserved
loop-front-preserved g c = rw c.in_ok-push.ensures.items (one_read _ _ _ _ _ _ c.in-Some.ensures c.loop-front.invariant)

pub returns : goal.returns
returns g c = all_read _ _ _ _ c.in_default.ensures c.loop-front.invariant
