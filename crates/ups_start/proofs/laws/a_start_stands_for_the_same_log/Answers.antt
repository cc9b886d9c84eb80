use Rattle.std.proofs.Common.{List, inl, inr, sym, subst, ap, ◌∙◌}
use Rattle.std.proofs.lemmas.List.{reverse-reverse}
use Rattle.std.specs.declared.alloc.Global.{Global}
use Rattle.ups_life.specs.declared.entry.Entry.{Entry}
use Rattle.ups_life.specs.Steps.{past}
use Rattle.ups_restore.specs.declared.acknowledging.TheConstants.{COMPACTOR}
use Rattle.ups_compact.specs.Course.{IsLeftOf}
use Rattle.ups_compact.proofs.Standing.{left_less}
use Rattle.ups_start.proofs.laws.a_start_stands_for_the_same_log.Goals as goal

pub returns : goal.returns
returns c = λ s found choices moment after log once b left.
    elim b.becomes [
      | inl same ↦ subst (λ (h : List (Entry Global)). IsLeftOf s h log) (sym same) left
      | inr both ↦
          subst (λ (h : List (Entry Global)). IsLeftOf s h log) (sym (sym (reverse-reverse after) ∙ ap past both.1))
          (left_less s b.entered log left COMPACTOR moment once)
    ]
