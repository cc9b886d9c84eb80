use Rattle.std.proofs.Common.{Bool, [], take, sym, subst, ap, ◌∙◌}
use Rattle.std.proofs.lemmas.List.{take-map}
use Rattle.ups_journal.specs.Columns.{recorded}
use Rattle.ups_restore.specs.Leaving.{BecomeAll}
use Rattle.ups_start.proofs.Taken.{all_kept}
use Rattle.ups_start.proofs.laws.a_start_has_what_answers_rest_on.Goals as goal

pub returns : goal.returns
returns c = λ s found choices moment rests after seen none begins same.
    let os = begins.taken.0 in
    let are = all_kept s [] found os begins.entered (subst (λ (may : Bool). BecomeAll s [] found may os begins.entered) none begins.taken.1) in
    (begins.entered, are, sym (take-map recorded rests begins.entered) ∙ (ap (take rests) are ∙ same), begins.becomes)
