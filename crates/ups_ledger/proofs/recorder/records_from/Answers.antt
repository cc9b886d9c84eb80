use Rattle.std.proofs.Common.{◌≡◌, ◌∙◌, ap, map, subst, take}
use Rattle.std.specs.Prelude.{IfOk}
use Rattle.ups_journal.specs.Columns.{recorded}
use Rattle.ups_ledger.proofs.recorder.records_from.Goals as goal

pub returns-in-Some : goal.returns-in-Some
returns-in-Some g c = subst (λ es. IfOk c.records_of.result (λ v. v.items ≡ map recorded es)) (c.part.ensures ∙ ap (take c.args.most) c.in-Some.ensures) c.records_of.ensures
