use Rattle.std.proofs.Common.{w16, ℤ, List, [], inr, ap, subst, ◌∙◌}
use Rattle.std.proofs.lemmas.Int.{to_z-of_z}
use Rattle.ups_life.specs.declared.entry.Entry.{Entry}
use Rattle.ups_life.specs.Limits.{history_limit}
use Rattle.ups_life.specs.Settings.{Settings}
use Rattle.ups_script.specs.Limits.{max_lines}
use Rattle.ups_script.specs.Running.{Runs}
use Rattle.ups_script.proofs.running.run_of.Goals as goal

pub returns-clause-runs : goal.returns-clause-runs
returns-clause-runs g c =
    let after = c.answer_each.new.manager.history in
    let input = g.R.Read.remaining c.args.reader.now in
    let left = g.R.Read.remaining c.answer_each.new.reader in
    let written = g.W.Write.contents c.args.writer.now in
    let then = g.W.Write.contents c.answer_each.new.writer in
    let settings = c.in-Ok.ensures.settings ∙ ap {B = Settings} (λ (z : ℤ). record { peers = c.args.peers.now; keep = c.args.keep; offset = z; limit = history_limit }) (to_z-of_z w16 c.args.offset c.ranges.offset) in
    inr (
      after,
      subst (λ (s : Settings). Runs s max_lines input left written then [] after c.answer_each.result) settings
          (subst (λ (h : List (Entry g.row.A.Denot)). Runs c.in-Ok.manager.settings max_lines input left written then h after c.answer_each.result) c.in-Ok.ensures.history c.answer_each.ensures.runs),
    )
