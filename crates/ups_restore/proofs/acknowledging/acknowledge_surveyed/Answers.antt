use Rattle.std.proofs.Common.{◌++◌, List, sym, subst, ap, ◌∙◌}
use Rattle.std.specs.List.{All}
use Rattle.ups_life.specs.declared.entry.Entry.{Entry}
use Rattle.ups_life.specs.Settings.{IsMoment}
use Rattle.ups_life.specs.Steps.{past}
use Rattle.ups_service.specs.Law.{is_legal}
use Rattle.ups_restore.specs.declared.acknowledging.TheConstants.{COMPACTOR}
use Rattle.ups_restore.specs.Compacting.{known_behind}
use Rattle.ups_restore.proofs.Acks.{moments_of}
use Rattle.ups_restore.proofs.Leftover.{past_compacted}
use Rattle.ups_restore.proofs.acknowledging.acknowledge_surveyed.Goals as goal

pub returns-in-Err-clause-only : goal.returns-in-Err-clause-only
returns-in-Err-clause-only c = λ ok.
    let is = sym c.in_ok-entries.ensures.entries in
    c.in-Err.ensures.legally
    (subst (λ (es : List (Entry _)). is_legal c.args.fresh.now.settings (c.args.fresh.now.history ++ es)) is ok)
    (subst (λ (es : List (Entry _)). All (λ (e : Entry _). IsMoment e.moment) es) is
    (moments_of COMPACTOR c.args.moment (known_behind c.args.survey.now.settings c.args.survey.now.history c.args.fresh.now.history) c.requires.moment c.args.survey.now.settings.peers))

pub returns-in-Ok-clause-compacted : goal.returns-in-Ok-clause-compacted
returns-in-Ok-clause-compacted c = λ is.
    ap past (c.in-Ok.ensures.entered ∙ ap (λ (es : List (Entry _)). c.args.fresh.now.history ++ es) c.in_ok-entries.ensures.entries)
    ∙ past_compacted c.args.survey.now.settings c.args.survey.now.history c.args.fresh.now.history c.entries-count.ensures.legal is COMPACTOR c.args.moment
