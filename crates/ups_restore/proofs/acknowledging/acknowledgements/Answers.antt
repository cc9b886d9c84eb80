use Rattle.std.proofs.Common.{◌≡◌, ℕ, ◌<◌, ◌≤◌, ◌++◌, List, length, get_or, subst, ap, ◌∙◌}
use Rattle.ups_life.specs.Steps.{past}
use Rattle.ups_restore.specs.declared.acknowledging.TheConstants.{COMPACTOR}
use Rattle.ups_restore.specs.declared.survey.EventCount.{EventCount}
use Rattle.ups_restore.specs.Compacting.{known_behind, ack_of}
use Rattle.ups_restore.proofs.Acks.{next_acks, all_acks}
use Rattle.ups_restore.proofs.Counted.{of_peer, number_counted, as_many}
use Rattle.ups_restore.proofs.acknowledging.acknowledgements.Goals as goal

pub loop-count-preserved : goal.loop-count-preserved
loop-count-preserved c =
    let m = c.args.survey.now in
    let fresh = c.args.fresh.now in
    let x = c.count-item.result in
    let counts = c.counts-counts.ensures in
    let of = of_peer m.settings (past m.history) m.settings.peers c.loop-count.count-index x
    (subst (λ (xs : List EventCount). c.loop-count.count-index < length xs) counts c.loop-count-test.true)
    (subst (λ (xs : List EventCount). x ≡ get_or xs c.loop-count.count-index x) counts c.count-item.is) in
    next_acks COMPACTOR c.args.moment (known_behind m.settings m.history fresh.history) m.settings.peers c.loop-count.count-index of.peer c.loop-count.entries.items c.add_known.new.entries.items c.known_by-number.result of.low of.is
    c.loop-count.invariant
    (c.known_by-number.ensures ∙ number_counted m.settings fresh.settings m.history fresh.history of.peer.ae x c.requires.settings of.counts)
    (c.in_ok-add_known.ensures ∙ ap (λ w. c.loop-count.entries.items ++ ack_of COMPACTOR c.args.moment w c.known_by-number.result) (ap (λ (y : EventCount). y.ae) of.counts))

pub returns-clause-entries : goal.returns-clause-entries
returns-clause-entries c =
    all_acks COMPACTOR c.args.moment (known_behind c.args.survey.now.settings c.args.survey.now.history c.args.fresh.now.history) c.args.survey.now.settings.peers c.loop-count.count-index c.loop-count.entries.items
    (subst (λ (n : ℕ). n ≤ c.loop-count.count-index) (ap length c.counts-counts.ensures ∙ as_many c.args.survey.now.settings (past c.args.survey.now.history) c.args.survey.now.settings.peers) c.loop-count-test.false)
    c.loop-count.invariant
