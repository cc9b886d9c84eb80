use Rattle.std.proofs.Common.{◌≡◌, ℕ, ◌<◌, ◌≤◌, ◌++◌, ◌∷◌, [], List, length, get_or, refl, subst, ap, ◌∙◌}
use Rattle.ups_life.specs.Steps.{past}
use Rattle.ups_compact.specs.Shifting.{shift}
use Rattle.ups_restore.specs.declared.survey.EventCount.{EventCount}
use Rattle.ups_restore.proofs.Between.{of_no_peers, one_peer_more, of_all}
use Rattle.ups_restore.proofs.Counted.{of_peer, shift_counted, as_many}
use Rattle.ups_restore.proofs.lessening.shifts_between.Goals as goal

pub loop-count-init : goal.loop-count-init
loop-count-init c = of_no_peers (shift c.args.survey.now.settings (past c.args.fresh.now.history) (past c.args.survey.now.history)) c.none-shifts.result c.none-shifts.ensures.none

pub loop-count-preserved : goal.loop-count-preserved
loop-count-preserved c =
    let m = c.args.survey.now in
    let fresh = c.args.fresh.now in
    let x = c.count-item.result in
    let counts = c.counts-counts.ensures in
    let of = of_peer m.settings (past m.history) m.settings.peers c.loop-count.count-index x
    (subst (λ (xs : List EventCount). c.loop-count.count-index < length xs) counts c.loop-count-test.true)
    (subst (λ (xs : List EventCount). x ≡ get_or xs c.loop-count.count-index x) counts c.count-item.is) in
    one_peer_more (shift m.settings (past fresh.history) (past m.history)) m.settings.peers c.loop-count.count-index of.peer c.loop-count.shifts c.push.new.self c.shift_of-less.result of.low of.is c.loop-count.invariant
    (c.shift_of-less.ensures ∙ shift_counted m.settings fresh.settings fresh.history m.history of.peer.ae x c.requires of.counts)
    (c.in_ok-push.ensures ∙ ap (λ (w : List ℕ). c.loop-count.shifts ++ record { watcher = w; less = c.shift_of-less.result } ∷ []) (ap (λ (y : EventCount). y.ae) of.counts))

pub returns : goal.returns
returns c =
    of_all c.args.survey.now.settings (past c.args.fresh.now.history) (past c.args.survey.now.history) c.args.survey.now.settings.peers c.loop-count.count-index c.loop-count.shifts c.entries-count.ensures.legal refl
    (subst (λ (n : ℕ). n ≤ c.loop-count.count-index) (ap length c.counts-counts.ensures ∙ as_many c.args.survey.now.settings (past c.args.survey.now.history) c.args.survey.now.settings.peers) c.loop-count-test.false)
    c.loop-count.invariant
